-- A field in the middle of a row. Assumes nothing.
use Rattle.std.proofs.Common.{◌≡◌, ℕ, ◌+◌, ◌-◌, ◌^◌, ◌<◌, ◌≤◌, true, List, ◌++◌, length, take, drop, Ok, ap, ◌∙◌, arith}
use borrow.Rule.Slice.PartMut.{put_mid}
use Rattle.std.specs.List.{between}
use Rattle.std.proofs.lemmas.List.{drop_at, drop-drop, length-take-le, take_at}
use Rattle.std.proofs.lemmas.List.Edits.{length-between}
use Rattle.columns.specs.Field.{field, fits}
use Rattle.columns.specs.Number.{number}
use Rattle.columns.proofs.Laws.{length_field, written_reads_back}

-- the row after w of its columns, from a on, were lent to the digit writer
pub lent : (row part : List ℕ) (a w v : ℕ) → a + w ≤ length row → part ≡ field (length (between a (a + w) row)) v →
    put_mid a (a + w - a) row part ≡ take a row ++ (field w v ++ drop (a + w) row)
lent row part a w v inside e =
    let wide : length (between a (a + w) row) ≡ w = length-between row a (a + w) inside ∙ omega arith in
    let k : a + (a + w - a) ≡ a + w = omega arith in
    let f : part ≡ field w v = e ∙ ap (λ n. field n v) wide in
    let d : drop (a + w - a) (drop a row) ≡ drop (a + w) row = drop-drop (a + w - a) a row ∙ ap (λ n. drop n row) k in
    λ i. take a row ++ (f i ++ d i)

-- the field stands in its columns, and is read back there
pub lent_reads_back : (row : List ℕ) (a w v : ℕ) → v < 2 ^ 64 → a + w ≤ length row → fits w v ≡ true → number (between a (a + w) (take a row ++ (field w v ++ drop (a + w) row))) ≡ Ok v
lent_reads_back row a w v small inside fit =
    let l : length (take a row) ≡ a = length-take-le a row (omega arith) in
    let n : length (field w v) ≡ a + w - a = omega (arith, length_field w v small fit) in
    let here : between a (a + w) (take a row ++ (field w v ++ drop (a + w) row)) ≡ field w v =
    ap (take (a + w - a)) (drop_at (take a row) (field w v ++ drop (a + w) row) a l) ∙ take_at (field w v) (drop (a + w) row) (a + w - a) n in
    ap number here ∙ written_reads_back w v small fit
