-- When a question about a row is answered. Assumes nothing.
use Rattle.std.proofs.Common.{◌≡◌, ℕ, ◌≤◌, true, not, List, length, Ok, le_refl, arith}
use Rattle.std.specs.Prelude.{nat_lt}
use Rattle.std.proofs.lemmas.Bool.Decides.{nat_tests}
use Rattle.std.proofs.lemmas.List.Sums.{prefix_len_is, prefix_len_passes}
use Rattle.measure.specs.Asked.{asked, leading_marks}
use Rattle.measure.specs.Rows.{Row}

-- a row of marks is never refused
pub asked_row : {X : Type 0} (f : List ℕ → X) (n : ℕ) (row : List ℕ) → Row n row → asked n f row ≡ Ok (f row)
asked_row f n row r =
    let long = r.long in
    let all : leading_marks row ≡ length row = prefix_len_is (λ x. not (nat_lt 1 x)) row (length row) 0 (le_refl _) (λ k l. mark _ (r.bits k (omega arith))) (λ l. absurd (omega arith)) in
    grind (arith, nat_tests, all, long)
  where
    mark : (x : ℕ) → x ≤ 1 → not (nat_lt 1 x) ≡ true
    mark x h = grind (arith, nat_tests)

-- and what is not refused is a row of marks
pub row_asked : {X : Type 0} (f : List ℕ → X) (x : X) (n : ℕ) (row : List ℕ) → Ok x ≡ asked n f row → Row n row
row_asked f x n row answered =
    let long : length row ≡ n = grind (arith, nat_tests, answered) in
    let marked : n ≤ leading_marks row = grind (arith, nat_tests, answered) in
    record { long = long; bits = λ k below. mark _ (prefix_len_passes (λ x. not (nat_lt 1 x)) row k 0 (omega arith)) }
  where
    mark : (x : ℕ) → not (nat_lt 1 x) ≡ true → x ≤ 1
    mark x h = grind (arith, nat_tests, h)
