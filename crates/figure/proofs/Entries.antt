-- The rows of a closeness table. Assumes nothing.
use Rattle.std.proofs.Common.{◌≡◌, ℕ, zero, suc, ◌*◌, ◌/◌, ◌%◌, ◌<◌, ◌≤◌, List, [], ◌∷◌, ◌++◌, length, drop, sym, ap, ◌∙◌, suc-mul, div-add-mod', zero-mul, arith, length-append, length-drop}
use Rattle.std.specs.List.{flat_map}
use Rattle.std.proofs.lemmas.List.{take_all, drop_all, take-append-le, drop-append-le, flat_map_more, nil_from_length}
use Rattle.figure.specs.Cut.{pieces}
use Rattle.figure.specs.Rules.{letter_C}
use Rattle.figure.specs.Writing.{row_text, entry_rows}
use Rattle.figure.proofs.Cutting.{pieces_more}

-- a whole number of rows
pub whole_rows : (n m : ℕ) → m % n ≡ 0 → m ≡ m / n * n
whole_rows n m e = omega (arith, div-add-mod' m n)

-- a piece more, after k of them
pieces_push : (n k : ℕ) (xs vs : List ℕ) → 0 < n → length xs ≡ k * n → length vs ≡ n → pieces n (xs ++ vs) ≡ pieces n xs ++ (vs ∷ [])
pieces_push n zero xs vs some e l =
    let z : xs ≡ [] = nil_from_length xs (e ∙ zero-mul n) in
    (λ j. pieces n (z j ++ vs))
    ∙ pieces_more n vs some (omega arith)
    ∙ (λ j. take_all n vs (omega arith) j ∷ ap (pieces n) (drop_all n vs (omega arith)) j)
    ∙ (λ j. pieces n (sym z j) ++ (vs ∷ []))
pieces_push n (suc k) xs vs some e l =
    let s = suc-mul k n in
    let le : n ≤ length xs = omega arith in
    let d : length (drop n xs) ≡ k * n = omega (arith, length-drop n xs) in
    pieces_more n (xs ++ vs) some (omega (arith, length-append xs vs))
    ∙ (λ j. take-append-le n xs vs le j ∷ (ap (pieces n) (drop-append-le n xs vs le) ∙ pieces_push n k (drop n xs) vs some d l) j)
    ∙ ap (λ ps. ps ++ (vs ∷ [])) (sym (pieces_more n xs some (omega arith)))

-- the text of a table with a row more
pub entry_rows_more : (w n : ℕ) (entries vs : List ℕ) → 0 < n → length entries % n ≡ 0 → length vs ≡ n → entry_rows w n (entries ++ vs) ≡ entry_rows w n entries ++ row_text w letter_C vs
entry_rows_more w n entries vs some e l =
    ap (flat_map (row_text w letter_C)) (pieces_push n (length entries / n) entries vs some (whole_rows n (length entries) e) l)
    ∙ sym (flat_map_more (row_text w letter_C) [] (pieces n entries) vs)
