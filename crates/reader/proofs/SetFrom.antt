-- Elements set one after another. Assumes nothing.
use Rattle.std.proofs.Common.{◌≡◌, ℕ, suc, ◌+◌, ◌≤◌, List, [], ◌∷◌, ◌++◌, length, take, drop, set, sym, refl, ap, ◌∙◌, ap₂, add-zero, arith}
use Rattle.std.proofs.lemmas.List.{append_assoc, drop-set-lt, length-set, take-append-drop, take_at, take_more_set}
use Rattle.reader.specs.Answers.{set_from}

-- one element more
pub set_from_push : {X : Type 0} (k : ℕ) (xs : List X) (y : X) (table : List X) → set_from k (xs ++ (y ∷ [])) table ≡ set (set_from k xs table) (k + length xs) y
set_from_push k [] y table = let same : k ≡ k + 0 = omega arith in ap (λ j. set table j y) same
set_from_push k (x ∷ xs) y table =
    let same : k + 1 + length xs ≡ k + suc (length xs) = omega arith in
    set_from_push (k + 1) xs y (set table k x) ∙ ap (λ j. set (set_from (k + 1) xs (set table k x)) j y) same

-- where there is room, they stand from place k on, and all else stays
pub set_from_is : {X : Type 0} (k : ℕ) (xs table : List X) → k + length xs ≤ length table → set_from k xs table ≡ take k table ++ (xs ++ drop (k + length xs) table)
set_from_is k [] table room = sym (take-append-drop k table) ∙ ap (λ j. take k table ++ drop j table) (sym (add-zero k))
set_from_is k (x ∷ xs) table room =
    let long : k + 1 + length xs ≤ length (set table k x) = omega (arith, length-set table k x) in
    let past : k + 1 + length xs ≡ k + suc (length xs) = omega arith in
    set_from_is (k + 1) xs (set table k x) long
    ∙ ap₂ (λ front back. front ++ (xs ++ back)) (take_more_set table k x (omega arith)) (drop-set-lt (k + 1 + length xs) table k x (omega arith) ∙ ap (λ j. drop j table) past)
    ∙ append_assoc (take k table) (x ∷ []) (xs ++ drop (k + suc (length xs)) table)

-- from the front on, the front then holds just them
pub front_kept : {X : Type 0} (xs table : List X) → length xs ≤ length table → take (length xs) (set_from 0 xs table) ≡ xs
front_kept xs table room = ap (take (length xs)) (set_from_is 0 xs table (omega arith)) ∙ take_at xs (drop (0 + length xs) table) (length xs) refl
