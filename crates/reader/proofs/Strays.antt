-- The first number of a row outside its range. Assumes nothing.
use Rattle.std.proofs.Common.{◌≡◌, ℕ, ◌+◌, ◌-◌, ◌<◌, true, false, cond, not, List, [], ◌∷◌, length, get_or, take, drop, Some, Option, sym, refl, ap, ◌∙◌, arith}
use Rattle.std.specs.List.{position, position_from}
use Rattle.std.specs.Option.{option_map}
use Rattle.std.proofs.lemmas.Iterator.Adapters.{position_from-zero}
use Rattle.std.proofs.lemmas.List.{take_rest}
use Rattle.std.proofs.lemmas.Bool.{cond-true}
use Rattle.figure.specs.Rules.{within, stray, outside}
use Rattle.figure.specs.declared.rule.Range.{Range}
use Rattle.figure.specs.declared.rule.Rule.{Rule}

-- its field is its place, counted from field k
stray_from : (g : Range) (k i : ℕ) (vs : List ℕ) → stray g (i + k) vs ≡ option_map (λ j. j + k) (position_from (λ v. not (within g v)) i vs)
stray_from g k i [] = refl
stray_from g k i (v ∷ vs) =
    let same : i + k + 1 ≡ i + 1 + k = omega arith in
    let on : stray g (i + k + 1) vs ≡ option_map (λ j. j + k) (position_from (λ v. not (within g v)) (i + 1) vs) = ap (λ n. stray g n vs) same ∙ stray_from g k (i + 1) vs in
    elim (within g v) as (λ b. cond b (stray g (i + k + 1) vs) (Some (i + k)) ≡ option_map (λ j. j + k) (cond (not b) (Some i) (position_from (λ v. not (within g v)) (i + 1) vs))) [ true ↦ on | false ↦ refl ]

-- where a row's first number is in its range, those after it decide
outside_later : (rule : Rule) (xs : List ℕ) → 0 < length xs → within rule.first (get_or xs 0 0) ≡ true → outside rule xs ≡ stray rule.rest 2 (take (length xs - 1) (drop 1 xs))
outside_later rule [] some in_range = absurd (omega arith)
outside_later rule (x ∷ xs) some in_range =
    cond-true (within rule.first x) (stray rule.rest 2 xs) (Some 1) in_range ∙ ap (stray rule.rest 2) (sym (take_rest (x ∷ xs) 1))

pub outside_is : (rule : Rule) (xs : List ℕ) (r : Option ℕ) → 0 < length xs → within rule.first (get_or xs 0 0) ≡ true → r ≡ position (λ v. not (within rule.rest v)) (take (length xs - 1) (drop 1 xs)) → outside rule xs ≡ option_map (λ j. j + 2) r
outside_is rule xs r some in_range e =
    outside_later rule xs some in_range
    ∙ stray_from rule.rest 2 0 (take (length xs - 1) (drop 1 xs))
    ∙ ap (option_map (λ j. j + 2)) (sym (e ∙ position_from-zero (λ v. not (within rule.rest v)) (take (length xs - 1) (drop 1 xs))))
