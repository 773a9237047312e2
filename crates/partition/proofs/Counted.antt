-- The parts that name their own group are as many as the groups. Assumes nothing.
use Rattle.std.proofs.Common.{◌≡◌, Bool, ℕ, ◌+◌, ◌<◌, cond, ◌==◌, List, [], ◌∷◌, length, get_or, filter, sym, refl, ap, ◌∙◌}
use Rattle.std.specs.List.{range_with_len, sum_by}
use Rattle.std.proofs.lemmas.List.{get_or-map, length-map}
use Rattle.std.proofs.lemmas.List.Sums.{sum_by-cons}
use Rattle.partition.specs.Names.{groups, stands}
use Rattle.partition.specs.Records.{names_of}
use Rattle.partition.specs.declared.table.Record.{Record}
use Rattle.partition.proofs.Counts.{length_cell}

-- one for each that passes
ones : {X : Type 0} (q : X → Bool) (xs : List X) → sum_by (λ x. cond (q x) 1 0) xs ≡ length (filter q xs)
ones q [] = refl
ones q (x ∷ xs) =
    sum_by-cons (λ x. cond (q x) 1 0) x xs
    ∙ ap (λ n. cond (q x) 1 0 + n) (ones q xs)
    ∙ sym (length_cell (q x) x (filter q xs))

pub count_groups : (rs : List Record) → sum_by (λ i. cond (stands (names_of rs) i) 1 0) (range_with_len 0 (length rs)) ≡ groups (names_of rs)
count_groups rs =
    ones (stands (names_of rs)) (range_with_len 0 (length rs))
    ∙ ap (λ n. length (filter (stands (names_of rs)) (range_with_len 0 n))) (sym (length-map rs _))

-- what a record says of its own part
pub own_name : (rs : List Record) (i : ℕ) (r : Record) → i < length rs → r ≡ get_or rs i r → (r.name == i) ≡ stands (names_of rs) i
own_name rs i r within is = ap (λ n. n == i) (ap (λ x. x.name) is ∙ sym (get_or-map (λ r. r.name) rs i r 0 within))
