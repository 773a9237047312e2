-- Joining two groups. Assumes nothing.
use Rattle.std.specs.Prelude.{ℕ, min, max, Bool, true, false, cond, not, ◌&&◌, List, map, length, Ok, Err, Result, ◌==◌, nat_lt, slice_index}
use Rattle.partition.specs.Names.{groups}
use Rattle.partition.specs.declared.fault.GroupFault.{GroupFault}
use Rattle.partition.specs.declared.fault.GroupFault.TheVariants.{Part, LastTwo}

-- two groups become one, under the lower of their names t and u
abbrev pub renamed : ℕ → ℕ → ℕ → ℕ
renamed t u name = cond (name == max t u) (min t u) name

abbrev pub joined : ℕ → ℕ → List ℕ → List ℕ
joined t u names = map (renamed t u) names

-- parts a and b lie in different groups, and more than two stand
abbrev pub joins : List ℕ → ℕ → ℕ → Bool
joins names a b =
    (nat_lt a (length names) && nat_lt b (length names))
    && (not (slice_index names a == slice_index names b) && nat_lt 2 (groups names))

-- the groups once those of parts a and b are joined, if they may be
abbrev pub join_after : List ℕ → ℕ → ℕ → List ℕ
join_after names a b = cond (joins names a b) (joined (slice_index names a) (slice_index names b) names) names

-- whether they were joined now; false where they were one group already
abbrev pub join_answer : List ℕ → ℕ → ℕ → Result Bool GroupFault
join_answer names a b =
    cond (nat_lt a (length names) && nat_lt b (length names))
    (cond (slice_index names a == slice_index names b)
    (Ok false)
    (cond (nat_lt 2 (groups names)) (Ok true) (Err LastTwo)))
    (Err Part)
