-- Making every part of a group single. Assumes nothing.
use Rattle.std.specs.Prelude.{ℕ, suc, cond, List, [], ◌∷◌, length, Ok, Err, Result, ◌==◌, nat_lt, slice_index}
use Rattle.partition.specs.Names.{groups}
use Rattle.partition.specs.declared.fault.GroupFault.{GroupFault}
use Rattle.partition.specs.declared.fault.GroupFault.TheVariants.{Part}

-- from part k on, each part of the group g gets its own number as its name
abbrev pub single_from : ℕ → ℕ → List ℕ → List ℕ
single_from k g [] = []
single_from k g (name ∷ names) = cond (name == g) k name ∷ single_from (suc k) g names

abbrev pub single : ℕ → List ℕ → List ℕ
single g names = single_from 0 g names

-- the groups once each part of a's group is single, if there is a part a
abbrev pub single_after : List ℕ → ℕ → List ℕ
single_after names a = cond (nat_lt a (length names)) (single (slice_index names a) names) names

-- how many groups then stand
abbrev pub single_answer : List ℕ → ℕ → Result ℕ GroupFault
single_answer names a = cond (nat_lt a (length names)) (Ok (groups (single (slice_index names a) names))) (Err Part)

-- the name of a part's group
abbrev pub name_answer : List ℕ → ℕ → Result ℕ GroupFault
name_answer names a = cond (nat_lt a (length names)) (Ok (slice_index names a)) (Err Part)
