-- Which groups stand: a fold of one step a call over the calls, from single parts on. Assumes nothing.
use Rattle.std.specs.Prelude.{ℕ, List, [], ◌∷◌}
use Rattle.partition.specs.Joined.{join_after}
use Rattle.partition.specs.Names.{singles}
use Rattle.partition.specs.Single.{single_after}
use Rattle.plan.specs.declared.call.Call.{Call}
use Rattle.plan.specs.declared.call.Call.TheVariants.{Weld, Release, Group, Cost, Split}

-- what one call does to the groups: a weld of two parts of different groups joins these while more than two stand, a release makes each part of the group single, and nothing else changes them
abbrev pub stepped : List ℕ → Call → List ℕ
stepped names (Weld a b) = join_after names a b
stepped names (Release a) = single_after names a
stepped names (Group a) = names
stepped names Cost = names
stepped names Split = names

-- the groups after some calls
abbrev pub after : List ℕ → List Call → List ℕ
after names [] = names
after names (call ∷ calls) = after (stepped names call) calls

-- the groups that stand after some calls on a new plan with n parts
abbrev pub standing_after : ℕ → List Call → List ℕ
standing_after n calls = after (singles n) calls
