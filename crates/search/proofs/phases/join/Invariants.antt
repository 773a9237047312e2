use Rattle.std.proofs.Common.{◌≡◌, ℕ, ◌<◌, ◌≤◌, get_or}
use Rattle.partition.specs.Joined.{renamed}
use Rattle.search.proofs.phases.join.Given as goal

abbrev pub invariant-loop-name : goal.invariant-loop-name
invariant-loop-name l =
    ((k : ℕ) → k < l.name-index → get_or l.names k 0 ≡ renamed l.t l.u (get_or l.initial.names k 0))
    × ((k : ℕ) → l.name-index ≤ k → get_or l.names k 0 ≡ get_or l.initial.names k 0)
