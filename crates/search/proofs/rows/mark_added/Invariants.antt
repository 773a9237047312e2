use Rattle.std.proofs.Common.{◌≡◌, ℕ, ◌<◌, ◌≤◌, ◌||◌, eqb, get_or}
use Rattle.search.specs.Rows.{bit}
use Rattle.search.proofs.rows.mark_added.Given as goal

abbrev pub invariant-loop-p : goal.invariant-loop-p
invariant-loop-p l =
    ((k : ℕ) → k < l.p → get_or l.row k 0 ≡ bit (eqb (get_or l.names k 0) l.u || eqb (get_or l.initial.row k 0) 1))
    × ((k : ℕ) → l.p ≤ k → get_or l.row k 0 ≡ get_or l.initial.row k 0)
