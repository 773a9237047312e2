use Rattle.std.proofs.Common.{◌≡◌, ℕ, ◌<◌, eqb, get_or}
use Rattle.search.specs.Rows.{bit}
use Rattle.search.proofs.rows.mark_alone.Given as goal

abbrev pub invariant-loop-p : goal.invariant-loop-p
invariant-loop-p l = (k : ℕ) → k < l.p → get_or l.row k 0 ≡ bit (eqb (get_or l.names k 0) l.u)
