use Rattle.std.proofs.Common.{◌≡◌, ℕ, ◌<◌, get_or}
use Rattle.measure.specs.Rows.{marks}
use Rattle.plan.proofs.calls.divides.Given as goal

-- each part so far is marked as the lowest part of its group is
abbrev pub invariant-loop-p : goal.invariant-loop-p
invariant-loop-p l = (k : ℕ) → k < l.p → marks l.row k ≡ marks l.row (get_or l.groups k 0)
