use Rattle.std.proofs.Common.{◌≡◌, ℕ, ◌<◌, ◌≤◌, false, not, slice_index_or}
use Rattle.cost.specs.declared.line.Line.{Line}
use Rattle.measure.specs.Rows.{marks}
use Rattle.search.proofs.order.Phase.first_left.Given as goal

abbrev pub invariant-loop-p : goal.invariant-loop-p
invariant-loop-p g l = (k : ℕ) (d : Line g.row.M-Cost.Denot) → l.from ≤ k → k < l.p → not (marks l.row (slice_index_or l.self.candidates.now k d).u) ≡ false
