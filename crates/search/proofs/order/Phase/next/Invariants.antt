use Rattle.std.proofs.Common.{◌+◌}
use Rattle.search.proofs.Scan.{Scan}
use Rattle.search.proofs.order.Phase.next.Given as goal

-- of the candidates so far, best leads those that the row leaves
abbrev pub invariant-loop-candidate : goal.invariant-loop-candidate
invariant-loop-candidate g l =
    let k = g.M.Cost.CostKind in
    Scan (g.M.Measure.price l.self.groups.measure.now) l.self.groups.names.now l.row l.self.candidates.now k.amount k.plus k.le (l.second + l.candidate-index) l.best l.with_best
