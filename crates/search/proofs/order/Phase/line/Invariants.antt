use Rattle.std.proofs.Common.{length}
use Rattle.search.specs.Rows.{left}
use Rattle.search.proofs.Along.{Along}
use Rattle.search.proofs.Names.{every_grouped}
use Rattle.search.proofs.order.Phase.line.Given as goal

abbrev pub invariant-loop-next : goal.invariant-loop-next
invariant-loop-next g l =
    let k = g.M.Cost.CostKind in
    Along k.amount k.plus k.le (g.M.Measure.price l.self.groups.measure.now) l.self.groups.names.now (every_grouped l.self.groups.names.now l.self.groups.few l.self.groups.named) l.row l.line

abbrev pub decreases-loop-next : goal.decreases-loop-next
decreases-loop-next g l = length (left l.self.groups.names.now l.row)
