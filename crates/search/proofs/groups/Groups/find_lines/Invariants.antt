use Rattle.std.proofs.Common.{length}
use Rattle.search.proofs.Listed.{Listed}
use Rattle.search.proofs.groups.Groups.find_lines.Given as goal

abbrev pub invariant-loop-i : goal.invariant-loop-i
invariant-loop-i g l =
    let k = g.M.Cost.CostKind in
    Listed k.amount k.plus k.le (g.M.Measure.price l.self.measure.now) (length l.self.names.now) (length l.initial.lines) l.self.names.now l.i l.work l.lines
