use Rattle.search.proofs.Candidates.{Written}
use Rattle.search.proofs.groups.Groups.write_candidates.Given as goal

abbrev pub invariant-loop-p : goal.invariant-loop-p
invariant-loop-p g l = Written l.self.names.now (g.M.Measure.price l.self.measure.now) l.p l.at l.lines
