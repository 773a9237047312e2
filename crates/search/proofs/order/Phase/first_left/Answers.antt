use Rattle.std.proofs.Common.{sym, ap, arith}
use Rattle.search.proofs.Candidates.{is_candidate}
use Rattle.search.proofs.order.Phase.first_left.Goals as goal

pub is_left-requires : goal.is_left-requires
is_left-requires g c =
    let phase = c.args.self.now in
    let groups = phase.groups in
    record { within = omega (arith, c.requires.row, ap (λ x. x.u) (sym c.index-self-p.is), (is_candidate groups.names.now (g.M.Measure.price groups.measure.now) phase.candidates.now c.loop-p.p c.index-self-p.result phase.all c.loop-p-test.true c.index-self-p.is).1) }
