use Rattle.std.proofs.Common.{arith}
use Rattle.search.proofs.Along.{along_none, along_marks, along_more, along_all}
use Rattle.search.proofs.Candidates.{some_candidate}
use Rattle.search.proofs.Names.{every_grouped, zero_stands}
use Rattle.search.proofs.order.Phase.line.Goals as goal

pub bounds-self-0 : goal.bounds-self-0
bounds-self-0 g c =
    let phase = c.args.self.now in
    let own = phase.groups in
    some_candidate own.names.now (g.M.Measure.price own.measure.now) phase.candidates.now phase.all (omega (arith, own.few)) (zero_stands (every_grouped own.names.now own.few own.named)) c.requires.two

pub loop-next-init : goal.loop-next-init
loop-next-init g c =
    let k = g.M.Cost.CostKind in
    let own = c.args.self.now.groups in
    along_none k.amount k.plus k.le (g.M.Measure.price own.measure.now) own.names.now (every_grouped own.names.now own.few own.named) c.mark_alone.new.row _ c.mark_alone.ensures.after

pub next-requires-clause-ordered : goal.next-requires-clause-ordered
next-requires-clause-ordered g c =
    let k = g.M.Cost.CostKind in
    let own = c.args.self.now.groups in
    along_marks k.amount k.plus k.le (g.M.Measure.price own.measure.now) own.names.now (every_grouped own.names.now own.few own.named) c.loop-next.row c.loop-next.line c.loop-next.invariant

pub loop-next-preserved : goal.loop-next-preserved
loop-next-preserved g c =
    let k = g.M.Cost.CostKind in
    let own = c.args.self.now.groups in
    let next = c.in-Some.ensures.next in
    (along_more k.amount k.plus k.le (g.M.Measure.price own.measure.now) own.names.now (every_grouped own.names.now own.few own.named) g.met.M.Cost.CostKind.lawful
    c.loop-next.row c.mark_added.new.row c.loop-next.line c.in-Some.next c.loop-next.invariant next.0 next.1 c.mark_added.ensures.after).0

pub loop-next-smaller : goal.loop-next-smaller
loop-next-smaller g c =
    let k = g.M.Cost.CostKind in
    let own = c.args.self.now.groups in
    let next = c.in-Some.ensures.next in
    (along_more k.amount k.plus k.le (g.M.Measure.price own.measure.now) own.names.now (every_grouped own.names.now own.few own.named) g.met.M.Cost.CostKind.lawful
    c.loop-next.row c.mark_added.new.row c.loop-next.line c.in-Some.next c.loop-next.invariant next.0 next.1 c.mark_added.ensures.after).1

pub returns : goal.returns
returns g c =
    let k = g.M.Cost.CostKind in
    let own = c.args.self.now.groups in
    record { answer = along_all k.amount k.plus k.le (g.M.Measure.price own.measure.now) own.names.now (every_grouped own.names.now own.few own.named) c.loop-next.row c.loop-next.line c.loop-next.invariant c.in_default.ensures.next c.requires.two }
