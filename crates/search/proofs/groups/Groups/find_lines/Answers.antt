use Rattle.std.proofs.Common.{◌-◌, length, arith}
use Rattle.search.proofs.Listed.{listed_none, listed_more, listed_all}
use Rattle.search.proofs.Names.{every_grouped}
use Rattle.search.proofs.groups.Groups.find_lines.Goals as goal

pub loop-i-init : goal.loop-i-init
loop-i-init g c =
    let k = g.M.Cost.CostKind in
    let own = c.args.self.now in
    let names = own.names.now in
    rw c.copied-buffer.ensures.answer
    (listed_none k.amount k.plus k.le (g.M.Measure.price own.measure.now) (length names) (length c.args.lines.now) names c.args.lines.now (every_grouped names own.few own.named) c.requires.groups)

pub loop-i-preserved : goal.loop-i-preserved
loop-i-preserved g c =
    let k = g.M.Cost.CostKind in
    let own = c.args.self.now in
    let names = own.names.now in
    let phase = c.run_phase-line.ensures in
    listed_more k.amount k.plus k.le (g.M.Measure.price own.measure.now) (length names) (length c.args.lines.now) names
    g.met.M.Cost.CostKind.lawful c.loop-i.i (length c.loop-i.lines - c.loop-i.i) c.loop-i.work c.join.new.names c.loop-i.lines c.run_phase-line.new.lines c.run_phase-line.result
    c.loop-i.invariant c.loop-i-test.true (omega arith) phase.answer (omega arith) phase.line phase.before c.join.ensures.after

pub returns : goal.returns
returns g c =
    let k = g.M.Cost.CostKind in
    let own = c.args.self.now in
    let names = own.names.now in
    record { after = listed_all k.amount k.plus k.le (g.M.Measure.price own.measure.now) (length names) (length c.args.lines.now) names c.loop-i.i c.loop-i.work c.loop-i.lines c.loop-i.invariant (omega arith) (omega arith) }
