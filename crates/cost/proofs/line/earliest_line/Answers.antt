use Rattle.std.proofs.Common.{arith, ◌≡◌, ◌+◌, sym, ◌∙◌, subst}
use Rattle.std.proofs.lemmas.List.{at_drop_all}
use Rattle.cost.specs.Earliest.{Earliest, earliest, earliest_from}
use Rattle.cost.specs.Lines.{line_le}
use Rattle.cost.proofs.Lines.{line_total, line_transitive}
use Rattle.cost.proofs.Smallest.{earliest_means}
use Rattle.cost.proofs.line.earliest_line.Goals as goal

pub returns-clause-earliest : goal.returns-clause-earliest
returns-clause-earliest g c =
    let le = line_le g.C.CostKind.amount g.C.CostKind.le in
    let lines = c.args.lines.now in
    let order = g.met.C.CostKind.lawful.order in
    let i = c.loop-i.i in
    let answer : c.loop-i.number ≡ earliest le lines = sym (at_drop_all (earliest_from le (i + 1) c.loop-i.number c.loop-i.least) _ i (omega (arith, c.loop-i-test.false))) ∙ c.loop-i.invariant in
    subst (Earliest le lines) (sym answer) (earliest_means le (line_total _ _ order) (line_transitive _ _ order) lines)
