use Rattle.std.proofs.Common.{◌≡◌, ℕ, ◌+◌, ◌-◌, length, ap, ◌∙◌, arith}
use Rattle.partition.specs.Names.{groups}
use Rattle.search.specs.Phases.{phases}
use Rattle.search.proofs.Wholes.{whole_split}
use Rattle.search.proofs.groups.Groups.split.Goals as goal

pub returns : goal.returns
returns g c =
    let k = g.M.Cost.CostKind in
    let own = c.args.self.now in
    let names = own.names.now in
    let price = g.M.Measure.price own.measure.now in
    let lines = c.find_lines.new.lines in
    let count : length c.args.lines.now ≡ groups names - 1 = omega (arith, c.requires.groups) in
    let all = c.find_lines.ensures.after ∙ ap (λ (i : ℕ). phases k.amount k.plus k.le price i names) count in
    let whole = whole_split k.amount k.plus k.le price g.met.M.Cost.CostKind.lawful _ (g.met.M.Measure.fair own.measure.now) names (record { some = omega (arith, own.few); size = own.parts; named = own.named }) (omega (arith, c.requires.groups, c.requires.some))
    lines (length lines + 1) c.earliest_line-best.result c.mark_side.new.row c.index-lines-best.result all (omega (arith, c.requires.groups)) c.earliest_line-best.ensures.answer c.mark_side.ensures.after in
    record { answer = whole.answer_is; row = whole.row_is; lines = all; certified = whole.certificate }
