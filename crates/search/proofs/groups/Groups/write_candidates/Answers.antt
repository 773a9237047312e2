use Rattle.std.proofs.Common.{◌≡◌, ℕ, ◌+◌, ◌<◌, ◌≤◌, true, List, length, arith}
use Rattle.std.proofs.lemmas.Bool.{eq-eqb, ne_eqb}
use Rattle.partition.specs.Names.{Named, groups, stands}
use Rattle.search.specs.Candidates.{others_below}
use Rattle.search.proofs.Candidates.{others_all, others_room, written_passes, written_takes, written_all}
use Rattle.search.proofs.Names.{first_stands}
use Rattle.search.proofs.groups.Groups.write_candidates.Goals as goal
use Rattle.search.proofs.groups.Groups.write_candidates.Goals.{then-self-p, else-self-p}

room : (names : List ℕ) → Named names → (2 ≤ length names) × (length names ≤ 80) → (p : ℕ) → 1 ≤ p → p < length names → stands names p ≡ true →
    (at : ℕ) → at ≡ length (others_below p names) → (long : ℕ) → groups names ≡ long + 1 → at < long
room names named few p low within standing at e long all =
    omega (arith, few, others_all names (omega (arith, few)) (first_stands names (omega (arith, few)) named), others_room names p low within standing)

pub bounds-lines-at : goal.bounds-lines-at
bounds-lines-at g c =
    let own = c.args.self.now in
    let names = own.names.now in
    room names own.named own.few c.loop-p.p (omega arith) c.loop-p-test.true (eq-eqb _ _ (omega arith)) c.loop-p.at c.loop-p.invariant.at_is _ (omega arith)

pub loop-p-preserved : goal.loop-p-preserved
loop-p-preserved g c =
    let own = c.args.self.now in
    let names = own.names.now in
    let price = g.M.Measure.price own.measure.now in
    elim c.if-self-p.branch [
      | then-self-p w ↦ rw (w.lines-is, w.at-is) (written_takes names price c.loop-p.p c.loop-p.at c.loop-p.lines _ c.loop-p.invariant (omega arith) (eq-eqb _ _ (omega arith)) (room own.names.now own.named own.few c.loop-p.p (omega arith) c.loop-p-test.true (eq-eqb _ _ (omega arith)) c.loop-p.at c.loop-p.invariant.at_is _ (omega arith)) (let e = w.alone_cost.ensures.answer in cc))
      | else-self-p w ↦ rw (w.lines-is, w.at-is) (written_passes names price c.loop-p.p c.loop-p.at c.loop-p.lines c.loop-p.invariant (omega arith) (ne_eqb _ _ w.if-self-p.false))
    ]

pub returns : goal.returns
returns g c =
    let own = c.args.self.now in
    let names = own.names.now in
    record { after = written_all names (g.M.Measure.price own.measure.now) c.loop-p.p c.loop-p.at c.loop-p.lines c.loop-p.invariant (omega (arith, own.few)) (omega (arith, c.requires.room, others_all names (omega (arith, own.few)) (first_stands names (omega (arith, own.few)) own.named))) }
