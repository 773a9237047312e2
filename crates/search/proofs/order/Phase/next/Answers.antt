use Rattle.std.proofs.Common.{◌≡◌, ◌+◌, ◌<◌, ℕ, length, get_or, sym, ◌∙◌, refl, subst, arith}
use Rattle.std.proofs.lemmas.List.{get_or-drop, get_or-take, get_or_default, length-drop}
use Rattle.cost.specs.declared.line.Line.{Line}
use Rattle.search.proofs.Candidates.{is_candidate}
use Rattle.search.proofs.Scan.{Scan, scan_none, scan_first, scan_passes, scan_keeps, scan_takes, scan_all}
use Rattle.search.proofs.order.Phase.next.Goals as goal
use Rattle.search.proofs.order.Phase.next.Goals.{then-is_left+then-is_beaten, then-is_left+else-is_beaten, else-is_left}

pub returns-in_default : goal.returns-in_default
returns-in_default g c =
    let phase = c.args.self.now in
    let few = phase.groups.few in
    record { next = scan_none (g.M.Measure.price phase.groups.measure.now) phase.groups.names.now c.args.row.now phase.candidates.now phase.all (omega (arith, few)) c.requires.ordered c.in_default.ensures.first }

pub returns-in_default-first_left : goal.returns-in_default-first_left
returns-in_default-first_left g c =
    let k = g.M.Cost.CostKind in
    let laws = g.met.M.Cost.CostKind.lawful in
    let phase = c.args.self.now in
    let price = g.M.Measure.price phase.groups.measure.now in
    let names = phase.groups.names.now in
    let cs = phase.candidates.now in
    let few = phase.groups.few in
    let first = c.in-Some.ensures.first in
    let best : Line g.row.M-Cost.Denot = get_or cs c.in-Some.first c.index-self-first.result in
    record {
      next = scan_all price names c.args.row.now cs k.amount k.plus k.le laws phase.all (omega (arith, few)) c.requires.ordered (length cs) best _
          (scan_first price names c.args.row.now cs k.amount k.plus k.le laws phase.all c.in-Some.first (length cs) best _ first.1 (omega arith)
          (get_or_default cs c.in-Some.first c.index-self-first.result best first.1) (first.2 c.index-self-first.result) first.3 c.in_default-first_left.ensures.first refl) refl;
    }

pub loop-candidate-init : goal.loop-candidate-init
loop-candidate-init g c =
    let k = g.M.Cost.CostKind in
    let phase = c.args.self.now in
    let cs = phase.candidates.now in
    let first = c.in-Some.ensures.first in
    let second = c.in-Some-first_left.ensures.first in
    let best : Line g.row.M-Cost.Denot = get_or cs c.in-Some.first c.index-self-first.result in
    let start : c.in-Some-first_left.second ≡ c.in-Some-first_left.second + 0 = omega arith in
    subst (λ (j : ℕ). Scan (g.M.Measure.price phase.groups.measure.now) phase.groups.names.now c.args.row.now cs k.amount k.plus k.le j best c.added_cost-with_best.result) start
    (scan_first (g.M.Measure.price phase.groups.measure.now) phase.groups.names.now c.args.row.now cs k.amount k.plus k.le g.met.M.Cost.CostKind.lawful phase.all c.in-Some.first c.in-Some-first_left.second best _ (omega (arith, second.0)) (omega (arith, second.1))
    (get_or_default cs c.in-Some.first c.index-self-first.result best first.1) (first.2 c.index-self-first.result) first.3 second.3 c.added_cost-with_best.ensures.answer)

pub is_left-requires : goal.is_left-requires
is_left-requires g c =
    let phase = c.args.self.now in
    let own = phase.groups in
    let item = c.candidate-item.is ∙ get_or-take _ _ c.loop-candidate.candidate-index c.candidate-item.result (omega (arith, c.loop-candidate-test.true, length-drop c.in-Some-first_left.second phase.candidates.now)) ∙ get_or-drop c.in-Some-first_left.second phase.candidates.now c.loop-candidate.candidate-index c.candidate-item.result in
    record {
      within = omega (
        arith,
        c.requires.row,
        (is_candidate own.names.now (g.M.Measure.price own.measure.now) phase.candidates.now (c.in-Some-first_left.second + c.loop-candidate.candidate-index) c.candidate-item.result phase.all
            (omega (arith, c.loop-candidate-test.true, length-drop c.in-Some-first_left.second phase.candidates.now)) item).1,
      );
    }

pub loop-candidate-preserved : goal.loop-candidate-preserved
loop-candidate-preserved g c =
    let k = g.M.Cost.CostKind in
    let laws = g.met.M.Cost.CostKind.lawful in
    let phase = c.args.self.now in
    let price = g.M.Measure.price phase.groups.measure.now in
    let names = phase.groups.names.now in
    let row = c.args.row.now in
    let cs = phase.candidates.now in
    let at : ℕ = c.in-Some-first_left.second + c.loop-candidate.candidate-index in
    let here : at < length cs = omega (arith, c.loop-candidate-test.true, length-drop c.in-Some-first_left.second cs) in
    let best = c.loop-candidate.best in
    let with' = c.loop-candidate.with_best in
    let item = c.candidate-item.result in
    let is = c.candidate-item.is ∙ get_or-take _ _ c.loop-candidate.candidate-index item (omega (arith, here)) ∙ get_or-drop c.in-Some-first_left.second cs c.loop-candidate.candidate-index item in
    let more : at + 1 ≡ c.in-Some-first_left.second + (c.loop-candidate.candidate-index + 1) = omega arith in
    let s = c.loop-candidate.invariant in
    subst (λ (j : ℕ). Scan price names row cs k.amount k.plus k.le j c.if-is_left.best c.if-is_left.with_best) more
    (elim c.if-is_left.branch [
      | then-is_left+then-is_beaten w ↦
          rw (w.best-is, w.with_best-is)
          (scan_takes price names row cs k.amount k.plus k.le laws phase.all at best item with' _ s here is (sym c.is_left.ensures.answer ∙ w.if-is_left.true) w.added_cost-with_candidate.ensures.answer _ w.is_beaten.ensures.answer w.if-is_beaten.true)
      | then-is_left+else-is_beaten w ↦
          rw (w.best-is, w.with_best-is)
          (scan_keeps price names row cs k.amount k.plus k.le laws phase.all at best item with' _ s here is (sym c.is_left.ensures.answer ∙ w.if-is_left.true) w.added_cost-with_candidate.ensures.answer _ w.is_beaten.ensures.answer w.if-is_beaten.false)
      | else-is_left w ↦
          rw (w.best-is, w.with_best-is)
          (scan_passes price names row cs k.amount k.plus k.le laws phase.all at best with' item s here is (sym c.is_left.ensures.answer ∙ w.if-is_left.false))
    ])

pub returns : goal.returns
returns g c =
    let k = g.M.Cost.CostKind in
    let phase = c.args.self.now in
    let few = phase.groups.few in
    let second = c.in-Some-first_left.ensures.first in
    record {
      next = scan_all (g.M.Measure.price phase.groups.measure.now) phase.groups.names.now c.args.row.now phase.candidates.now k.amount k.plus k.le g.met.M.Cost.CostKind.lawful phase.all (omega (arith, few)) c.requires.ordered
          (c.in-Some-first_left.second + c.loop-candidate.candidate-index) c.loop-candidate.best c.loop-candidate.with_best c.loop-candidate.invariant
          (omega (arith, second.1, c.loop-candidate-test.false, c.loop-candidate.auto.candidate-index-end, length-drop c.in-Some-first_left.second phase.candidates.now));
    }
