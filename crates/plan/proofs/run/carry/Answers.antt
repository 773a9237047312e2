use Rattle.std.proofs.Common.{get_or, ◌∙◌, arith}
use Rattle.std.proofs.lemmas.List.{get_or_default}
use Rattle.plan.proofs.Carried.{carried_none, carried_more, stood_all}
use Rattle.plan.proofs.run.carry.Goals as goal

pub loop-step-init : goal.loop-step-init
loop-step-init g c =
    let k = g.M.Cost.CostKind in
    carried_none k.amount k.plus k.le g.M.Measure.count g.M.Measure.price (λ p. p.measure) (λ p. p.groups) c.args.plan.now c.args.steps.now

pub loop-step-preserved : goal.loop-step-preserved
loop-step-preserved g c =
    let k = g.M.Cost.CostKind in
    let did = c.one.ensures in
    let item = get_or c.loop-step.steps c.loop-step.step-index c.step-item.result in
    carried_more k.amount k.plus k.le g.M.Measure.count g.M.Measure.price (λ p. p.measure) (λ p. p.groups) c.args.plan.now c.args.steps.now
    c.loop-step.step-index c.loop-step.plan c.one.new.plan c.loop-step.steps item c.one.new.step c.loop-step.invariant c.loop-step-test.true c.loop-step.auto.steps
    (get_or_default c.loop-step.steps c.loop-step.step-index c.step-item.result item (omega (arith, c.loop-step-test.true, c.loop-step.auto.steps))) (did.done, did.certified) did.standing did.measure

pub returns : goal.returns
returns g c =
    let k = g.M.Cost.CostKind in
    let f = c.loop-step.invariant in
    let all = stood_all k.amount k.plus k.le g.M.Measure.count g.M.Measure.price (λ p. p.measure) (λ p. p.groups) c.args.plan.now c.args.steps.now c.loop-step.step-index c.loop-step-test.false in
    record {
      done = λ k d h. (f.each k d (omega (arith, c.loop-step-test.false))).0;
      certified = λ k d h. (f.each k d (omega (arith, c.loop-step-test.false))).1;
      standing = f.standing ∙ all;
      measure = f.same;
    }
