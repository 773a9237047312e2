use Rattle.plan.proofs.Carried.{Carried}
use Rattle.plan.proofs.run.carry.Given as goal

abbrev pub invariant-loop-step : goal.invariant-loop-step
invariant-loop-step g l =
    let k = g.M.Cost.CostKind in
    Carried k.amount k.plus k.le g.M.Measure.count g.M.Measure.price (λ p. p.measure) (λ p. p.groups) l.initial.plan l.initial.steps l.step-index l.plan l.steps
