use Rattle.plan.proofs.Fitting.{fits_along}
use Rattle.plan.proofs.plan.Plan.weld.Goals as goal

pub returns-clause-same : goal.returns-clause-same
returns-clause-same g c h i =
    let e = c.join.ensures.same h in
    record { measure = c.args.self.now.measure; groups = e i; fit = fits_along _ e c.self-1.given.0 c.args.self.now.fit i }
