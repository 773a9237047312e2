use Rattle.std.proofs.Common.{◌∙◌}
use Rattle.std.proofs.lemmas.Result.{err_from_is_err_and}
use Rattle.reader.proofs.Fielded.{fielded_more, fielded_stops, fielded_all}
use Rattle.reader.proofs.fields.read_numbers.Goals as goal

pub returns-in_err-read_field : goal.returns-in_err-read_field
returns-in_err-read_field c =
    let step = rw c.in-Some.is at c.next.ensures.steps in
    let p = err_from_is_err_and c.from_residual.result c.from_residual.ensures.1 in
    let refused = rw step.1 at c.in_err-read_field.ensures.answer in
    record { answer = rw (p.1, p.2) (fielded_stops _ _ _ _ _ _ _ _ _ c.loop-i.invariant.0 c.args.format.wide step.0.1.0 (step.0.1.1 ∙ c.loop-i.invariant.1) _ refused) }

pub loop-i-preserved : goal.loop-i-preserved
loop-i-preserved c =
    let step = rw c.in-Some.is at c.next.ensures.steps in (
      rw (step.2, c.store.ensures.after, step.1)
          (fielded_more _ _ _ _ _ _ _ _ _ c.loop-i.invariant.0 c.args.format.wide step.0.1.0 (step.0.1.1 ∙ c.loop-i.invariant.1) _ c.in_ok-read_field.ensures.answer),
      step.0.0 ∙ c.loop-i.invariant.1,
    )

pub returns : goal.returns
returns c =
    let step = rw c.in-None.is at c.next.ensures.steps in
    record { answer = fielded_all _ _ _ _ _ _ _ c.loop-i.invariant.0 (rw (← c.loop-i.invariant.1) step.0.1.0) }
