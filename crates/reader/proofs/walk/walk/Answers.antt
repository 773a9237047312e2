use Rattle.std.proofs.lemmas.Result.{err_from_is_err_and}
use Rattle.std.proofs.lemmas.Option.{MatchOption-at_some}
use Rattle.reader.proofs.Walks.{same_on, walked_stopped, walked_on}
use Rattle.reader.proofs.walk.walk.Goals as goal

pub returns-in_err-stage-clause-answer : goal.returns-in_err-stage-clause-answer
returns-in_err-stage-clause-answer c =
    let p = err_from_is_err_and c.from_residual-in_err-stage.result c.from_residual-in_err-stage.ensures.1 in
    let q = MatchOption-at_some _ _ _ c.in-Some.is c.in_ok-text.ensures.answer in
    rw (p.1, p.2)
    (walked_stopped c.args.format.width c.args.format.largest c.args.bytes.now c.loop-text.left.now c.loop-text.row c.loop-text.stage _ _ c.loop-text.invariant.0
    c.in-Some.text.now c.in-Some.after.now q.0 _ _ c.in_err-stage.ensures.answer c.take_row.ensures.after).is

pub loop-text-preserved : goal.loop-text-preserved
loop-text-preserved c =
    let q = MatchOption-at_some _ _ _ c.in-Some.is c.in_ok-text.ensures.answer in (
      walked_on c.args.format.width c.args.format.largest c.args.bytes.now c.loop-text.left.now c.loop-text.row c.loop-text.stage _ _ c.loop-text.invariant.0
          c.in-Some.text.now c.in-Some.after.now q.0 _ _ q.1 c.in_ok-stage.ensures.few c.in_ok-stage.ensures.answer c.take_row.ensures.after,
      same_on c.loop-text.invariant.1 c.take_row.ensures.same,
    )
