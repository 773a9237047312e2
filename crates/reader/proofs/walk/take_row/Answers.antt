use Rattle.std.proofs.Common.{sym, subst}
use Rattle.figure.proofs.Rows.{row_parts}
use Rattle.reader.specs.Answers.{Few}
use Rattle.reader.proofs.Steps.{few_more, fits_at}
use Rattle.reader.proofs.walk.take_row.Goals as goal

pub lay-requires : goal.lay-requires
lay-requires c =
    let f = c.args.format in
    let p = c.args.progress in
    record { fit = fits_at f.largest p.stage _ _ f.top p.few (row_parts f.width f.largest p.row p.stage c.args.text.now _ f.wide c.in_ok-row.ensures.answer).1 }

pub returns-clause-few : goal.returns-clause-few
returns-clause-few c =
    let f = c.args.format in
    let p = c.args.progress in
    subst Few (sym c.stage_after.ensures.answer) (few_more f.largest p.stage _ _ p.few (row_parts f.width f.largest p.row p.stage c.args.text.now _ f.wide c.in_ok-row.ensures.answer).1)
