use Rattle.std.proofs.Common.{sym, refl, arith}
use Rattle.std.proofs.lemmas.Result.{err_from_is_err_and}
use Rattle.reader.proofs.Rowed.{kept_met, kept_not_met}
use Rattle.reader.proofs.reading.read_row.Goals as goal

pub returns-in_err-check_row : goal.returns-in_err-check_row
returns-in_err-check_row c =
    let p = err_from_is_err_and c.from_residual-in_err-check_row.result c.from_residual-in_err-check_row.ensures.1 in
    record {
      answer =
          rw (p.1, p.2)
          (kept_not_met c.args.format.width c.args.format.largest c.args.progress.row c.args.progress.stage c.args.text.now c.in_ok-letter.letter c.in_ok-letter.rest.now c.in_ok-letter.ensures.answer
          (sym c.if-not-is_in_place.ensures.answer) c.in_ok-count.count _ c.args.numbers.now c.read_numbers.new.numbers c.in_ok-count.ensures.answer
          (omega arith) refl _ c.in_err-check_row.ensures.answer);
    }

pub returns : goal.returns
returns c =
    record {
      answer =
          kept_met c.args.format.width c.args.format.largest c.args.progress.row c.args.progress.stage c.args.text.now c.in_ok-letter.letter c.in_ok-letter.rest.now c.in_ok-letter.ensures.answer
          (sym c.if-not-is_in_place.ensures.answer) c.in_ok-count.count _ c.args.numbers.now c.read_numbers.new.numbers c.in_ok-count.ensures.answer
          (omega arith) refl _ c.in_ok-check_row.ensures.answer;
    }
