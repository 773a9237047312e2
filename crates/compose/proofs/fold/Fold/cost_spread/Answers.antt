use Rattle.std.proofs.Common.{rules}
use Rattle.measure.proofs.Asked.{row_asked}
use Rattle.compose.specs.lemmas.Folds.{asked_spread}
use Rattle.compose.proofs.fold.Fold.cost_spread.Goals as goal

pub returns : goal.returns
returns g c =
    let f = c.args.self.now in
    let boxes = f.boxes in
    let row = c.args.row.now in
    let marked = row_asked (λ _. tt) tt boxes.count row c.in_ok-check_row.ensures.answer in
    let alike = asked_spread (g.M.Measure.price f.below) _ boxes.count boxes.of.items row c.requires.boxed boxes.fit.named marked in
    search rules
