use Rattle.std.proofs.Common.{◌∙◌}
use Rattle.closeness.proofs.Empty.{empty_counts}
use Rattle.closeness.proofs.table.Table.all_pairs.Goals as goal

pub returns : goal.returns
returns c = record { answer = c.rows_cost.ensures.answer ∙ empty_counts _ 80 _ c.args.self.now.sound.few.1 }
