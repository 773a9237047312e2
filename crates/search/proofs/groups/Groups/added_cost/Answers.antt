use Rattle.std.proofs.Common.{length, ap, ◌∙◌}
use Rattle.search.proofs.Filled.{row_added}
use Rattle.search.proofs.groups.Groups.added_cost.Goals as goal

pub row_cost-requires : goal.row_cost-requires
row_cost-requires g c =
    record { marks = row_added _ c.args.u c.args.self.now.names.now c.copy_from_slice.new.self c.mark_added.new.row c.args.self.now.parts (ap length c.copy_from_slice.ensures.after ∙ c.requires.row) c.mark_added.ensures.after }
