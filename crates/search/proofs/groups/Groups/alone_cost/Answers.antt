use Rattle.search.proofs.Filled.{row_alone}
use Rattle.search.proofs.groups.Groups.alone_cost.Goals as goal

pub row_cost-requires : goal.row_cost-requires
row_cost-requires g c = record { marks = row_alone _ c.args.u c.args.self.now.names.now c.mark_alone.new.row c.args.self.now.parts c.mark_alone.ensures.after }
