use Rattle.partition.proofs.Kept.{kept_group}
use Rattle.partition.proofs.partition.Partition.record.Goals as goal

pub returns : goal.returns
returns c =
    let says = kept_group c.self.invariant c.self.view_is c.args.i c.at.result c.requires.part c.at.ensures.answer in
    record { name = says.0; group = says.1 }
