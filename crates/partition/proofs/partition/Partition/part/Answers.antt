use Rattle.std.proofs.Common.{ap, ◌∙◌, length}
use Rattle.partition.proofs.Kept.{parted_partition}
use Rattle.partition.proofs.Singles.{length_single}
use Rattle.partition.proofs.partition.Partition.part.Goals as goal

pub invariant_of-self : goal.invariant_of-self
invariant_of-self c = (parted_partition c.self.invariant c.self.view_is c.args.g c.part.ensures.after).0

pub returns : goal.returns
returns c =
    let after = (parted_partition c.self.invariant c.self.view_is c.args.g c.part.ensures.after).1 in
    record { after = after; parts = ap length after ∙ length_single c.args.g c.args.self.now }
