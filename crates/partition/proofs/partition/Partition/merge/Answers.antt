use Rattle.std.proofs.Common.{ap, ◌∙◌, arith, length}
use Rattle.partition.proofs.Joins.{length_joined}
use Rattle.partition.proofs.Kept.{joined_partition}
use Rattle.partition.proofs.Members.{members_two}
use Rattle.partition.proofs.partition.Partition.merge.Goals as goal

pub join-requires : goal.join-requires
join-requires c =
    let fit = members_two c.args.x.name c.args.y.name c.requires.apart c.args.self.now in
    record { room = omega (arith, fit, c.self.invariant.few, ap length c.self.view_is, c.requires.groups.0.1, c.requires.groups.1.1) }

pub invariant_of-self : goal.invariant_of-self
invariant_of-self c =
    (joined_partition c.self.invariant c.self.view_is c.args.x c.args.y c.requires.apart c.requires.groups c.requires.three c.join.ensures.after).0

pub returns : goal.returns
returns c =
    let after = (joined_partition c.self.invariant c.self.view_is c.args.x c.args.y c.requires.apart c.requires.groups c.requires.three c.join.ensures.after).1 in
    record { after = after; parts = ap length after ∙ length_joined c.args.x.name c.args.y.name c.args.self.now }
