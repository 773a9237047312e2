-- The numbers of the refusals. Assumes nothing.
use Rattle.std.specs.Prelude.{ℕ}
use Rattle.partition.specs.declared.fault.GroupFault.{GroupFault}
use Rattle.partition.specs.declared.fault.GroupFault.TheVariants.{Part, LastTwo}

abbrev pub group_number : GroupFault → ℕ
group_number Part = 41
group_number LastTwo = 42
