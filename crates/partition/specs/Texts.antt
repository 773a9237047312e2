-- The texts of the refusals. Assumes nothing.
use Rattle.std.specs.Prelude.{ℕ, List, codes}
use Rattle.partition.specs.declared.fault.GroupFault.{GroupFault}
use Rattle.partition.specs.declared.fault.GroupFault.TheVariants.{Part, LastTwo}

abbrev pub group_text : GroupFault → List ℕ
group_text Part = codes "41: the figure has no such part"
group_text LastTwo = codes "42: only two groups stand, and the parts lie in different ones"
