use Rattle.std.proofs.Common.{refl}
use Rattle.partition.proofs.Rewrites.{rewrites}
use Rattle.partition.proofs.table.Table.part.Goals as goal

pub loop-i-init : goal.loop-i-init
loop-i-init c = (refl, refl, rewrites _ _)
