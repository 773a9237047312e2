use Rattle.std.proofs.Common.{arith}
use Rattle.coder.proofs.Basis.{begin, elimination}
use Rattle.coder.proofs.rank.rank_of.Goals as goal

pub loop-column-init : goal.loop-column-init
loop-column-init c = (begin _ _, omega arith, elimination _ _ c.requires.long)
