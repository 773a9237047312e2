use Rattle.std.proofs.Common.{length}
use Rattle.reader.specs.Lent.{Same, held}
use Rattle.reader.proofs.Walks.{Walking}
use Rattle.reader.proofs.walk.walk.Given as goal

abbrev pub invariant-loop-text : goal.invariant-loop-text
invariant-loop-text l =
    Walking l.format.width l.format.largest l.bytes l.left l.row l.stage (held l.initial.tables) (held l.tables)
    × Same l.initial.tables l.tables

abbrev pub decreases-loop-text : goal.decreases-loop-text
decreases-loop-text l = length l.left
