use Rattle.std.proofs.Common.{◌≡◌, length, take}
use Rattle.compose.specs.Fold.{spread}
use Rattle.compose.proofs.boxes.Boxes.spread.Given as goal

-- the parts so far bear their marks
abbrev pub invariant-loop-i : goal.invariant-loop-i
invariant-loop-i l = (length l.wide ≡ 80) × (take l.i l.wide ≡ spread (take l.i l.self.of.items) l.row)
