use Rattle.std.proofs.Common.{◌≡◌, length, take}
use Rattle.measure.specs.Rows.{complement}
use Rattle.coder.proofs.columns.others_of.Given as goal

-- the marks so far
abbrev pub invariant-loop-i : goal.invariant-loop-i
invariant-loop-i l = (length l.others ≡ 80) × (take l.i l.others ≡ complement (take l.i l.row))
