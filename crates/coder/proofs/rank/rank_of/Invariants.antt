use Rattle.std.proofs.Common.{◌≤◌, length}
use Rattle.coder.proofs.Basis.{Eliminated, Elimination, Reduced}
use Rattle.coder.proofs.rank.rank_of.Given as goal

-- what is left of the column
abbrev pub invariant-loop-word : goal.invariant-loop-word
invariant-loop-word l = Reduced l.basis l.initial.word l.word

abbrev pub decreases-loop-word : goal.decreases-loop-word
decreases-loop-word l = l.word

-- the columns so far are taken up
abbrev pub invariant-loop-column : goal.invariant-loop-column
invariant-loop-column l =
    Eliminated l.columns l.row (length l.yielded) l.basis l.size ×
    (l.size ≤ length l.yielded) ×
    Elimination l.columns l.row
