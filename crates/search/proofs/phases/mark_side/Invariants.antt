use Rattle.std.proofs.Common.{◌≡◌, ◌-◌, drop}
use Rattle.search.specs.Phases.{side_at}
use Rattle.search.proofs.phases.mark_side.Given as goal

-- the lines from here on give the side
abbrev pub invariant-loop-line : goal.invariant-loop-line
invariant-loop-line g l = side_at (l.b - l.line-index) (drop l.line-index l.lines) l.work ≡ side_at l.b l.lines l.initial.work
