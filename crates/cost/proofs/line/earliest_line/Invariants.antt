use Rattle.std.proofs.Common.{◌≡◌, ◌+◌, drop}
use Rattle.cost.specs.Earliest.{earliest, earliest_from}
use Rattle.cost.specs.Lines.{line_le}
use Rattle.cost.proofs.line.earliest_line.Given as goal

-- the search goes on from the lines that are left
abbrev pub invariant-loop-i : goal.invariant-loop-i
invariant-loop-i g l =
    let le = line_le g.C.CostKind.amount g.C.CostKind.le in
    earliest_from le (l.i + 1) l.number l.least (drop l.i l.rest) ≡ earliest le l.fn.lines
