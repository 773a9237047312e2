use Rattle.std.proofs.Common.{◌≡◌, ◌+◌, drop, map}
use Rattle.reader.specs.Answers.{set_from}
use Rattle.reader.proofs.tables.lay_numbers.Given as goal

abbrev pub invariant-loop-i : goal.invariant-loop-i
invariant-loop-i g l = set_from (l.at + l.i) (map (g.T.Entry.holds) (drop l.i l.numbers)) l.table ≡ set_from l.at (map (g.T.Entry.holds) l.numbers) l.initial.table
