use Rattle.std.proofs.Common.{◌≡◌, drop}
use Rattle.reader.specs.Laid.{add_bits}
use Rattle.reader.proofs.tables.lay_bits.Given as goal

abbrev pub invariant-loop-j : goal.invariant-loop-j
invariant-loop-j l = add_bits l.i l.j (drop l.j l.numbers) l.columns ≡ add_bits l.i 0 l.numbers l.initial.columns
