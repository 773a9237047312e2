use Rattle.std.proofs.Common.{◌≡◌}
use Rattle.std.specs.Slice.Iter.{chunks_exact_rest, chunks_exact_size}
use Rattle.reader.proofs.Fielded.{Fielded}
use Rattle.reader.proofs.fields.read_numbers.Given as goal

abbrev pub invariant-loop-i : goal.invariant-loop-i
invariant-loop-i l =
    Fielded l.row l.format.width l.rest (chunks_exact_rest l.i-iterator.iter) l.i-iterator.count l.initial.numbers l.numbers
    × (chunks_exact_size l.i-iterator.iter ≡ l.format.width)
