-- The numbers of the refusals. Assumes nothing.
use Rattle.std.specs.Prelude.{ℕ}
use Rattle.measure.specs.declared.fault.RowFault.{RowFault}
use Rattle.measure.specs.declared.fault.RowFault.TheVariants.{Length, Mark}
use Rattle.measure.specs.declared.fault.MakingFault.{MakingFault}
use Rattle.measure.specs.declared.fault.MakingFault.TheVariants.{Count, TooMany, TableLength, Entry, EmptyBox, CountsDiffer, Multiplier, Ceiling}

abbrev pub row_number : RowFault → ℕ
row_number Length = 61
row_number (Mark i) = 62

abbrev pub making_number : MakingFault → ℕ
making_number Count = 51
making_number TooMany = 52
making_number TableLength = 53
making_number Entry = 54
making_number EmptyBox = 58
making_number CountsDiffer = 55
making_number Multiplier = 56
making_number Ceiling = 57
