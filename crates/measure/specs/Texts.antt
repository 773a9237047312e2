-- The texts of the refusals. Assumes nothing.
use Rattle.std.specs.Prelude.{ℕ, List, ◌++◌, codes, decimal}
use Rattle.measure.specs.declared.fault.RowFault.{RowFault}
use Rattle.measure.specs.declared.fault.RowFault.TheVariants.{Length, Mark}
use Rattle.measure.specs.declared.fault.MakingFault.{MakingFault}
use Rattle.measure.specs.declared.fault.MakingFault.TheVariants.{Count, TooMany, TableLength, Entry, EmptyBox, CountsDiffer, Multiplier, Ceiling}

abbrev pub row_text : RowFault → List ℕ
row_text Length = codes "61: the row has not one mark for each part"
row_text (Mark i) = codes "62: the byte at index " ++ decimal i ++ codes " is neither 0 nor 1"

abbrev pub making_text : MakingFault → List ℕ
making_text Count = codes "51: there are not 2 to 80 parts or boxes"
making_text TooMany = codes "52: there are too many nets, pins or matrix rows"
making_text TableLength = codes "53: a table is not as long as the number of parts asks"
making_text Entry = codes "54: an entry is out of its range"
making_text CountsDiffer = codes "55: the two measures have different numbers of parts"
making_text Multiplier = codes "56: a multiplier is not 1 to 1,000"
making_text Ceiling = codes "57: the ceiling is above 99,999,999,999"
making_text EmptyBox = codes "58: a box has no part"
