-- The texts of the refusals. Assumes nothing.
use Rattle.std.specs.Prelude.{ℕ, List, ◌++◌, codes, decimal}
use Rattle.columns.specs.Faults.{field_fault_text}
use Rattle.figure.specs.declared.fault.FileFault.{FileFault}
use Rattle.figure.specs.declared.fault.FileFault.TheVariants.{Row, Missing, TableShort}
use Rattle.figure.specs.declared.fault.Place.{Place}
use Rattle.figure.specs.declared.fault.RowFault.{RowFault}
use Rattle.figure.specs.declared.fault.RowFault.TheVariants.{Unended, Length, Letter, Field, Count, Range, TooMany}
use Rattle.figure.specs.declared.fault.WriteFault.{WriteFault}
use Rattle.figure.specs.declared.fault.WriteFault.TheVariants.{Content, Short}

abbrev pub place_text : Place → List ℕ
place_text p = codes "row " ++ decimal p.row ++ codes ", field " ++ decimal p.field

abbrev pub row_fault_text : RowFault → List ℕ
row_fault_text (Unended r) = codes "31: no byte 10 ends row " ++ decimal r
row_fault_text (Length r) = codes "21: row " ++ decimal r ++ codes " is not a letter and whole fields"
row_fault_text (Letter r) = codes "22: the letter of row " ++ decimal r ++ codes " is unknown or out of place"
row_fault_text (Field f) = field_fault_text f.cause ++ codes ": " ++ place_text f.place
row_fault_text (Count r) = codes "23: too few fields or too many in row " ++ decimal r
row_fault_text (Range p) = codes "24: a number is outside its range: " ++ place_text p
row_fault_text (TooMany r) = codes "32: row " ++ decimal r ++ codes " or a pin of it is beyond the maximum"

abbrev pub file_fault_text : FileFault → List ℕ
file_fault_text (Row f) = row_fault_text f
file_fault_text Missing = codes "33: a row that must be there is missing"
file_fault_text TableShort = codes "34: a table is too short for the content"

abbrev pub write_fault_text : WriteFault → List ℕ
write_fault_text Content = codes "38: no accepted file holds the content"
write_fault_text Short = codes "37: the buffer is too short for the file"

abbrev pub unknown_kind_text : List ℕ
unknown_kind_text = codes "no kind of measure has the number"
