-- The number, row and field of each refusal. Assumes nothing.
use Rattle.std.specs.Prelude.{ℕ}
use Rattle.columns.specs.Faults.{field_number}
use Rattle.figure.specs.declared.fault.FileFault.{FileFault}
use Rattle.figure.specs.declared.fault.FileFault.TheVariants.{Row, Missing, TableShort}
use Rattle.figure.specs.declared.fault.Refusal.{Refusal}
use Rattle.figure.specs.declared.fault.RowFault.TheVariants.{Unended, Length, Letter, Field, Count, Range, TooMany}
use Rattle.figure.specs.declared.fault.WriteFault.{WriteFault}
use Rattle.figure.specs.declared.fault.WriteFault.TheVariants.{Content, Short}

abbrev pub refusal : ℕ → ℕ → ℕ → Refusal
refusal number row field = record { number = number; row = row; field = field }

abbrev pub refusal_of : FileFault → Refusal
refusal_of (Row (Unended r)) = refusal 31 r 0
refusal_of (Row (Length r)) = refusal 21 r 0
refusal_of (Row (Letter r)) = refusal 22 r 0
refusal_of (Row (Field f)) = refusal (field_number f.cause) f.place.row f.place.field
refusal_of (Row (Count r)) = refusal 23 r 0
refusal_of (Row (Range p)) = refusal 24 p.row p.field
refusal_of (Row (TooMany r)) = refusal 32 r 0
refusal_of Missing = refusal 33 0 0
refusal_of TableShort = refusal 34 0 0

abbrev pub write_number : WriteFault → ℕ
write_number Content = 38
write_number Short = 37
