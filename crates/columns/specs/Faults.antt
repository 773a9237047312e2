-- The numbers of the refusals, and their texts. Assumes nothing.
use Rattle.std.specs.Prelude.{ℕ, List, codes}
use Rattle.columns.specs.declared.fault.FieldFault.{FieldFault}
use Rattle.columns.specs.declared.fault.FieldFault.TheVariants.{Blank, Stray, LeadingZero, Full}

abbrev pub field_number : FieldFault → ℕ
field_number Blank = 11
field_number Stray = 12
field_number LeadingZero = 13
field_number Full = 14

abbrev pub field_fault_text : FieldFault → List ℕ
field_fault_text Blank = codes "11: the field is blank"
field_fault_text Stray = codes "12: a byte is neither blank nor digit, or a blank follows a digit"
field_fault_text LeadingZero = codes "13: the number has a leading zero"
field_fault_text Full = codes "14: the field has no blank column"

abbrev pub no_room_text : List ℕ
no_room_text = codes "the number has no room in the field, or the field lies outside the row"
