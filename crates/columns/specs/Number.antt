-- How a piece of text is read as a field. Assumes nothing.
use Rattle.std.specs.Prelude.{ℕ, ◌+◌, ◌-◌, ◌*◌, cond, ◌&&◌, List, [], ◌∷◌, length, Ok, Err, Result, ◌==◌, nat_lt, slice_index}
use Rattle.std.specs.Str.{all_ascii_digits}
use Rattle.columns.specs.declared.fault.FieldFault.{FieldFault}
use Rattle.columns.specs.declared.fault.FieldFault.TheVariants.{Blank, Stray, LeadingZero, Full}
use Rattle.columns.specs.Field.{room}

-- what follows the blanks at the front
abbrev pub unblank : List ℕ → List ℕ
unblank [] = []
unblank (b ∷ bs) = cond (b == 32) (unblank bs) (b ∷ bs)

-- the number that digits write after the number v
abbrev pub value : ℕ → List ℕ → ℕ
value v [] = v
value v (d ∷ ds) = value (v * 10 + (d - 48)) ds

-- a text without a blank at its front, where there is room for n digits
abbrev pub judged : ℕ → List ℕ → Result ℕ FieldFault
judged n ds =
    cond (all_ascii_digits ds)
    (cond (length ds == 0) (Err Blank)
    (cond (slice_index ds 0 == 48 && nat_lt 1 (length ds)) (Err LeadingZero)
    (cond (nat_lt n (length ds)) (Err Full) (Ok (value 0 ds)))))
    (Err Stray)

-- the number of a piece as wide as its field
abbrev pub number : List ℕ → Result ℕ FieldFault
number bs = judged (room (length bs)) (unblank bs)
