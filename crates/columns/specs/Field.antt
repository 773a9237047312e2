-- A number in a field: right-justified over blanks, at least one of them, and without leading zeros. Assumes nothing.
use Rattle.std.specs.Prelude.{ℕ, ◌-◌, Bool, cond, List, ◌++◌, length, replicate, Ok, Err, decimal, Result, nat_le}
use Rattle.columns.specs.declared.fault.NoRoom.{NoRoom}

-- the most digits of a number in w columns: one column stays blank, and beyond 19 columns there is no field
abbrev pub room : ℕ → ℕ
room w = cond (nat_le w 19) (w - 1) 0

-- has the number v room in w columns?
abbrev pub fits : ℕ → ℕ → Bool
fits w v = nat_le (length (decimal v)) (room w)

-- the number v in w columns
abbrev pub field : ℕ → ℕ → List ℕ
field w v = replicate (w - length (decimal v)) 32 ++ decimal v

-- what a writer answers
abbrev pub settled : Bool → Result Unit NoRoom
settled done = cond done (Ok tt) (Err (record {}))
