-- How a text is cut into rows, and a row into its letter and the numbers of its fields of w columns. Assumes nothing.
use Rattle.std.specs.Prelude.{ℕ, zero, suc, ◌+◌, ◌%◌, cond, List, [], ◌∷◌, ◌++◌, length, take, drop, Ok, Err, Result, ◌==◌}
use Rattle.columns.specs.Number.{number}
use Rattle.columns.specs.declared.fault.FieldFault.{FieldFault}
use Rattle.figure.specs.declared.fault.RowFault.{RowFault}
use Rattle.figure.specs.declared.fault.RowFault.TheVariants.{Length, Field}

-- what follows a good answer; a refusal stays
abbrev pub and_then : {E X Y : Type 0} → Result X E → (X → Result Y E) → Result Y E
and_then (Ok x) f = f x
and_then (Err e) f = Err e

-- a byte in front of the first piece
abbrev pub onto : ℕ → List (List ℕ) → List (List ℕ)
onto b [] = (b ∷ []) ∷ []
onto b (t ∷ ts) = (b ∷ t) ∷ ts

-- the pieces of a text between its bytes 10: each row, and last what no byte 10 ends
abbrev pub cut : List ℕ → List (List ℕ)
cut [] = [] ∷ []
cut (b ∷ bs) = cond (b == 10) ([] ∷ cut bs) (onto b (cut bs))

-- pieces of w elements from the front, at most m of them
abbrev pub pieces_by : ℕ → ℕ → List ℕ → List (List ℕ)
pieces_by zero w xs = []
pieces_by (suc m) w [] = []
pieces_by (suc m) w (x ∷ xs) = take w (x ∷ xs) ∷ pieces_by m w (drop w (x ∷ xs))

abbrev pub pieces : ℕ → List ℕ → List (List ℕ)
pieces w xs = pieces_by (length xs) w xs

-- a row's letter and what follows it, which is whole fields
abbrev pub opened : ℕ → ℕ → List ℕ → Result (ℕ × List ℕ) RowFault
opened w r [] = Err (Length r)
opened w r (l ∷ rest) = cond (length rest % w == 0) (Ok (l, rest)) (Err (Length r))

-- a field's answer in its row: field k of row r
abbrev pub in_row : ℕ → ℕ → Result ℕ FieldFault → Result ℕ RowFault
in_row r k (Ok v) = Ok v
in_row r k (Err f) = Err (Field (record { place = record { row = r; field = k }; cause = f }))

-- the numbers in the pieces, from field k of row r on, after the numbers vs
abbrev pub numbers : ℕ → ℕ → List ℕ → List (List ℕ) → Result (List ℕ) RowFault
numbers r k vs [] = Ok vs
numbers r k vs (p ∷ ps) = and_then (in_row r k (number p)) (λ v. numbers r (k + 1) (vs ++ (v ∷ [])) ps)
