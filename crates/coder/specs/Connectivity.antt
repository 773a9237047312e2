-- What a side costs by a rank: its rank, plus the rank of the other parts, minus the rank of all. Assumes nothing.
use Rattle.std.specs.Prelude.{ℕ, ◌+◌, ◌-◌, List, replicate}
use Rattle.measure.specs.Rows.{complement}

-- the row that marks every part of a figure with n parts
abbrev pub whole : ℕ → List ℕ
whole n = replicate n 1

abbrev pub connectivity : (List ℕ → ℕ) → ℕ → List ℕ → ℕ
connectivity rank n row = rank row + rank (complement row) - rank (whole n)
