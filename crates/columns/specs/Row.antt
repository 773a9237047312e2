-- A field at its place in a longer row. Assumes nothing.
use Rattle.std.specs.Prelude.{ℕ, ◌+◌, Bool, cond, ◌&&◌, List, ◌++◌, length, take, drop, nat_le}
use Rattle.columns.specs.Field.{field, fits}

-- do w columns from a on lie in a row of n bytes, and has the number v room in them?
abbrev pub places : ℕ → ℕ → ℕ → ℕ → Bool
places n a w v = nat_le (a + w) n && fits w v

-- the row with the number v in w columns from a on; as it was where that has no place
abbrev pub placed : List ℕ → ℕ → ℕ → ℕ → List ℕ
placed row a w v =
    cond (places (length row) a w v)
    (take a row ++ (field w v ++ drop (a + w) row))
    row
