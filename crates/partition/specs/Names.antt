-- The groups of a figure's parts, as the list of their names: part by part, the name of its group. Assumes nothing.
use Rattle.std.specs.Prelude.{◌≡◌, ℕ, ◌+◌, ◌<◌, ◌≤◌, Bool, cond, List, [], ◌∷◌, length, filter, ◌==◌, slice_index}
use Rattle.std.specs.List.{range_with_len}

-- each part is a group: part p has the name p
abbrev pub singles : ℕ → List ℕ
singles n = range_with_len 0 n

-- a name stands if it is the name of its own part
abbrev pub stands : List ℕ → ℕ → Bool
stands names p = slice_index names p == p

-- the standing names, in rising order
abbrev pub standing : List ℕ → List ℕ
standing names = filter (stands names) (range_with_len 0 (length names))

-- how many groups stand
abbrev pub groups : List ℕ → ℕ
groups names = length (standing names)

-- how many parts have this name
abbrev pub members : ℕ → List ℕ → ℕ
members v [] = 0
members v (w ∷ ws) = cond (w == v) 1 0 + members v ws

-- a part's name is at most the part, and stands: so it is the lowest part of the group
abbrev pub Named : List ℕ → Type 0
Named names =
    ((p : ℕ) → p < length names → slice_index names p ≤ p)
    × ((p : ℕ) → p < length names → slice_index names (slice_index names p) ≡ slice_index names p)
