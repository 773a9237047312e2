-- The rows that the search asks about, and which groups are still to be ordered. Assumes nothing.
use Rattle.std.specs.Prelude.{ℕ, Bool, cond, not, ◌&&◌, ◌||◌, List, map, length, filter, ◌==◌, nat_eq}
use Rattle.std.specs.List.{range_with_len}
use Rattle.measure.specs.Rows.{marks, merged}
use Rattle.partition.specs.Names.{stands}

abbrev pub bit : Bool → ℕ
bit b = cond b 1 0

-- the row that marks the parts whose group's name passes the test
abbrev pub marked_by : (ℕ → Bool) → List ℕ → List ℕ
marked_by test names = map (λ name. bit (test name)) names

-- the row that marks the parts of the group u
abbrev pub alone : List ℕ → ℕ → List ℕ
alone names u = marked_by (λ name. nat_eq name u) names

-- the row that marks the parts of the row and those of the group u
abbrev pub added : List ℕ → List ℕ → ℕ → List ℕ
added names row u = merged (λ name mark. bit (name == u || mark == 1)) names row

-- a standing name whose part the row does not mark
abbrev pub unordered : List ℕ → List ℕ → ℕ → Bool
unordered names row p = stands names p && not (marks row p)

-- those names, in rising order
abbrev pub left : List ℕ → List ℕ → List ℕ
left names row = filter (unordered names row) (range_with_len 0 (length names))
