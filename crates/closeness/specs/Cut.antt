-- What a closeness table costs. Assumes nothing.
use Rattle.std.specs.Prelude.{ℕ, ◌+◌, ◌-◌, ◌*◌, Bool, true, cond, not, List, ◌==◌, slice_index}
use Rattle.std.specs.List.{range_with_len, sum_by}

-- the numbers from a on that are below n
abbrev pub range : ℕ → ℕ → List ℕ
range a n = range_with_len a (n - a)

-- the cost of the pair of a and a later part b: the entry in row a, column b
abbrev pub pair_cost : ℕ → List ℕ → ℕ → ℕ → ℕ
pair_cost n table a b = slice_index table (a * n + b)

-- what a's pairs with the later parts cost, those that count
abbrev pub row_cost : ℕ → List ℕ → (ℕ → Bool) → ℕ → ℕ
row_cost n table counts a = sum_by (λ b. cond (counts b) (pair_cost n table a b) 0) (range (a + 1) n)

-- the part b bears another mark in the row
abbrev pub differs : List ℕ → ℕ → ℕ → Bool
differs row mark b = not (slice_index row b == mark)

-- the pairs in which the row's mark of the later part is not the earlier part's of these
abbrev pub rows_cost : ℕ → List ℕ → List ℕ → List ℕ → ℕ
rows_cost n table row marks = sum_by (λ a. row_cost n table (differs row (slice_index marks a)) a) (range 0 n)

-- the pairs whose marks differ
abbrev pub cut : ℕ → List ℕ → List ℕ → ℕ
cut n table row = rows_cost n table row row

-- the ceiling
abbrev pub all_pairs : ℕ → List ℕ → ℕ
all_pairs n table = sum_by (row_cost n table (λ b. true)) (range 0 n)
