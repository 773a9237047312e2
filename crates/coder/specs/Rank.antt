-- The rank of a side: the size of its largest independent subset. A column is a word, and bit i of it its entry in row i of the matrix. Assumes nothing.
use Rattle.std.specs.Prelude.{ℕ, zero, suc, max, Bool, cond, not, ◌||◌, List, [], ◌∷◌, ◌++◌, map, length, ◌==◌, bit_xor}
use Rattle.std.specs.List.{list_all}

-- the columns of the parts that a row marks
abbrev pub side : {X : Type 0} → List X → List ℕ → List X
side [] row = []
side (c ∷ columns) [] = []
side (c ∷ columns) (zero ∷ row) = side columns row
side (c ∷ columns) (suc m ∷ row) = c ∷ side columns row

abbrev pub subsets : {X : Type 0} → List X → List (List X)
subsets [] = [] ∷ []
subsets (c ∷ columns) = subsets columns ++ map (λ s. c ∷ s) (subsets columns)

-- columns added up, entry by entry modulo 2
abbrev pub added : List ℕ → ℕ
added [] = 0
added (c ∷ columns) = bit_xor c (added columns)

-- no nonempty subset adds up to all zeros
abbrev pub independent : List ℕ → Bool
independent columns = list_all (λ s. (length s == 0) || not (added s == 0)) (subsets columns)

-- the greatest f of an element
abbrev pub greatest : {X : Type 0} → (X → ℕ) → List X → ℕ
greatest f [] = 0
greatest f (x ∷ xs) = max (f x) (greatest f xs)

-- the size of the largest independent subset of the parts that a row marks
unfoldable pub rank : List ℕ → List ℕ → ℕ
rank columns row = greatest (λ s. cond (independent s) (length s) 0) (subsets (side columns row))
