-- Mark rows: the sides of a figure with n parts. Assumes nothing.
use Rattle.std.specs.Prelude.{◌≡◌, ℕ, ◌-◌, ◌<◌, ◌≤◌, min, max, Bool, List, [], ◌∷◌, map, length, ◌==◌, slice_index}

-- a row of n marks, each 0 or 1
pub record Row (n : ℕ) (row : List ℕ) : Type 0 where
  pub long : length row ≡ n
  pub bits : (k : ℕ) → k < n → slice_index row k ≤ 1

-- the row marks the part p
abbrev pub marks : List ℕ → ℕ → Bool
marks row p = slice_index row p == 1

-- 0 and 1 exchanged
abbrev pub complement : List ℕ → List ℕ
complement row = map (λ x. 1 - x) row

-- two rows place by place
abbrev pub merged : (ℕ → ℕ → ℕ) → List ℕ → List ℕ → List ℕ
merged f [] b = []
merged f (x ∷ a) [] = []
merged f (x ∷ a) (y ∷ b) = f x y ∷ merged f a b

-- the parts in either row
abbrev pub either : List ℕ → List ℕ → List ℕ
either a b = merged max a b

-- the parts in both rows
abbrev pub both : List ℕ → List ℕ → List ℕ
both a b = merged min a b
