-- The certificate: what a division is worth. `names` gives each part the name of its group. Assumes nothing.
use Rattle.std.specs.Prelude.{◌≡◌, ℕ, ◌<◌, Bool, true, false, cond, not, ◌&&◌, List, ◌∷◌, ◌++◌, length, ◌==◌, slice_index}
use Rattle.std.specs.List.{range_with_len, list_any, AllByRecursion}
use Rattle.cost.specs.declared.line.Line.{Line}
use Rattle.measure.specs.Rows.{Row, marks}

-- parts p and q lie in one group, and the row marks p and not q
abbrev pub cuts_between : List ℕ → List ℕ → ℕ → ℕ → Bool
cuts_between names row p q = slice_index names p == slice_index names q && (marks row p && not (marks row q))

-- the row divides a group: it marks one of its parts and leaves another unmarked
abbrev pub divides : List ℕ → List ℕ → Bool
divides names row = list_any (λ p. list_any (cuts_between names row p) (range_with_len 0 (length names))) (range_with_len 0 (length names))

-- a row of marks that holds some part, lacks some part and divides no group
pub record Side (names row : List ℕ) : Type 0 where
  pub row_is : Row (length names) row
  pub held : ℕ
  pub held_part : held < length names
  pub holds : marks row held ≡ true
  pub lacked : ℕ
  pub lacked_part : lacked < length names
  pub lacks : marks row lacked ≡ false
  pub whole : divides names row ≡ false

-- the row marks exactly one of the parts a and b
abbrev pub separates : List ℕ → ℕ → ℕ → Bool
separates row a b = cond (marks row a) (not (marks row b)) (marks row b)

module _ {C X : Type 0} (amount : C → X) (le : X → X → Bool) (price : List ℕ → C) (names : List ℕ) where
  -- some side costs as much, and none costs less
  pub record LeastCost (cost : C) : Type 0 where
    pub side : List ℕ
    pub side_is : Side names side
    pub reached : amount (price side) ≡ amount cost
    pub least : (other : List ℕ) → Side names other → le (amount cost) (amount (price other)) ≡ true

  -- the first of the lines whose two parts the row separates costs at most what the row costs
  pub record Traced (lines : List (Line C)) (row : List ℕ) : Type 0 where
    pub before : List (Line C)
    pub line : Line C
    pub after : List (Line C)
    pub listed : lines ≡ before ++ (line ∷ after)
    pub earlier : AllByRecursion (λ l. separates row l.t l.u ≡ false) before
    pub separated : separates row line.t line.u ≡ true
    pub cheap : le (amount line.cost) (amount (price row)) ≡ true

  -- the row is a side and costs just this; no side costs less; the lines name parts, and trace every side
  pub record Certified (row : List ℕ) (lines : List (Line C)) (cost : C) : Type 0 where
    pub divides : Side names row
    pub priced : price row ≡ cost
    pub least : LeastCost cost
    pub parts : AllByRecursion (λ l. (l.t < length names) × (l.u < length names)) lines
    pub traced : (side : List ℕ) → Side names side → Traced lines side
