-- The laws of a measure: its number of parts is 2 to 80; a row and its complement cost the same; either and both cost at most what the two rows cost; and no row costs more than the ceiling. Assumes nothing.
use Rattle.std.specs.Prelude.{◌≡◌, ℕ, ◌≤◌, Bool, true, List}
use Rattle.measure.specs.Rows.{Row, complement, either, both}

-- n parts, the amount f of each row, the ceiling's amount top
pub record MeasureLaws {X : Type 0} (plus : X → X → X) (le : X → X → Bool) (n : ℕ) (f : List ℕ → X) (top : X) : Type 0 where
  pub few : (2 ≤ n) × (n ≤ 80)
  pub symmetric : (row : List ℕ) → Row n row → f (complement row) ≡ f row
  pub submodular : (a b : List ℕ) → Row n a → Row n b → le (plus (f (either a b)) (f (both a b))) (plus (f a) (f b)) ≡ true
  pub ceiling : (row : List ℕ) → Row n row → le (f row) top ≡ true
