-- Which columns are refused, and why. Assumes nothing.
use Rattle.std.specs.Prelude.{◌≡◌, ℕ, ◌^◌, ◌≤◌, Bool, true, cond, List, length, Ok, Err, Result, ◌==◌, nat_le, nat_lt}
use Rattle.std.specs.List.{list_all}
use Rattle.measure.specs.Limits.{count_fits}
use Rattle.measure.specs.declared.fault.MakingFault.{MakingFault}
use Rattle.measure.specs.declared.fault.MakingFault.TheVariants.{Count, TooMany, TableLength, Entry}

-- no column has a bit at or beyond the number of rows
abbrev pub columns_fit : ℕ → List ℕ → Bool
columns_fit rows columns = list_all (λ c. nat_lt c (2 ^ rows)) columns

-- the first fault, if there is one
abbrev pub verdict : ℕ → ℕ → List ℕ → Result (Unit {0}) MakingFault
verdict n rows columns =
    cond (count_fits n)
    (cond (nat_le rows 64)
    (cond (length columns == n)
    (cond (columns_fit rows columns) (Ok tt) (Err Entry))
    (Err TableLength))
    (Err TooMany))
    (Err Count)

-- what holds of columns that have no fault
pub record Sound (n rows : ℕ) (columns : List ℕ) : Type 0 where
  pub few : (2 ≤ n) × (n ≤ 80)
  pub short : rows ≤ 64
  pub long : length columns ≡ n
  pub fit : columns_fit rows columns ≡ true
