-- Which tables are refused, and why. Assumes nothing.
use Rattle.std.specs.Prelude.{◌≡◌, ℕ, ◌*◌, ◌≤◌, Bool, true, cond, List, length, Ok, Err, Result, ◌==◌, nat_le}
use Rattle.std.specs.List.{list_all}
use Rattle.measure.specs.Limits.{count_fits, largest}
use Rattle.measure.specs.declared.fault.MakingFault.{MakingFault}
use Rattle.measure.specs.declared.fault.MakingFault.TheVariants.{Count, TableLength, Entry}

abbrev pub entry_fits : ℕ → Bool
entry_fits entry = nat_le entry largest

-- the first fault, if there is one
abbrev pub verdict : ℕ → List ℕ → Result (Unit {0}) MakingFault
verdict n table =
    cond (count_fits n)
    (cond (length table == n * n)
    (cond (list_all entry_fits table) (Ok tt) (Err Entry))
    (Err TableLength))
    (Err Count)

-- what holds of a table that has no fault
pub record Sound (n : ℕ) (table : List ℕ) : Type 0 where
  pub few : (2 ≤ n) × (n ≤ 80)
  pub long : length table ≡ n * n
  pub fits : list_all entry_fits table ≡ true
