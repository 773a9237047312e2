-- Which parts a row of boxes marks, and which boxes are refused. Assumes nothing.
use Rattle.std.specs.Prelude.{◌≡◌, ℕ, ◌≤◌, Bool, true, cond, List, map, length, Ok, Err, Result, ◌==◌, nat_eq, nat_lt, slice_index}
use Rattle.std.specs.List.{range_with_len, list_any, list_all}
use Rattle.measure.specs.Limits.{count_fits}
use Rattle.measure.specs.declared.fault.MakingFault.{MakingFault}
use Rattle.measure.specs.declared.fault.MakingFault.TheVariants.{Count, TableLength, Entry, EmptyBox}

-- each part bears the mark of its box
abbrev pub spread : List ℕ → List ℕ → List ℕ
spread boxes row = map (λ b. slice_index row b) boxes

-- every part lies in one of m boxes
abbrev pub all_below : ℕ → List ℕ → Bool
all_below m boxes = list_all (λ b. nat_lt b m) boxes

-- the box with this number has a part
abbrev pub holds : List ℕ → ℕ → Bool
holds boxes number = list_any (λ b. nat_eq b number) boxes

-- every one of m boxes has a part
abbrev pub all_full : ℕ → List ℕ → Bool
all_full m boxes = list_all (holds boxes) (range_with_len 0 m)

-- the first fault of n parts in m boxes, if there is one
abbrev pub verdict : ℕ → List ℕ → ℕ → Result (Unit {0}) MakingFault
verdict n boxes m =
    cond (count_fits m)
    (cond (length boxes == n)
    (cond (all_below m boxes)
    (cond (all_full m boxes) (Ok tt) (Err EmptyBox))
    (Err Entry))
    (Err TableLength))
    (Err Count)

-- what holds of the boxes alone where there is no fault
pub record Sound (m : ℕ) (boxes : List ℕ) : Type 0 where
  pub few : (2 ≤ m) × (m ≤ 80)
  pub named : all_below m boxes ≡ true
  pub full : all_full m boxes ≡ true
