-- Which nets are refused, and why. Assumes nothing.
use Rattle.std.specs.Prelude.{◌≡◌, ℕ, ◌+◌, ◌≤◌, Bool, true, cond, ◌&&◌, List, length, Ok, Err, Result, nat_le, nat_lt}
use Rattle.std.specs.List.{list_all}
use Rattle.measure.specs.Limits.{count_fits, largest}
use Rattle.measure.specs.declared.fault.MakingFault.{MakingFault}
use Rattle.measure.specs.declared.fault.MakingFault.TheVariants.{Count, TooMany, Entry}
use Rattle.nets.specs.declared.net.Net.{Net}

-- a net with 1 to 80 pins that lie in a pin list of this length
abbrev pub net_fits : ℕ → Net → Bool
net_fits size net = nat_le net.weight largest && (nat_le 1 net.count && (nat_le net.count 80 && nat_le (net.first + net.count) size))

-- every pin names a part of a figure with n parts
abbrev pub pins_fit : ℕ → List ℕ → Bool
pins_fit n pins = list_all (λ p. nat_lt p n) pins

-- the first fault, if there is one
abbrev pub verdict : ℕ → List Net → List ℕ → Result (Unit {0}) MakingFault
verdict n nets pins =
    cond (count_fits n)
    (cond (nat_le (length nets) 500 && nat_le (length pins) 4000)
    (cond (list_all (net_fits (length pins)) nets && pins_fit n pins) (Ok tt) (Err Entry))
    (Err TooMany))
    (Err Count)

-- what holds of tables that have no fault
pub record Sound (n : ℕ) (nets : List Net) (pins : List ℕ) : Type 0 where
  pub few : (2 ≤ n) × (n ≤ 80)
  pub short : (length nets ≤ 500) × (length pins ≤ 4000)
  pub fits : list_all (net_fits (length pins)) nets ≡ true
  pub named : pins_fit n pins ≡ true
