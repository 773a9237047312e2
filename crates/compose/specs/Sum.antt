-- What a sum of two measures costs, and which sums are refused. Assumes nothing.
use Rattle.std.specs.Prelude.{ℕ, ◌+◌, ◌*◌, Bool, cond, ◌&&◌, Ok, Err, Result, ◌==◌, nat_le}
use Rattle.cost.specs.Amounts.{highest, whole_amount}
use Rattle.cost.specs.declared.whole.Whole.{Whole}
use Rattle.measure.specs.declared.fault.MakingFault.{MakingFault}
use Rattle.measure.specs.declared.fault.MakingFault.TheVariants.{CountsDiffer, Multiplier, Ceiling}

abbrev pub multiplier_fits : ℕ → Bool
multiplier_fits p = nat_le 1 p && nat_le p 1000

-- p times one cost and q times another, each as it counts
abbrev pub sum_of : ℕ → ℕ → Whole → Whole → Whole
sum_of p q a b = record { value = p * whole_amount a + q * whole_amount b }

-- measures of n and m parts with the ceilings s and t can be added
abbrev pub adds : ℕ → ℕ → ℕ → ℕ → Whole → Whole → Bool
adds n m p q s t = n == m && nat_le (sum_of p q s t).value highest

-- the first fault, if there is one
abbrev pub verdict : ℕ → ℕ → ℕ → ℕ → Whole → Whole → Result (Unit {0}) MakingFault
verdict n m p q s t =
    cond (n == m)
    (cond (multiplier_fits p && multiplier_fits q)
    (cond (nat_le (sum_of p q s t).value highest) (Ok tt) (Err Ceiling))
    (Err Multiplier))
    (Err CountsDiffer)
