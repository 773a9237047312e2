-- What a tie of two measures costs, and which ties are refused. Assumes nothing.
use Rattle.std.specs.Prelude.{ℕ, Bool, cond, Ok, Err, Result, ◌==◌}
use Rattle.cost.specs.declared.pair.Pair.{Pair}
use Rattle.cost.specs.declared.whole.Whole.{Whole}
use Rattle.measure.specs.declared.fault.MakingFault.{MakingFault}
use Rattle.measure.specs.declared.fault.MakingFault.TheVariants.{CountsDiffer}

-- both costs, or the first beside 0
abbrev pub tied : Bool → Whole → Whole → Pair
tied two a b = record { first = a; second = cond two b (record { value = 0 }) }

-- the fault of measures of n and m parts, if there is one
abbrev pub verdict : ℕ → ℕ → Result (Unit {0}) MakingFault
verdict n m = cond (n == m) (Ok tt) (Err CountsDiffer)
