-- The numbers of the refusals. Assumes nothing.
use Rattle.std.specs.Prelude.{ℕ}
use Rattle.measure.specs.Numbers.{row_number}
use Rattle.plan.specs.declared.fault.CostFault.{CostFault}
use Rattle.plan.specs.declared.fault.CostFault.TheVariants.{Row, Divides}

abbrev pub cost_number : CostFault → ℕ
cost_number (Row fault) = row_number fault
cost_number Divides = 43
