-- The texts of calls and of the refusals. Assumes nothing.
use Rattle.std.specs.Prelude.{ℕ, List, ◌++◌, codes, decimal}
use Rattle.measure.specs.Texts.{row_text}
use Rattle.plan.specs.declared.call.Call.{Call}
use Rattle.plan.specs.declared.call.Call.TheVariants.{Weld, Release, Group, Cost, Split}
use Rattle.plan.specs.declared.fault.CostFault.{CostFault}
use Rattle.plan.specs.declared.fault.CostFault.TheVariants.{Row, Divides}

abbrev pub call_text : Call → List ℕ
call_text (Weld a b) = codes "weld(" ++ decimal a ++ codes ", " ++ decimal b ++ codes ")"
call_text (Release a) = codes "release(" ++ decimal a ++ codes ")"
call_text (Group a) = codes "group(" ++ decimal a ++ codes ")"
call_text Cost = codes "cost"
call_text Split = codes "split"

abbrev pub cost_fault_text : CostFault → List ℕ
cost_fault_text (Row fault) = row_text fault
cost_fault_text Divides = codes "43: the row divides a group"
