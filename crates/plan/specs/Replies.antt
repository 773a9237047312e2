-- What each call answers and leaves in its buffers, by the groups that stand. Assumes nothing.
use Rattle.std.specs.Prelude.{ℕ, Bool, cond, List, Ok, Err, Result}
use Rattle.cost.specs.declared.line.Line.{Line}
use Rattle.measure.specs.Asked.{asked}
use Rattle.measure.specs.declared.fault.RowFault.{RowFault}
use Rattle.partition.specs.Joined.{join_answer}
use Rattle.partition.specs.Single.{name_answer, single_answer}
use Rattle.search.specs.Certificate.{divides}
use Rattle.search.specs.Split.{split_answer, row_after, lines_after}
use Rattle.plan.specs.declared.call.Answer.{Answer}
use Rattle.plan.specs.declared.call.Answer.TheVariants as answer
use Rattle.plan.specs.declared.call.Call.{Call}
use Rattle.plan.specs.declared.call.Call.TheVariants.{Weld, Release, Group, Cost, Split}
use Rattle.plan.specs.declared.fault.CostFault.{CostFault}
use Rattle.plan.specs.declared.fault.CostFault.TheVariants.{Row, Divides}

-- a row that the measure prices is refused if it divides a group
abbrev pub undivided : {C : Type 0} → Bool → Result C RowFault → Result C CostFault
undivided cut (Ok cost) = cond cut (Err Divides) (Ok cost)
undivided cut (Err fault) = Err (Row fault)

abbrev pub cost_answer : {C : Type 0} → (List ℕ → C) → List ℕ → ℕ → List ℕ → Result C CostFault
cost_answer price names n row = undivided (divides names row) (asked n price row)

module _ {C X : Type 0} (amount : C → X) (plus : X → X → X) (le : X → X → Bool) (price : List ℕ → C) (n : ℕ) (names row : List ℕ) (lines : List (Line C)) where
  abbrev pub reply : Call → Answer C
  reply (Weld a b) = answer.Weld (join_answer names a b)
  reply (Release a) = answer.Release (single_answer names a)
  reply (Group a) = answer.Group (name_answer names a)
  reply Cost = answer.Cost (cost_answer price names n row)
  reply Split = answer.Split (split_answer amount plus le price names n row lines)

  -- only a split writes
  abbrev pub row_left : Call → List ℕ
  row_left (Weld a b) = row
  row_left (Release a) = row
  row_left (Group a) = row
  row_left Cost = row
  row_left Split = row_after amount plus le price names n row lines

  abbrev pub lines_left : Call → List (Line C)
  lines_left (Weld a b) = lines
  lines_left (Release a) = lines
  lines_left (Group a) = lines
  lines_left Cost = lines
  lines_left Split = lines_after amount plus le price names n row lines
