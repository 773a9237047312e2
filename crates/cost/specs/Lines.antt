-- Lines, ordered by their costs. Assumes nothing.
use Rattle.std.specs.Prelude.{Bool}
use Rattle.cost.specs.declared.line.Line.{Line}

abbrev pub line_le : {C X : Type 0} → (C → X) → (X → X → Bool) → Line C → Line C → Bool
line_le amount le a b = le (amount a.cost) (amount b.cost)
