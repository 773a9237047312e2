-- Lines compare as their costs do. Assumes nothing.
use Rattle.std.proofs.Common.{◌≡◌, Bool, true, ◌⊎◌}
use Rattle.cost.specs.Order.{TotalOrder}
use Rattle.cost.specs.Lines.{line_le}
use Rattle.cost.specs.declared.line.Line.{Line}

module _ {C X : Type 0} (amount : C → X) (le : X → X → Bool) (order : TotalOrder le) where
  pub line_total : (a b : Line C) → (line_le amount le a b ≡ true) ⊎ (line_le amount le b a ≡ true)
  line_total a b = order.total (amount a.cost) (amount b.cost)

  pub line_transitive : (a b c : Line C) → line_le amount le a b ≡ true → line_le amount le b c ≡ true → line_le amount le a c ≡ true
  line_transitive a b c h k = order.transitive (amount a.cost) (amount b.cost) (amount c.cost) h k
