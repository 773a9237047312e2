-- The laws of a cost kind: sums in any order and bracketing, a total order, and the same order once anything is added to both. Assumes nothing.
use Rattle.std.specs.Prelude.{◌≡◌, Bool}
use Rattle.cost.specs.Order.{TotalOrder}

pub record KindLaws {X : Type 0} (plus : X → X → X) (le : X → X → Bool) : Type 0 where
  pub commutative : (a b : X) → plus a b ≡ plus b a
  pub associative : (a b c : X) → plus (plus a b) c ≡ plus a (plus b c)
  pub order : TotalOrder le
  pub translated : (a b c : X) → le (plus a c) (plus b c) ≡ le a b
