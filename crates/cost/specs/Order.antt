-- What a total order is, as a test that answers true or false. Assumes nothing.
use Rattle.std.specs.Prelude.{◌≡◌, Bool, true, ◌⊎◌}

pub record TotalOrder {X : Type 0} (le : X → X → Bool) : Type 0 where
  pub total : (a b : X) → (le a b ≡ true) ⊎ (le b a ≡ true)
  pub antisymmetric : (a b : X) → le a b ≡ true → le b a ≡ true → a ≡ b
  pub transitive : (a b c : X) → le a b ≡ true → le b c ≡ true → le a c ≡ true
