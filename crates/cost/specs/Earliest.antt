-- The earliest smallest item of a list, by any test `le` of its items. Assumes nothing.
use Rattle.std.specs.Prelude.{◌≡◌, ℕ, ◌+◌, ◌-◌, ◌<◌, ◌≤◌, Bool, true, false, cond, List, [], ◌∷◌, length, slice_index_or}

-- i items are behind, and the smallest of them is the one with this number
abbrev pub earliest_from : {A : Type 0} → (A → A → Bool) → ℕ → ℕ → A → List A → ℕ
earliest_from le i number smallest [] = number
earliest_from le i number smallest (x ∷ xs) =
    cond (le smallest x) (earliest_from le (i + 1) number smallest xs) (earliest_from le (i + 1) (i + 1) x xs)

-- its number, from 1; 0 where there is no item
abbrev pub earliest : {A : Type 0} → (A → A → Bool) → List A → ℕ
earliest le [] = 0
earliest le (x ∷ xs) = earliest_from le 1 1 x xs

-- what that number means, where `le` is total and transitive
pub record Earliest {A : Type 0} (le : A → A → Bool) (items : List A) (number : ℕ) : Type 0 where
  pub none : length items ≡ 0 → number ≡ 0
  pub some : 0 < length items → (1 ≤ number) × (number ≤ length items)
  pub smallest : (k : ℕ) (d : A) → k < length items → le (slice_index_or items (number - 1) d) (slice_index_or items k d) ≡ true
  pub first : (k : ℕ) (d : A) → k < number - 1 → le (slice_index_or items k d) (slice_index_or items (number - 1) d) ≡ false
