-- Sums over numbers below n compare as their terms do. Assumes nothing.
use Rattle.std.specs.Prelude.{◌≡◌, ℕ, zero, suc, ◌+◌, ◌-◌, ◌*◌, ◌<◌, ◌≤◌, true, List, [], ◌∷◌, length, nat_lt, refl}
use Rattle.std.specs.List.{list_all, range_with_len, sum_by}
use Rattle.std.proofs.Common.{arith}
use Rattle.std.proofs.lemmas.Bool.{and_parts, ltb-true}
use Rattle.std.proofs.lemmas.Bool.Decides.{nat_tests}
use Rattle.std.proofs.lemmas.List.Sums.{sum_by-cons}
use Rattle.closeness.specs.Cut.{range}

-- the numbers of a range are below its end
counting_below : (n a k : ℕ) → k ≤ n - a → list_all (λ b. nat_lt b n) (range_with_len a k) ≡ true
counting_below n a zero h = refl
counting_below n a (suc k) h =
    let rest = counting_below n (a + 1) k (omega arith) in
    grind (arith, nat_tests, rest)

pub range_below : (a n : ℕ) → list_all (λ b. nat_lt b n) (range a n) ≡ true
range_below a n = counting_below n a (n - a) (omega arith)

module _ (n : ℕ) where
  pub summed_two : (e f g h : ℕ → ℕ) → ((b : ℕ) → b < n → e b + f b ≤ g b + h b) → (bs : List ℕ) → list_all (λ b. nat_lt b n) bs ≡ true →
      sum_by e bs + sum_by f bs ≤ sum_by g bs + sum_by h bs
  summed_two e f g h le [] below = omega arith
  summed_two e f g h le (b ∷ bs) below =
      let parts = and_parts (nat_lt b n) _ below in
      omega (arith, le b (ltb-true b n parts.0), summed_two e f g h le bs parts.1, sum_by-cons e b bs, sum_by-cons f b bs, sum_by-cons g b bs, sum_by-cons h b bs)

  pub summed_le : (f g : ℕ → ℕ) → ((b : ℕ) → b < n → f b ≤ g b) → (bs : List ℕ) → list_all (λ b. nat_lt b n) bs ≡ true → sum_by f bs ≤ sum_by g bs
  summed_le f g le bs below = omega (arith, summed_two f f g g (λ b h. omega (arith, le b h)) bs below)

  pub summed_same : (f g : ℕ → ℕ) → ((b : ℕ) → b < n → f b ≡ g b) → (bs : List ℕ) → list_all (λ b. nat_lt b n) bs ≡ true → sum_by f bs ≡ sum_by g bs
  summed_same f g same bs below =
      omega (
        arith,
        summed_le f g (λ b h. omega (arith, same b h)) bs below,
        summed_le g f (λ b h. omega (arith, same b h)) bs below,
      )

  pub summed_small : (f : ℕ → ℕ) (m : ℕ) → ((b : ℕ) → b < n → f b ≤ m) → (bs : List ℕ) → list_all (λ b. nat_lt b n) bs ≡ true → sum_by f bs ≤ m * length bs
  summed_small f m small [] below = omega arith
  summed_small f m small (b ∷ bs) below =
      let parts = and_parts (nat_lt b n) _ below in
      omega (arith, small b (ltb-true b n parts.0), summed_small f m small bs parts.1, sum_by-cons f b bs)
