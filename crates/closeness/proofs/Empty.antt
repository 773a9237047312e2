-- No part of an empty row bears the mark 1. Assumes nothing.
use Rattle.std.proofs.Common.{◌≡◌, ℕ, ◌+◌, ◌<◌, ◌≤◌, cond, List, get_or, replicate, refl, arith}
use Rattle.std.proofs.lemmas.List.{get_or-replicate}
use Rattle.closeness.specs.Cut.{all_pairs, differs, pair_cost, range, rows_cost}
use Rattle.closeness.specs.lemmas.Summed.{range_below, summed_same}

pub empty_counts : (n m : ℕ) (table : List ℕ) → n ≤ m → rows_cost n table (replicate m 0) (replicate m 1) ≡ all_pairs n table
empty_counts n m table wide = summed_same n _ _ (λ a first. summed_same n _ _ (pair a first) (range (a + 1) n) (range_below (a + 1) n)) (range 0 n) (range_below 0 n)
  where
    pair : (a : ℕ) → a < n → (b : ℕ) → b < n → cond (differs (replicate m 0) (get_or (replicate m 1) a 0) b) (pair_cost n table a b) 0 ≡ pair_cost n table a b
    pair a first b later =
        let zero : ◌≡◌ {A = ℕ} (get_or (replicate m 0) b 0) 0 = get_or-replicate {A = ℕ} m b 0 0 (omega arith) in
        let one : ◌≡◌ {A = ℕ} (get_or (replicate m 1) a 0) 1 = get_or-replicate {A = ℕ} m a 1 0 (omega arith) in
        rw (zero, one) refl
