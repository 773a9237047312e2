-- Two lists that are the same are of the same length in one way only. Assumes nothing.
use Rattle.std.proofs.Common.{◌≡◌, ℕ, List, length}
use Rattle.std.proofs.Math.Nat.{ℕ_set}
use Rattle.std.proofs.Math.Path.{PathP}
use mathlib.Core.HLevel.{is_prop→PathP}

pub fits_along : (n : ℕ) {xs ys : List ℕ} (e : xs ≡ ys) (p : length xs ≡ n) (q : length ys ≡ n) → PathP (λ i. length (e i) ≡ n) p q
fits_along n e p q = is_prop→PathP (λ i. length (e i) ≡ n) (λ i. ℕ_set _ _) p q
