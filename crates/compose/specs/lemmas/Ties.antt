-- A tie of measures is a measure. Assumes nothing.
use Rattle.std.specs.Prelude.{◌≡◌, ℕ, ◌+◌, ◌≤◌, Bool, true, false, leb, List, ◌==◌, nat_le, refl}
use Rattle.std.proofs.Common.{sym, subst, arith}
use Rattle.std.proofs.lemmas.Bool.{eqb-true}
use Rattle.std.proofs.lemmas.Bool.Decides.{nat_tests}
use Rattle.cost.specs.Amounts.{Amounts, pair_amount, pair_plus, pair_le, whole_amount}
use Rattle.cost.specs.declared.whole.Whole.{Whole}
use Rattle.measure.specs.Laws.{MeasureLaws}
use Rattle.compose.specs.Tie.{tied}

same_pair : {a b c d : ℕ} → a ≡ c → b ≡ d → ◌≡◌ {A = Amounts} (record { first = a; second = b }) (record { first = c; second = d })
same_pair e f = cc

-- pairs are ordered where both their numbers are
both_le : (a b c d : ℕ) → nat_le a c ≡ true → nat_le b d ≡ true → pair_le (record { first = a; second = b }) (record { first = c; second = d }) ≡ true
both_le a b c d h k = grind (arith, nat_tests, h, k)

pair_laws : (n : ℕ) (f h : List ℕ → ℕ) (s t : ℕ) → MeasureLaws ◌+◌ leb n f s → MeasureLaws ◌+◌ leb n h t → MeasureLaws pair_plus pair_le n (λ row. record { first = f row; second = h row }) (record { first = s; second = t })
pair_laws n f h s t first second = record {
  few = first.few;
  symmetric = λ row r. same_pair (first.symmetric row r) (second.symmetric row r);
  submodular = λ x y rx ry. both_le _ _ _ _ (first.submodular x y rx ry) (second.submodular x y rx ry);
  ceiling = λ row r. both_le _ _ _ _ (first.ceiling row r) (second.ceiling row r);
}

-- nothing at all is a measure of any number of parts
nothing_laws : (n : ℕ) → (2 ≤ n) × (n ≤ 80) → MeasureLaws ◌+◌ leb n (λ _. 0) 0
nothing_laws n few = record { few = few; symmetric = λ row r. refl; submodular = λ x y rx ry. refl; ceiling = λ row r. refl }

-- of both measures, or of the first beside 0
pub tie_laws : (two : Bool) (n m : ℕ) (f h : List ℕ → Whole) (s t : Whole) → (two ≡ true → n ≡ m) →
    MeasureLaws ◌+◌ leb n (λ row. whole_amount (f row)) (whole_amount s) → MeasureLaws ◌+◌ leb m (λ row. whole_amount (h row)) (whole_amount t) →
    MeasureLaws pair_plus pair_le n (λ row. pair_amount (tied two (f row) (h row))) (pair_amount (tied two s t))
tie_laws true n m f h s t equal first second =
    pair_laws n _ _ _ _ first (subst (λ (k : ℕ). MeasureLaws ◌+◌ leb k (λ row. whole_amount (h row)) (whole_amount t)) (sym (equal refl)) second)
tie_laws false n m f h s t equal first second = pair_laws n _ _ _ _ first (nothing_laws n first.few)

-- measures of n and m parts, tied where these are equal
pub tie_fair : (n m : ℕ) (f h : List ℕ → Whole) (s t : Whole) →
    MeasureLaws ◌+◌ leb n (λ row. whole_amount (f row)) (whole_amount s) → MeasureLaws ◌+◌ leb m (λ row. whole_amount (h row)) (whole_amount t) →
    MeasureLaws pair_plus pair_le n (λ row. pair_amount (tied (n == m) (f row) (h row))) (pair_amount (tied (n == m) s t))
tie_fair n m f h s t first second = tie_laws (n == m) n m f h s t (eqb-true n m) first second
