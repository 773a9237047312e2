-- A sum of measures is a measure. Assumes nothing.
use Rattle.std.specs.Prelude.{◌≡◌, ℕ, ◌+◌, ◌*◌, ◌≤◌, Bool, true, false, cond, List, nat_le, refl}
use Rattle.std.proofs.Common.{sym, ap, subst, mul-add, mul-le-mul_left, arith}
use Rattle.std.proofs.lemmas.Bool.{leb-true, le-leb}
use Rattle.std.proofs.lemmas.Bool.Decides.{nat_tests}
use Rattle.cost.specs.Amounts.{capped, highest, whole_amount}
use Rattle.cost.specs.declared.whole.Whole.{Whole}
use Rattle.measure.specs.Laws.{MeasureLaws}
use Rattle.measure.specs.Rows.{Row}
use Rattle.compose.specs.Sum.{adds, sum_of}

-- p times a sum that is at most another
times_le : (p a b c d : ℕ) → a + b ≤ c + d → p * a + p * b ≤ p * c + p * d
times_le p a b c d h = omega (arith, mul-le-mul_left p h, mul-add p a b, mul-add p c d)

module _ (p q n : ℕ) (f h : List ℕ → ℕ) (s t : ℕ) (first : MeasureLaws ◌+◌ nat_le n f s) (second : MeasureLaws ◌+◌ nat_le n h t) where
  under : (row : List ℕ) → Row n row → p * f row + q * h row ≤ p * s + q * t
  under row r = omega (arith, mul-le-mul_left p (leb-true _ _ (first.ceiling row r)), mul-le-mul_left q (leb-true _ _ (second.ceiling row r)))

  weighted_laws : p * s + q * t ≤ highest → MeasureLaws ◌+◌ nat_le n (λ row. capped (p * f row + q * h row)) (capped (p * s + q * t))
  weighted_laws low = record {
    few = first.few;
    symmetric = λ row r. ap capped (rw (first.symmetric row r, second.symmetric row r) refl);
    submodular = λ x y rx ry. le-leb _ _ (omega (arith, under x rx, under y ry, low, times_le p _ _ _ _ (leb-true _ _ (first.submodular x y rx ry)), times_le q _ _ _ _ (leb-true _ _ (second.submodular x y rx ry))));
    ceiling = λ row r. le-leb _ _ (omega (arith, under row r));
  }

-- the laws of whole costs
abbrev WholeLaws : ℕ → (List ℕ → Whole) → Whole → Type 0
WholeLaws n f top = MeasureLaws ◌+◌ nat_le n (λ row. whole_amount (f row)) (whole_amount top)

-- of both measures, or of the first alone
pub sum_laws : (two : Bool) (p q n m : ℕ) (f h : List ℕ → Whole) (s t : Whole) → WholeLaws n f s → WholeLaws m h t → (two ≡ true → (n ≡ m) × ((sum_of p q s t).value ≤ highest)) →
    WholeLaws n (λ row. cond two (sum_of p q (f row) (h row)) (f row)) (cond two (sum_of p q s t) s)
sum_laws true p q n m f h s t first second add =
    weighted_laws p q n (λ row. whole_amount (f row)) (λ row. whole_amount (h row)) (whole_amount s) (whole_amount t) first (subst (λ (k : ℕ). WholeLaws k h t) (sym (add refl).0) second) (add refl).1
sum_laws false p q n m f h s t first second add = first

pub adds_parts : (n m p q : ℕ) (s t : Whole) → adds n m p q s t ≡ true → (n ≡ m) × ((sum_of p q s t).value ≤ highest)
adds_parts n m p q s t h = (grind (arith, nat_tests, h), grind (arith, nat_tests, h))

-- measures of n and m parts, added where they can be
pub sum_fair : (p q n m : ℕ) (f h : List ℕ → Whole) (s t : Whole) → WholeLaws n f s → WholeLaws m h t →
    WholeLaws n (λ row. cond (adds n m p q s t) (sum_of p q (f row) (h row)) (f row)) (cond (adds n m p q s t) (sum_of p q s t) s)
sum_fair p q n m f h s t first second = sum_laws (adds n m p q s t) p q n m f h s t first second (adds_parts n m p q s t)
