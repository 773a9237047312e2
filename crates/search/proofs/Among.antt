-- What is among the names that pass a test. Assumes nothing.
use Rattle.std.proofs.Common.{◌≡◌, ℕ, zero, suc, ◌+◌, ◌<◌, ◌≤◌, Bool, true, false, cond, ◌&&◌, ◌||◌, eqb, List, [], ◌∷◌, length, filter, sym, refl, ap, ◌∙◌, inl, inr, arith}
use Rattle.std.specs.List.{range_with_len}
use Rattle.std.proofs.lemmas.Bool.{eqb-true, eq-eqb, ne_eqb, cases_eq, or_cases, both_ways}
use Rattle.search.proofs.Sets.{among}

-- a test of x counts as one of p where the two are one
pub same_at : (q : ℕ → Bool) (p x : ℕ) → (q x && eqb p x) ≡ (q p && eqb p x)
same_at q p x = elim (cases_eq p x) [ inl e ↦ ap (λ y. q y && eqb p x) (sym e) | inr e ↦ let k = ne_eqb p x e in apart_both (q x) (q p) (eqb p x) k ]
  where
    apart_both : (a b c : Bool) → c ≡ false → (a && c) ≡ (b && c)
    apart_both a b c k = grind arith

among_cell : (b : Bool) (p x : ℕ) (ys : List ℕ) → among (cond b (x ∷ ys) ys) p ≡ ((b && eqb p x) || among ys p)
among_cell true p x ys = refl
among_cell false p x ys = refl

pub among_kept : (q : ℕ → Bool) (xs : List ℕ) (p : ℕ) → among (filter q xs) p ≡ (q p && among xs p)
among_kept q [] p = and_none (q p)
  where
    and_none : (a : Bool) → false ≡ (a && false)
    and_none a = grind arith
among_kept q (x ∷ xs) p = among_cell (q x) p x (filter q xs) ∙ regroup (q x) (q p) (eqb p x) (among xs p) (among (filter q xs) p) (same_at q p x) (among_kept q xs p)
  where
    regroup : (a b c d e : Bool) → (a && c) ≡ (b && c) → e ≡ (b && d) → ((a && c) || e) ≡ (b && (c || d))
    regroup a b c d e h k = grind arith

pub among_counting : (p a k : ℕ) → a ≤ p → p < a + k → among (range_with_len a k) p ≡ true
among_counting p a zero h l = absurd (omega arith)
among_counting p a (suc k) h l =
    elim (cases_eq p a) [
      | inl e ↦ let m = eq-eqb p a e in grind arith
      | inr e ↦ let m = ne_eqb p a e in let ih = among_counting p (a + 1) k (omega arith) (omega arith) in grind arith
    ]

pub counting_among : (p a k : ℕ) → among (range_with_len a k) p ≡ true → p < a + k
counting_among p a zero h = absurd (both_ways _ refl h)
counting_among p a (suc k) h =
    elim (or_cases (eqb p a) _ h) [
      | inl e ↦ omega (arith, eqb-true p a e)
      | inr e ↦ omega (arith, counting_among p (a + 1) k e)
    ]

pub none_among : (xs : List ℕ) (p : ℕ) → length xs ≡ 0 → among xs p ≡ false
none_among [] p h = refl
none_among (x ∷ xs) p h = absurd (omega arith)
