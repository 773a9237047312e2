-- The cut of a closeness table is symmetric, submodular and at most what all pairs cost. Assumes nothing.
use Rattle.std.specs.Prelude.{◌≡◌, ℕ, ◌+◌, ◌-◌, ◌*◌, ◌<◌, ◌≤◌, min, max, Bool, true, cond, not, List, length, ◌==◌, nat_le, slice_index}
use Rattle.std.specs.List.{list_all}
use Rattle.std.proofs.Common.{sym, ap, ◌∙◌, inl, inr, arith}
use Rattle.std.proofs.lemmas.List.FromFn.{length-range_with_len}
use Rattle.std.proofs.lemmas.List.Sums.{AllPass-from_list_all, sum_by-le, sum_by-le-sum_by}
use Rattle.std.proofs.lemmas.List.{get_or-map, get_or_past}
use Rattle.std.proofs.lemmas.Bool.{cases_lt, le-leb, leb-true}
use Rattle.std.proofs.lemmas.Bool.Decides.{nat_tests}
use Rattle.cost.specs.Amounts.{capped}
use Rattle.measure.specs.Laws.{MeasureLaws}
use Rattle.measure.specs.Rows.{Row, complement, merged, either, both}
use Rattle.measure.proofs.Rows.{getD_merged}
use Rattle.closeness.specs.Cut.{all_pairs, cut, pair_cost, range, row_cost}
use Rattle.closeness.specs.Making.{Sound, entry_fits}
use Rattle.closeness.specs.lemmas.Summed.{range_below, summed_same, summed_two}

-- a pair whose marks are x and y costs e if these differ
abbrev charge : ℕ → ℕ → ℕ → ℕ
charge e x y = cond (not (y == x)) e 0

charge_complement : (e x y : ℕ) → x ≤ 1 → y ≤ 1 → charge e (1 - x) (1 - y) ≡ charge e x y
charge_complement e x y bit_x bit_y = grind (arith, nat_tests)

charge_submodular : (e x y u v : ℕ) → x ≤ 1 → y ≤ 1 → u ≤ 1 → v ≤ 1 → charge e (max x u) (max y v) + charge e (min x u) (min y v) ≤ charge e x y + charge e u v
charge_submodular e x y u v bit_x bit_y bit_u bit_v = grind (arith, nat_tests)

module _ (n : ℕ) (table a : List ℕ) (row_a : Row n a) where
  pub cut_complement : cut n table (complement a) ≡ cut n table a
  cut_complement = summed_same n _ _ (λ p below. summed_same n _ _ (λ q later. pair p q below later) (range (p + 1) n) (range_below (p + 1) n)) (range 0 n) (range_below 0 n)
    where
      at : (p : ℕ) → p < n → slice_index (complement a) p ≡ 1 - slice_index a p
      at p below = get_or-map (λ x. 1 - x) a p 0 0 (omega (arith, row_a.long))

      pair : (p q : ℕ) → p < n → q < n → charge (pair_cost n table p q) (slice_index (complement a) p) (slice_index (complement a) q) ≡ charge (pair_cost n table p q) (slice_index a p) (slice_index a q)
      pair p q below later = rw (at p below, at q later) (charge_complement _ _ _ (row_a.bits p below) (row_a.bits q later))

  module _ (b : List ℕ) (row_b : Row n b) where
    pub cut_submodular : cut n table (either a b) + cut n table (both a b) ≤ cut n table a + cut n table b
    cut_submodular = summed_two n _ _ _ _ (λ p below. summed_two n _ _ _ _ (λ q later. pair p q below later) (range (p + 1) n) (range_below (p + 1) n)) (range 0 n) (range_below 0 n)
      where
        at : (f : ℕ → ℕ → ℕ) (p : ℕ) → p < n → slice_index (merged f a b) p ≡ f (slice_index a p) (slice_index b p)
        at f p below = getD_merged f a b p (row_a.long ∙ sym row_b.long) (omega (arith, row_a.long))

        pair : (p q : ℕ) → p < n → q < n →
            charge (pair_cost n table p q) (slice_index (either a b) p) (slice_index (either a b) q) + charge (pair_cost n table p q) (slice_index (both a b) p) (slice_index (both a b) q)
            ≤ charge (pair_cost n table p q) (slice_index a p) (slice_index a q) + charge (pair_cost n table p q) (slice_index b p) (slice_index b q)
        pair p q below later = rw (at max p below, at max q later, at min p below, at min q later) (charge_submodular _ _ _ _ _ (row_a.bits p below) (row_a.bits q later) (row_b.bits p below) (row_b.bits q later))

pub cut_ceiling : (n : ℕ) (table row : List ℕ) → cut n table row ≤ all_pairs n table
cut_ceiling n table row = sum_by-le-sum_by _ _ (range 0 n) (λ p. sum_by-le-sum_by _ _ (range (p + 1) n) (λ q. pair p q))
  where
    pair : (p q : ℕ) → charge (pair_cost n table p q) (slice_index row p) (slice_index row q) ≤ pair_cost n table p q
    pair p q = grind (arith, nat_tests)

-- so few pairs of so small entries cost little
module _ (n : ℕ) (table : List ℕ) (few : n ≤ 80) (fits : list_all entry_fits table ≡ true) where
  small : (k : ℕ) → slice_index table k ≤ 999999
  small k = elim (cases_lt k (length table)) [ inl within ↦ leb-true _ _ (AllPass-from_list_all entry_fits table fits k 0 within) | inr past ↦ omega (arith, get_or_past table k 0 past) ]

  counted : (counts : ℕ → Bool) (p q : ℕ) → cond (counts q) (pair_cost n table p q) 0 ≤ 999999
  counted counts p q = let low = small (p * n + q) in grind (arith, low)

  pub row_bound : (counts : ℕ → Bool) (p : ℕ) → row_cost n table counts p ≤ 80 * 999999
  row_bound counts p = omega (arith, sum_by-le (λ q. cond (counts q) (pair_cost n table p q) 0) 999999 (range (p + 1) n) (λ k d within. counted counts p _), length-range_with_len (p + 1) (n - (p + 1)))

  pub all_pairs_bound : all_pairs n table ≤ 99999999999
  all_pairs_bound = omega (arith, sum_by-le (row_cost n table (λ b. true)) (80 * 999999) (range 0 n) (λ k d within. row_bound (λ b. true) _), length-range_with_len 0 (n - 0))

-- the cut of a sound table is a measure
pub cut_fair : (n : ℕ) (table : List ℕ) → Sound n table → MeasureLaws ◌+◌ nat_le n (λ row. capped (cut n table row)) (capped (all_pairs n table))
cut_fair n table s =
    let low = all_pairs_bound n table s.few.1 s.fits in
    record {
      few = s.few;
      symmetric = λ row r. ap capped (cut_complement n table row r);
      submodular = λ a b ra rb. le-leb _ _ (omega (arith, low, cut_submodular n table a ra b rb, cut_ceiling n table a, cut_ceiling n table b));
      ceiling = λ row r. le-leb _ _ (omega (arith, cut_ceiling n table row));
    }
