-- Connectivity by any rank is a fair measure, from three facts about the rank and a ceiling. Assumes nothing.
use Rattle.std.specs.Prelude.{◌≡◌, ℕ, zero, suc, ◌+◌, ◌<◌, ◌≤◌, List, replicate, nat_le, slice_index, slice_index_or, slice_set}
use Rattle.std.proofs.Common.{sym, ap, ◌∙◌, inl, inr, arith}
use Rattle.std.proofs.lemmas.List.{ext_get_or, get_or-set_same, get_or-set_other, get_or-replicate, length-replicate}
use Rattle.std.proofs.lemmas.Bool.{cases_eq, le-leb}
use Rattle.cost.specs.Amounts.{capped}
use Rattle.measure.specs.Laws.{MeasureLaws}
use Rattle.measure.specs.Rows.{Row, complement, either, both}
use Rattle.measure.proofs.Complements.{row_replicate, row_complement, row_marked, row_either, row_both, complement_complement, complement_either, complement_both, either_complement}
use Rattle.coder.specs.Connectivity.{whole, connectivity}

-- no parts have rank 0; one more part adds 0 or 1; either and both have at most the ranks of the two rows
pub record RankLaws (n : ℕ) (rank : List ℕ → ℕ) : Type 0 where
  pub none : rank (replicate n 0) ≡ 0
  pub more : (row : List ℕ) → Row n row → (p : ℕ) → p < n → (rank row ≤ rank (slice_set row p 1)) × (rank (slice_set row p 1) ≤ rank row + 1)
  pub submodular : (a b : List ℕ) → Row n a → Row n b → rank (either a b) + rank (both a b) ≤ rank a + rank b

-- the first k parts marked as well
abbrev filled : ℕ → List ℕ → List ℕ
filled zero row = row
filled (suc k) row = slice_set (filled k row) k 1

module _ (n : ℕ) (row : List ℕ) (r : Row n row) where
  row_filled : (k : ℕ) → k ≤ n → Row n (filled k row)
  row_filled zero h = r
  row_filled (suc k) h = row_marked n (filled k row) (row_filled k (omega arith)) k h

  filled_marks : (k p : ℕ) → k ≤ n → p < k → slice_index (filled k row) p ≡ 1
  filled_marks zero p h l = absurd (omega arith)
  filled_marks (suc k) p h l =
      let long = (row_filled k (omega arith)).long in
      elim (cases_eq p k) [
        | inl e ↦ let here : slice_index_or (slice_set (filled k row) k 1) k 0 ≡ 1 = get_or-set_same (filled k row) k 1 0 (omega arith) in rw e here
        | inr e ↦ get_or-set_other (filled k row) k p 1 0 e ∙ filled_marks k p (omega arith) (omega arith)
      ]

  filled_whole : filled n row ≡ whole n
  filled_whole =
      let long = (row_filled n (omega arith)).long in
      ext_get_or 0 (filled n row) (whole n) (long ∙ sym (length-replicate n 1))
      (λ k l.
      let below : k < n = omega arith in
      filled_marks n k (omega arith) below ∙ sym (get_or-replicate {A = ℕ} n k 1 0 below))

module _ (n : ℕ) (rank : List ℕ → ℕ) (laws : RankLaws n rank) where
  rank_filled : (row : List ℕ) → Row n row → (k : ℕ) → k ≤ n → (rank row ≤ rank (filled k row)) × (rank (filled k row) ≤ rank row + k)
  rank_filled row r zero h = (omega arith, omega arith)
  rank_filled row r (suc k) h =
      let so_far = rank_filled row r k (omega arith) in
      let one = laws.more (filled k row) (row_filled n row r k (omega arith)) k h in
      (omega (arith, so_far.0, one.0), omega (arith, so_far.1, one.1))

  pub rank_below_whole : (row : List ℕ) → Row n row → rank row ≤ rank (whole n)
  rank_below_whole row r = omega (arith, (rank_filled row r n (omega arith)).0, ap rank (filled_whole n row r))

  pub rank_below_count : (row : List ℕ) → Row n row → rank row ≤ n
  rank_below_count row r =
      let zeros = row_replicate n 0 (omega arith) in
      omega (
        arith,
        rank_below_whole row r,
        (rank_filled (replicate n 0) zeros n (omega arith)).1,
        ap rank (filled_whole n (replicate n 0) zeros),
        laws.none,
      )

  -- a side and the other parts together have at least the rank of all
  pub whole_covered : (row : List ℕ) → Row n row → rank (whole n) ≤ rank row + rank (complement row)
  whole_covered row r =
      omega (arith, laws.submodular row (complement row) r (row_complement n row r), ap rank (either_complement n row r))

  pub connectivity_below : (row : List ℕ) → Row n row → connectivity rank n row ≤ rank (whole n)
  connectivity_below row r = omega (arith, rank_below_whole row r, rank_below_whole (complement row) (row_complement n row r))

  connectivity_complement : (row : List ℕ) → Row n row → connectivity rank n (complement row) ≡ connectivity rank n row
  connectivity_complement row r = omega (arith, ap rank (complement_complement n row r))

  connectivity_submodular : (a b : List ℕ) → Row n a → Row n b
      → connectivity rank n (either a b) + connectivity rank n (both a b) ≤ connectivity rank n a + connectivity rank n b
  connectivity_submodular a b ra rb =
      omega (
        arith,
        laws.submodular a b ra rb,
        laws.submodular (complement a) (complement b) (row_complement n a ra) (row_complement n b rb),
        ap rank (complement_either n a ra b rb),
        ap rank (complement_both n a ra b rb),
        whole_covered a ra,
        whole_covered b rb,
        whole_covered (either a b) (row_either n a ra b rb),
        whole_covered (both a b) (row_both n a ra b rb),
      )

  pub connectivity_fair : (2 ≤ n) × (n ≤ 80) → (top : ℕ) → rank (whole n) ≤ top
      → MeasureLaws ◌+◌ nat_le n (λ row. capped (connectivity rank n row)) (capped top)
  connectivity_fair few top high =
      let small = λ (row : List ℕ) (r : Row n row). connectivity_below row r in
      let count = rank_below_count (whole n) (row_replicate n 1 (omega arith)) in
      record {
        few = few;
        symmetric = λ row r. ap capped (connectivity_complement row r);
        submodular = λ a b ra rb. le-leb _ _ (omega (arith, few, count, connectivity_submodular a b ra rb, small a ra, small b rb));
        ceiling = λ row r. le-leb _ _ (omega (arith, high, small row r));
      }
