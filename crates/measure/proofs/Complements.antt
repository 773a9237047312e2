-- The complement of a row, either and both of two rows, and a row with one more mark are rows again; the complements of either and both. Assumes nothing.
use Rattle.std.proofs.Common.{◌≡◌, ℕ, ◌-◌, ◌<◌, ◌≤◌, min, max, List, length, get_or, set, replicate, sym, ◌∙◌, inl, inr, arith}
use Rattle.std.proofs.lemmas.List.{get_or-map, length-map, ext_get_or, get_or-set_same, get_or-set_other, length-set, get_or-replicate, length-replicate}
use Rattle.std.proofs.lemmas.Bool.{cases_eq}
use Rattle.measure.specs.Rows.{Row, complement, either, both}
use Rattle.measure.proofs.Rows.{length_merged, getD_merged}

pub getD_complement : (row : List ℕ) (p : ℕ) → p < length row → get_or (complement row) p 0 ≡ 1 - get_or row p 0
getD_complement row p within = get_or-map (λ x. 1 - x) row p 0 0 within

pub length_complement : (row : List ℕ) → length (complement row) ≡ length row
length_complement row = length-map row (λ x. 1 - x)

pub row_replicate : (n x : ℕ) → x ≤ 1 → Row n (replicate n x)
row_replicate n x h = record { long = length-replicate n x; bits = λ k l. omega (arith, get_or-replicate n k x 0 l) }

module _ (n : ℕ) (a : List ℕ) (row_a : Row n a) where
  pub row_complement : Row n (complement a)
  row_complement = record {
    long = length_complement a ∙ row_a.long;
    bits = λ k l. omega (arith, getD_complement a k (omega (arith, row_a.long)));
  }

  pub complement_complement : complement (complement a) ≡ a
  complement_complement =
      ext_get_or 0 (complement (complement a)) a (length_complement (complement a) ∙ length_complement a)
      (λ k l.
      let within : k < length a = omega (arith, length_complement (complement a), length_complement a) in
      omega (
        arith,
        getD_complement (complement a) k (omega (arith, length_complement a)),
        getD_complement a k within,
        row_a.bits k (omega (arith, row_a.long)),
      ))

  pub either_complement : either a (complement a) ≡ replicate n 1
  either_complement =
      let even = sym (length_complement a) in
      let long = length_merged max a (complement a) even in
      ext_get_or 0 (either a (complement a)) (replicate n 1) (long ∙ row_a.long ∙ sym (length-replicate n 1))
      (λ k l.
      let within : k < length a = omega (arith, long) in
      let below : k < n = omega (arith, row_a.long) in
      omega (
        arith,
        getD_merged max a (complement a) k even within,
        getD_complement a k within,
        row_a.bits k below,
        get_or-replicate {A = ℕ} n k 1 0 below,
      ))

  pub row_marked : (p : ℕ) → p < n → Row n (set a p 1)
  row_marked p below = record {
    long = length-set a p 1 ∙ row_a.long;
    bits = λ k l. elim (cases_eq k p) [
      | inl e ↦ let same : get_or (set a p 1) k 0 ≡ 1 = rw e (get_or-set_same a p 1 0 (omega (arith, row_a.long))) in omega arith
      | inr e ↦ omega (arith, get_or-set_other a p k 1 0 e, row_a.bits k l)
    ];
  }

  module _ (b : List ℕ) (row_b : Row n b) where
    even : length a ≡ length b
    even = row_a.long ∙ sym row_b.long

    pub row_either : Row n (either a b)
    row_either = record {
      long = length_merged max a b even ∙ row_a.long;
      bits = λ k l. omega (arith, getD_merged max a b k even (omega (arith, row_a.long)), row_a.bits k l, row_b.bits k l);
    }

    pub row_both : Row n (both a b)
    row_both = record {
      long = length_merged min a b even ∙ row_a.long;
      bits = λ k l. omega (arith, getD_merged min a b k even (omega (arith, row_a.long)), row_a.bits k l, row_b.bits k l);
    }

    pub complement_either : complement (either a b) ≡ both (complement a) (complement b)
    complement_either =
        let turned : length (complement a) ≡ length (complement b) = length_complement a ∙ even ∙ sym (length_complement b) in
        ext_get_or 0 (complement (either a b)) (both (complement a) (complement b))
        (length_complement (either a b) ∙ length_merged max a b even ∙ sym (length_merged min (complement a) (complement b) turned ∙ length_complement a))
        (λ k l.
        let within : k < length a = omega (arith, length_complement (either a b), length_merged max a b even) in
        omega (
          arith,
          getD_complement (either a b) k (omega (arith, length_merged max a b even)),
          getD_merged max a b k even within,
          getD_merged min (complement a) (complement b) k turned (omega (arith, length_complement a)),
          getD_complement a k within,
          getD_complement b k (omega (arith, even)),
        ))

    pub complement_both : complement (both a b) ≡ either (complement a) (complement b)
    complement_both =
        let turned : length (complement a) ≡ length (complement b) = length_complement a ∙ even ∙ sym (length_complement b) in
        ext_get_or 0 (complement (both a b)) (either (complement a) (complement b))
        (length_complement (both a b) ∙ length_merged min a b even ∙ sym (length_merged max (complement a) (complement b) turned ∙ length_complement a))
        (λ k l.
        let within : k < length a = omega (arith, length_complement (both a b), length_merged min a b even) in
        omega (
          arith,
          getD_complement (both a b) k (omega (arith, length_merged min a b even)),
          getD_merged min a b k even within,
          getD_merged max (complement a) (complement b) k turned (omega (arith, length_complement a)),
          getD_complement a k within,
          getD_complement b k (omega (arith, even)),
        ))
