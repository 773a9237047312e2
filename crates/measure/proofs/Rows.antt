-- Which parts the complement of a row marks, and either and both of two rows. Assumes nothing.
use Rattle.std.proofs.Common.{◌≡◌, ℕ, zero, suc, ◌-◌, ◌<◌, min, max, not, ◌&&◌, ◌||◌, List, [], ◌∷◌, length, get_or, sym, refl, ap, ◌∙◌, arith}
use Rattle.std.proofs.lemmas.List.{get_or-map}
use Rattle.std.proofs.lemmas.Bool.Decides.{nat_tests}
use Rattle.measure.specs.Rows.{Row, marks, complement, merged, either, both}

pub length_merged : (f : ℕ → ℕ → ℕ) (a b : List ℕ) → length a ≡ length b → length (merged f a b) ≡ length a
length_merged f [] b e = refl
length_merged f (x ∷ a) [] e = absurd (omega arith)
length_merged f (x ∷ a) (y ∷ b) e = ap suc (length_merged f a b (omega arith))

pub getD_merged : (f : ℕ → ℕ → ℕ) (a b : List ℕ) (p : ℕ) → length a ≡ length b → p < length a → get_or (merged f a b) p 0 ≡ f (get_or a p 0) (get_or b p 0)
getD_merged f [] b p e within = absurd (omega arith)
getD_merged f (x ∷ a) [] p e within = absurd (omega arith)
getD_merged f (x ∷ a) (y ∷ b) zero e within = refl
getD_merged f (x ∷ a) (y ∷ b) (suc p) e within = getD_merged f a b p (omega arith) (omega arith)

module _ (n : ℕ) (a : List ℕ) (row_a : Row n a) (p : ℕ) (below : p < n) where
  pub marks_complement : marks (complement a) p ≡ not (marks a p)
  marks_complement =
      let at = get_or-map (λ x. 1 - x) a p 0 0 (omega (arith, row_a.long)) in
      let bit = row_a.bits p below in
      grind (arith, nat_tests, at, bit)

  module _ (b : List ℕ) (row_b : Row n b) where
    pub marks_either : marks (either a b) p ≡ (marks a p || marks b p)
    marks_either =
        let at = getD_merged max a b p (row_a.long ∙ sym row_b.long) (omega (arith, row_a.long)) in
        let bit_a = row_a.bits p below in
        let bit_b = row_b.bits p below in
        grind (arith, nat_tests, at, bit_a, bit_b)

    pub marks_both : marks (both a b) p ≡ (marks a p && marks b p)
    marks_both =
        let at = getD_merged min a b p (row_a.long ∙ sym row_b.long) (omega (arith, row_a.long)) in
        let bit_a = row_a.bits p below in
        let bit_b = row_b.bits p below in
        grind (arith, nat_tests, at, bit_a, bit_b)
