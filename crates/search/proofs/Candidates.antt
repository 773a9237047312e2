-- The candidates of a phase, and the loop that writes them. Assumes nothing.
use Rattle.std.proofs.Common.{◌≡◌, ℕ, zero, suc, ◌+◌, ◌-◌, ◌<◌, ◌≤◌, Bool, true, false, cond, not, ◌&&◌, List, [], ◌∷◌, ◌++◌, map, length, get_or, take, set, filter, sym, refl, ap, ◌∙◌, ap₂, inl, inr, arith}
use lib.ListN.{length-map}
use Rattle.std.specs.List.{range_with_len}
use Rattle.std.proofs.lemmas.List.{append-nil, length-append, map-append, take_all, take_more_set}
use Rattle.std.proofs.lemmas.Bool.{and_parts, cond-true, cond-false, cases_lt, eq-eqb, or_left, or_right}
use Rattle.cost.specs.declared.line.Line.{Line}
use Rattle.measure.specs.Rows.{marks}
use Rattle.partition.specs.Names.{stands, groups}
use Rattle.partition.proofs.Counts.{length_cell}
use Rattle.search.specs.Candidates.{others_below, candidate, candidates}
use Rattle.search.specs.Rows.{left, unordered}
use Rattle.search.proofs.Among.{among_kept, counting_among}
use Rattle.search.proofs.Sets.{among}

-- one more number passes or not
kept_more : (q : ℕ → Bool) (a k : ℕ) → filter q (range_with_len a (suc k)) ≡ filter q (range_with_len a k) ++ cond (q (a + k)) ((a + k) ∷ []) []
kept_more q a zero = let e : a ≡ a + 0 = omega arith in ap (λ x. cond (q x) (x ∷ []) []) e
kept_more q a (suc k) = go _ _ _ (q a) (let e : a + 1 + k ≡ a + suc k = omega arith in kept_more q (a + 1) k ∙ ap (λ x. filter q (range_with_len (a + 1) k) ++ cond (q x) (x ∷ []) []) e)
  where
    go : (xs ys zs : List ℕ) (b : Bool) → xs ≡ ys ++ zs → cond b (a ∷ xs) xs ≡ cond b (a ∷ ys) ys ++ zs
    go xs ys zs true h = ap (λ xs. a ∷ xs) h
    go xs ys zs false h = h

module _ (names : List ℕ) where
  others_more : (p : ℕ) → 1 ≤ p → others_below (p + 1) names ≡ others_below p names ++ cond (stands names p) (p ∷ []) []
  others_more p low =
      let e : p + 1 - 1 ≡ suc (p - 1) = omega arith in
      let f : 1 + (p - 1) ≡ p = omega arith in
      ap (λ k. filter (stands names) (range_with_len 1 k)) e ∙ kept_more (stands names) 1 (p - 1)
      ∙ ap (λ x. others_below p names ++ cond (stands names x) (x ∷ []) []) f

  pub others_passes : (p : ℕ) → 1 ≤ p → stands names p ≡ false → others_below (p + 1) names ≡ others_below p names
  others_passes p low lacks = others_more p low ∙ ap (λ b. others_below p names ++ cond b (p ∷ []) []) lacks ∙ append-nil (others_below p names)

  pub others_takes : (p : ℕ) → 1 ≤ p → stands names p ≡ true → others_below (p + 1) names ≡ others_below p names ++ (p ∷ [])
  others_takes p low holds = others_more p low ∙ ap (λ b. others_below p names ++ cond b (p ∷ []) []) holds

  others_rise : (p k : ℕ) → 1 ≤ p → length (others_below p names) ≤ length (others_below (p + k) names)
  others_rise p zero low = let e : p + 0 ≡ p = omega arith in omega (arith, ap (λ m. length (others_below m names)) e)
  others_rise p (suc k) low =
      let e : p + suc k ≡ p + k + 1 = omega arith in
      omega (
        arith,
        ap (λ m. length (others_below m names)) e,
        ap length (others_more (p + k) (omega arith)),
        length-append (others_below (p + k) names) (cond (stands names (p + k)) ((p + k) ∷ []) []),
        others_rise p k low,
      )

  -- there is a place for each
  pub others_room : (p : ℕ) → 1 ≤ p → p < length names → stands names p ≡ true → length (others_below p names) < length (others_below (length names) names)
  others_room p low l holds =
      let e : p + 1 + (length names - (p + 1)) ≡ length names = omega arith in
      omega (
        arith,
        ap (λ m. length (others_below m names)) e,
        ap length (others_takes p low holds),
        length-append (others_below p names) (p ∷ []),
        others_rise (p + 1) (length names - (p + 1)) (omega arith),
      )

  -- they are fewer than the parts
  others_few : 0 < length (others_below (length names) names) → 1 < length names
  others_few h = elim (cases_lt 1 (length names)) [ inl l ↦ l | inr l ↦ let e : length names - 1 ≡ 0 = omega arith in absurd (omega (arith, ap (λ k. length (filter (stands names) (range_with_len 1 k))) e)) ]

  -- there is one group more
  pub others_all : 0 < length names → stands names 0 ≡ true → groups names ≡ length (others_below (length names) names) + 1
  others_all some first =
      let back : length names ≡ suc (length names - 1) = omega arith in
      let one = ap (λ k. length (filter (stands names) (range_with_len 0 k))) back in
      let cell = length_cell (stands names 0) 0 (others_below (length names) names) in
      omega (arith, one, cell, ap (λ b. cond {A = ℕ} b 1 0) first)

  -- a row that marks part 0 leaves the other names that it does not mark
  pub others_left : (row : List ℕ) → 0 < length names → marks row 0 ≡ true → left names row ≡ filter (λ u. not (marks row u)) (others_below (length names) names)
  others_left row some marked =
      let back : length names ≡ suc (length names - 1) = omega arith in
      ap (λ k. filter (unordered names row) (range_with_len 0 k)) back
      ∙ cond-false _ _ _ (ordered (stands names 0) (marks row 0) marked)
      ∙ both (range_with_len 1 (length names - 1))
    where
      ordered : (a b : Bool) → b ≡ true → (a && not b) ≡ false
      ordered a b h = grind arith

      both : (xs : List ℕ) → filter (unordered names row) xs ≡ filter (λ u. not (marks row u)) (filter (stands names) xs)
      both [] = refl
      both (x ∷ xs) = go _ _ (stands names x) (not (marks row x)) refl (both xs)
        where
          go : (ys zs : List ℕ) (a b : Bool) → not (marks row x) ≡ b → ys ≡ filter (λ u. not (marks row u)) zs →
              cond (a && b) (x ∷ ys) ys ≡ filter (λ u. not (marks row u)) (cond a (x ∷ zs) zs)
          go ys zs true true e h = ap (λ l. x ∷ l) h ∙ sym (cond-true _ _ _ e)
          go ys zs true false e h = h ∙ sym (cond-false _ _ _ e)
          go ys zs false b e h = h

  module _ {C : Type 0} (price : List ℕ → C) where
    -- the candidate of a place, from its name
    candidate_at : (xs : List ℕ) (k : ℕ) (c : Line C) → k < length xs → c ≡ get_or (map (candidate price names) xs) k c →
        (c ≡ candidate price names c.u) × (among xs c.u ≡ true)
    candidate_at [] k c l e = absurd (omega arith)
    candidate_at (x ∷ xs) zero c l e = let u : c.u ≡ x = ap (λ l. l.u) e in (e ∙ ap (candidate price names) (sym u), or_left _ _ (eq-eqb _ _ u))
    candidate_at (x ∷ xs) (suc k) c l e = let at = candidate_at xs k c (omega arith) e in (at.0, or_right _ _ at.1)

    pub is_candidate : (cs : List (Line C)) (k : ℕ) (c : Line C) → cs ≡ candidates price names → k < length cs → c ≡ get_or cs k c →
        (c ≡ candidate price names c.u) × (c.u < length names)
    is_candidate cs k c is l e =
        let at = candidate_at (others_below (length names) names) k c (omega (arith, ap length is, length-map (others_below (length names) names) (candidate price names))) (e ∙ ap (λ ls. get_or ls k c) is) in
        let some = ap length is ∙ length-map (others_below (length names) names) (candidate price names) in
        (at.0, omega (arith, others_few, some, counting_among c.u 1 (length names - 1) (and_parts _ _ (sym (among_kept (stands names) (range_with_len 1 (length names - 1)) c.u) ∙ at.1)).1))

    -- where two groups stand, there is a candidate
    pub some_candidate : (cs : List (Line C)) → cs ≡ candidates price names → 0 < length names → stands names 0 ≡ true → 2 ≤ groups names → 0 < length cs
    some_candidate cs is some first two = omega (arith, ap length is, length-map (others_below (length names) names) (candidate price names), others_all some first)

    -- the names below p are written in front
    pub record Written (p at : ℕ) (lines : List (Line C)) : Type 0 where
      pub at_is : at ≡ length (others_below p names)
      pub front : take at lines ≡ map (candidate price names) (others_below p names)

    pub written_passes : (p at : ℕ) (lines : List (Line C)) → Written p at lines → 1 ≤ p → stands names p ≡ false → Written (p + 1) at lines
    written_passes p at lines w low lacks = let e = others_passes p low lacks in record {
      at_is = w.at_is ∙ ap length (sym e);
      front = w.front ∙ ap (map (candidate price names)) (sym e);
    }

    pub written_takes : (p at : ℕ) (lines : List (Line C)) (line : Line C) → Written p at lines → 1 ≤ p → stands names p ≡ true → at < length lines → line ≡ candidate price names p →
        Written (p + 1) (at + 1) (set lines at line)
    written_takes p at lines line w low holds room is = let e = others_takes p low holds in record {
      at_is = omega (arith, w.at_is, ap length e, length-append (others_below p names) (p ∷ []));
      front =
          take_more_set lines at line room ∙ ap₂ (λ ls l. ls ++ (l ∷ [])) w.front is
          ∙ sym (map-append (candidate price names) (others_below p names) (p ∷ []))
          ∙ ap (map (candidate price names)) (sym e);
    }

    pub written_all : (p at : ℕ) (lines : List (Line C)) → Written p at lines → p ≡ length names → length lines ≡ length (others_below (length names) names) →
        lines ≡ candidates price names
    written_all p at lines w e long =
        let all = ap (λ m. others_below m names) e in
        sym (take_all at lines (omega (arith, w.at_is, ap length all))) ∙ w.front ∙ ap (map (candidate price names)) all
