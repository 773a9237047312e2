-- The first of some names that none beats, by any test that ranks them. Assumes nothing.
use Rattle.std.proofs.Common.{◌≡◌, ℕ, Bool, true, false, cond, not, eqb, List, [], ◌∷◌, sym, refl, subst, inl, inr}
use Rattle.std.specs.Cmp.{IsStrictWeakOrder}
use Rattle.std.proofs.lemmas.Bool.{eq-eqb, eqb-true, cases_Bool, or_cases, or_left, or_right, and_parts, and_from, both_ways, not-true, not_from_false}
use Rattle.search.proofs.Sets.{among}
use Rattle.search.specs.Order.{unbeaten, first_unbeaten}

module _ (none : ℕ) (wins : ℕ → ℕ → Bool) where
  pub from_unbeaten : (vs : List ℕ) (u : ℕ) → unbeaten wins vs u ≡ true → (v : ℕ) → among vs v ≡ true → wins v u ≡ false
  from_unbeaten [] u h v k = absurd (both_ways _ refl k)
  from_unbeaten (x ∷ vs) u h v k =
      let parts = and_parts (not (wins x u)) (unbeaten wins vs u) h in
      elim (or_cases (eqb v x) (among vs v) k) [
        | inl e ↦ subst (λ y. wins y u ≡ false) (sym (eqb-true v x e)) (not-true _ parts.0)
        | inr e ↦ from_unbeaten vs u parts.1 v e
      ]

  pub to_unbeaten : (vs : List ℕ) (u : ℕ) → ((v : ℕ) → among vs v ≡ true → wins v u ≡ false) → unbeaten wins vs u ≡ true
  to_unbeaten [] u h = refl
  to_unbeaten (x ∷ vs) u h =
      and_from _ _ (not_from_false _ (h x (or_left (eqb x x) _ (eq-eqb x x refl)))) (to_unbeaten vs u (λ v k. h v (or_right (eqb v x) _ k)))

  abbrev Fits : List ℕ → List ℕ → ℕ → Type 0
  Fits all us b = (among us b ≡ true) × (unbeaten wins all b ≡ true)

  -- the first that none beats is found, if there is any
  found : (all us : List ℕ) (b : ℕ) → Fits all us b → Fits all us (first_unbeaten none wins all us)
  found all [] b h = absurd (both_ways _ refl h.0)
  found all (x ∷ us) b h = go (unbeaten wins all x) refl (λ k. found all us b (k, h.1))
    where
      go : (t : Bool) → unbeaten wins all x ≡ t → (among us b ≡ true → Fits all us (first_unbeaten none wins all us)) →
          Fits all (x ∷ us) (cond t x (first_unbeaten none wins all us))
      go true e ih = (or_left (eqb x x) _ (eq-eqb x x refl), e)
      go false e ih =
          elim (or_cases (eqb b x) (among us b) h.0) [
            | inl k ↦ absurd (both_ways _ e (subst (λ y. unbeaten wins all y ≡ true) (eqb-true b x k) h.1))
            | inr k ↦ (or_right (eqb _ x) _ (ih k).0, (ih k).1)
          ]

  module _ (order : IsStrictWeakOrder wins) where
    pub self : (a : ℕ) → wins a a ≡ false
    self a = elim (cases_Bool (wins a a)) [ inl h ↦ order.one_way a a h | inr h ↦ h ]

    Top : List ℕ → Type 0
    Top us = (b : ℕ) × (among us b ≡ true) × ((v : ℕ) → among us v ≡ true → wins v b ≡ false)

    -- some name is beaten by none
    top : (u : ℕ) (us : List ℕ) → Top (u ∷ us)
    unfolding Top
    top u [] = (u, or_left (eqb u u) _ (eq-eqb u u refl), alone)
      where
        alone : (v : ℕ) → among (u ∷ []) v ≡ true → wins v u ≡ false
        alone v k = elim (or_cases (eqb v u) false k) [ inl e ↦ subst (λ y. wins y u ≡ false) (sym (eqb-true v u e)) (self u) | inr e ↦ absurd (both_ways _ refl e) ]
    top u (x ∷ us) = go (top x us)
      where
        go : Top (x ∷ us) → Top (u ∷ x ∷ us)
        go (b, h, k) =
            elim (cases_Bool (wins u b)) [
              | inl l ↦ (
                u,
                or_left (eqb u u) _ (eq-eqb u u refl),
                λ v i. elim (or_cases (eqb v u) _ i) [
                  | inl e ↦ subst (λ y. wins y u ≡ false) (sym (eqb-true v u e)) (self u)
                  | inr e ↦ order.chain v b u (k v e) (order.one_way u b l)
                ],
              )
              | inr l ↦ (
                b,
                or_right (eqb b u) _ h,
                λ v i. elim (or_cases (eqb v u) _ i) [ inl e ↦ subst (λ y. wins y b ≡ false) (sym (eqb-true v u e)) l | inr e ↦ k v e ],
              )
            ]

    -- the first that none beats is one of the names, and none of them beats it
    pub first_found : (us : List ℕ) → ¬ (us ≡ []) →
        (among us (first_unbeaten none wins us us) ≡ true) × ((v : ℕ) → among us v ≡ true → wins v (first_unbeaten none wins us us) ≡ false)
    unfolding Top
    first_found [] h = absurd (h refl)
    first_found (u ∷ us) h =
        let (b, i, k) = top u us in
        let f = found (u ∷ us) (u ∷ us) b (i, to_unbeaten (u ∷ us) b k) in
        (f.0, from_unbeaten (u ∷ us) _ f.1)
