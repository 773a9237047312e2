-- The first name that none beats, found name by name. Assumes nothing.
use Rattle.std.proofs.Common.{◌≡◌, ℕ, Bool, true, false, not, ◌&&◌, eqb, List, [], ◌∷◌, ◌++◌, sym, refl, ap, ◌∙◌, subst, inl, inr, arith}
use Rattle.std.specs.Cmp.{IsStrictWeakOrder}
use Rattle.std.proofs.lemmas.Bool.{cases_Bool, both_ways, cond-true, cond-false, and_from, or_left, or_right, or_cases, eq-eqb, eqb-true, not_from_false}
use Rattle.search.specs.Order.{unbeaten, first_unbeaten}
use Rattle.search.proofs.Choice.{self, first_found, to_unbeaten}
use Rattle.search.proofs.Sets.{among}

module _ (none : ℕ) (wins : ℕ → ℕ → Bool) where
  abbrev pub leader : List ℕ → ℕ
  leader us = first_unbeaten none wins us us

  unbeaten_push : (us : List ℕ) (x v : ℕ) → unbeaten wins (us ++ (x ∷ [])) v ≡ (unbeaten wins us v && not (wins x v))
  unbeaten_push [] x v = and_true (not (wins x v))
    where
      and_true : (a : Bool) → (a && true) ≡ a
      and_true a = grind arith
  unbeaten_push (u ∷ us) x v = ap (λ b. not (wins u v) && b) (unbeaten_push us x v) ∙ regroup (not (wins u v)) (unbeaten wins us v) (not (wins x v))
    where
      regroup : (a b c : Bool) → (a && (b && c)) ≡ ((a && b) && c)
      regroup a b c = grind arith

  -- where each of some names is beaten, the rest decides
  skip : (all us rest : List ℕ) → ((v : ℕ) → among us v ≡ true → unbeaten wins all v ≡ false) → first_unbeaten none wins all (us ++ rest) ≡ first_unbeaten none wins all rest
  skip all [] rest h = refl
  skip all (u ∷ us) rest h =
      cond-false _ _ _ (h u (or_left _ _ (eq-eqb u u refl))) ∙ skip all us rest (λ v k. h v (or_right _ _ k))

  -- the first that none of `all` beats is the first that none of `more` beats, where all others stay beaten
  keep : (all more us rest : List ℕ) → ((v : ℕ) → unbeaten wins all v ≡ false → unbeaten wins more v ≡ false) →
      among us (first_unbeaten none wins all us) ≡ true → unbeaten wins more (first_unbeaten none wins all us) ≡ true →
      first_unbeaten none wins more (us ++ rest) ≡ first_unbeaten none wins all us
  keep all more [] rest h i j = absurd (both_ways _ refl i)
  keep all more (u ∷ us) rest h i j =
      elim (cases_Bool (unbeaten wins all u)) [
        | inl e ↦
            let here : first_unbeaten none wins all (u ∷ us) ≡ u = cond-true _ _ _ e in
            cond-true _ _ _ (subst (λ x. unbeaten wins more x ≡ true) here j) ∙ sym here
        | inr e ↦
            let there : first_unbeaten none wins all (u ∷ us) ≡ first_unbeaten none wins all us = cond-false _ _ _ e in
            let held = subst (λ x. unbeaten wins more x ≡ true) there j in
            let within : among us (first_unbeaten none wins all us) ≡ true = elim (or_cases (eqb (first_unbeaten none wins all us) u) _ (subst (λ x. among (u ∷ us) x ≡ true) there i)) [
              | inl k ↦ absurd (both_ways _ (h u e) (subst (λ x. unbeaten wins more x ≡ true) (eqb-true _ u k) held))
              | inr k ↦ k
            ] in
            cond-false _ _ _ (h u e) ∙ keep all more us rest h within held ∙ sym there
      ]

  module _ (order : IsStrictWeakOrder wins) where
    pub leader_one : (x : ℕ) → leader (x ∷ []) ≡ x
    leader_one x = cond-true _ _ _ (and_from _ _ (not_from_false _ (self none wins order x)) refl)

    pub leader_takes : (us : List ℕ) (x : ℕ) → ¬ (us ≡ []) → wins x (leader us) ≡ true → leader (us ++ (x ∷ [])) ≡ x
    leader_takes us x some w =
        let b = leader us in
        let f = first_found none wins order us some in
        let beats : (v : ℕ) → among us v ≡ true → wins x v ≡ true = λ v k. elim (cases_Bool (wins x v)) [ inl e ↦ e | inr e ↦ absurd (both_ways _ (order.chain x v b e (f.1 v k)) w) ] in
        let free : unbeaten wins us x ≡ true = to_unbeaten none wins us x (λ v k. order.chain v b x (f.1 v k) (order.one_way x b w)) in
        skip (us ++ (x ∷ [])) us (x ∷ []) (λ v k. unbeaten_push us x v ∙ ap (λ c. unbeaten wins us v && not c) (beats v k) ∙ and_false (unbeaten wins us v))
        ∙ cond-true _ _ _ (unbeaten_push us x x ∙ and_from _ _ free (not_from_false _ (self none wins order x)))
      where
        and_false : (a : Bool) → (a && false) ≡ false
        and_false a = grind arith

    pub leader_keeps : (us : List ℕ) (x : ℕ) → ¬ (us ≡ []) → wins x (leader us) ≡ false → leader (us ++ (x ∷ [])) ≡ leader us
    leader_keeps us x some w =
        let f = first_found none wins order us some in
        keep us (us ++ (x ∷ [])) us (x ∷ []) (λ v k. unbeaten_push us x v ∙ ap (λ c. c && not (wins x v)) k) f.0
        (unbeaten_push us x (leader us) ∙ and_from _ _ (to_unbeaten none wins us (leader us) f.1) (not_from_false _ w))
