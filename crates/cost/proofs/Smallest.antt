-- The earliest smallest item: what its number means. Assumes nothing.
use Rattle.std.proofs.Common.{◌≡◌, ℕ, zero, suc, ◌+◌, ◌-◌, ◌<◌, ◌≤◌, Bool, true, false, ◌⊎◌, List, [], ◌∷◌, length, get_or, drop, refl, ap, ◌∙◌, inl, inr, add-one, arith, below_more}
use Rattle.std.proofs.lemmas.Bool.{both_ways, cases_Bool, cond-true, cond-false}
use Rattle.cost.specs.Earliest.{earliest_from, earliest, Earliest}

-- the first item that is left, and what is left behind it
dropped_at : {A : Type 0} (items : List A) (i : ℕ) (d x : A) (rest : List A) → drop i items ≡ x ∷ rest → get_or items i d ≡ x
dropped_at [] zero d x rest e = let z = ap length e in absurd (omega arith)
dropped_at [] (suc i) d x rest e = let z = ap length e in absurd (omega arith)
dropped_at (y ∷ items) zero d x rest e = cc
dropped_at (y ∷ items) (suc i) d x rest e = dropped_at items i d x rest e

dropped_on : {A : Type 0} (items : List A) (i : ℕ) (x : A) (rest : List A) → drop i items ≡ x ∷ rest → drop (i + 1) items ≡ rest
dropped_on items i x rest e = rw add-one (go items i e)
  where
    go : (items : List _) (i : ℕ) → drop i items ≡ x ∷ rest → drop (suc i) items ≡ rest
    go [] zero e = let z = ap length e in absurd (omega arith)
    go [] (suc i) e = let z = ap length e in absurd (omega arith)
    go (y ∷ items) zero e = cc
    go (y ∷ items) (suc i) e = go items i e

module _ {A : Type 0} (le : A → A → Bool) where
  module _ (total : (a b : A) → (le a b ≡ true) ⊎ (le b a ≡ true)) (transitive : (a b c : A) → le a b ≡ true → le b c ≡ true → le a c ≡ true) where
    reflexive : (a : A) → le a a ≡ true
    reflexive a = elim (total a a) [ inl h ↦ h | inr h ↦ h ]

    other_way : (a b : A) → le a b ≡ false → le b a ≡ true
    other_way a b h = elim (total a b) [ inl k ↦ absurd (both_ways _ h k) | inr k ↦ k ]

    -- among the first i items, the one with this number is the earliest smallest
    record Leads (items : List A) (i number : ℕ) (smallest : A) : Type 0 where
      pub some : (1 ≤ number) × (number ≤ i)
      pub is : (d : A) → get_or items (number - 1) d ≡ smallest
      pub least : (k : ℕ) (d : A) → k < i → le smallest (get_or items k d) ≡ true
      pub first : (k : ℕ) (d : A) → k < number - 1 → le (get_or items k d) smallest ≡ false

    keeps : (items : List A) (i number : ℕ) (smallest x : A) → Leads items i number smallest → ((d : A) → get_or items i d ≡ x) → le smallest x ≡ true →
        Leads items (i + 1) number smallest
    keeps items i number smallest x leads at h = record {
      some = (leads.some.0, omega (arith, leads.some.1));
      is = leads.is;
      least = λ k d. below_more (λ k. le smallest (get_or items k d) ≡ true) i (λ k l. leads.least k d l) (ap (le smallest) (at d) ∙ h) k;
      first = leads.first;
    }

    takes : (items : List A) (i number : ℕ) (smallest x : A) → Leads items i number smallest → ((d : A) → get_or items i d ≡ x) → le smallest x ≡ false →
        Leads items (i + 1) (i + 1) x
    takes items i number smallest x leads at h = record {
      some = (omega arith, omega arith);
      is = λ d. ap (λ j. get_or items j d) back ∙ at d;
      least = λ k d. below_more (λ k. le x (get_or items k d) ≡ true) i (λ k l. transitive x smallest _ (other_way smallest x h) (leads.least k d l)) (ap (le x) (at d) ∙ reflexive x) k;
      first = λ k d l. later k d (omega arith);
    }
      where
        back : i + 1 - 1 ≡ i
        back = omega arith

        later : (k : ℕ) (d : A) → k < i → le (get_or items k d) x ≡ false
        later k d l =
            elim (cases_Bool (le (get_or items k d) x)) [
              | inl e ↦ absurd (both_ways _ h (transitive smallest (get_or items k d) x (leads.least k d l) e))
              | inr e ↦ e
            ]

    leads_all : (items rest : List A) (i number : ℕ) (smallest : A) → drop i items ≡ rest → i + length rest ≡ length items → Leads items i number smallest →
        (answer : ℕ) → answer ≡ earliest_from le i number smallest rest → Earliest le items answer
    leads_all items [] i number smallest e long leads answer is = record {
      none = λ z. absurd (omega (arith, leads.some.0, leads.some.1));
      some = λ z. (omega (arith, leads.some.0), omega (arith, leads.some.1));
      smallest = λ k d l. ap (λ y. le y (get_or items k d)) (at d) ∙ leads.least k d (omega arith);
      first = λ k d l. ap (le (get_or items k d)) (at d) ∙ leads.first k d (omega arith);
    }
      where
        at : (d : A) → get_or items (answer - 1) d ≡ smallest
        at d = ap (λ j. get_or items (j - 1) d) is ∙ leads.is d
    leads_all items (x ∷ rest) i number smallest e long leads answer is =
        elim (cases_Bool (le smallest x)) [
          | inl h ↦ leads_all items rest (i + 1) number smallest left (omega arith) (keeps items i number smallest x leads at h) answer (is ∙ cond-true _ _ _ h)
          | inr h ↦ leads_all items rest (i + 1) (i + 1) x left (omega arith) (takes items i number smallest x leads at h) answer (is ∙ cond-false _ _ _ h)
        ]
      where
        at : (d : A) → get_or items i d ≡ x
        at d = dropped_at items i d x rest e

        left : drop (i + 1) items ≡ rest
        left = dropped_on items i x rest e

    pub earliest_means : (items : List A) → Earliest le items (earliest le items)
    earliest_means [] = record { none = λ _. refl; some = λ z. absurd (omega arith); smallest = λ k d l. absurd (omega arith); first = λ k d l. absurd (omega arith) }
    earliest_means (x ∷ xs) =
        leads_all (x ∷ xs) xs 1 1 x refl (omega arith)
        (record { some = (omega arith, omega arith); is = λ d. refl; least = λ k d l. first_only k d l; first = λ k d l. absurd (omega arith) })
        (earliest le (x ∷ xs)) refl
      where
        first_only : (k : ℕ) (d : A) → k < 1 → le x (get_or (x ∷ xs) k d) ≡ true
        first_only zero d l = reflexive x
        first_only (suc k) d l = absurd (omega arith)
