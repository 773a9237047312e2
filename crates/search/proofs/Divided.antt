-- A row divides no group exactly if it marks the parts of each group alike. Assumes nothing.
use Rattle.std.proofs.Common.{◌≡◌, ℕ, zero, suc, ◌+◌, ◌<◌, ◌≤◌, Bool, true, false, not, ◌&&◌, eqb, List, length, get_or, sym, refl, ap, ◌∙◌, inl, inr, arith}
use Rattle.std.specs.List.{range_with_len, list_any}
use Rattle.std.proofs.lemmas.Bool.{cases_eq, eq-eqb, eqb-true, and_cases, and_left, and_right, or_from, or_parts, both_ways, cases_Bool}
use Rattle.measure.specs.Rows.{marks}
use Rattle.search.specs.Certificate.{cuts_between, divides}

any_none : (f : ℕ → Bool) (a k : ℕ) → ((p : ℕ) → a ≤ p → p < a + k → f p ≡ false) → list_any f (range_with_len a k) ≡ false
any_none f a zero h = refl
any_none f a (suc k) h = or_from (f a) _ (h a (omega arith) (omega arith)) (any_none f (a + 1) k (λ p l m. h p (omega arith) (omega arith)))

none_any : (f : ℕ → Bool) (a k : ℕ) → list_any f (range_with_len a k) ≡ false → (p : ℕ) → a ≤ p → p < a + k → f p ≡ false
none_any f a zero h p l m = absurd (omega arith)
none_any f a (suc k) h p l m =
    let parts = or_parts (f a) _ h in
    elim (cases_eq p a) [ inl e ↦ ap f e ∙ parts.0 | inr e ↦ none_any f (a + 1) k parts.1 p (omega arith) (omega arith) ]

alike : (a b : Bool) → (a && not b) ≡ false → (b && not a) ≡ false → a ≡ b
alike true true h k = refl
alike true false h k = h
alike false true h k = sym k
alike false false h k = refl

not_between : (a b : Bool) → a ≡ b → (a && not b) ≡ false
not_between true true h = refl
not_between true false h = h
not_between false b h = refl

module _ (names row : List ℕ) where
  between : divides names row ≡ false → (p q : ℕ) → p < length names → q < length names → get_or names p 0 ≡ get_or names q 0 → (marks row p && not (marks row q)) ≡ false
  between whole p q hp hq e =
      let none = none_any (cuts_between names row p) 0 (length names) (none_any (λ x. list_any (cuts_between names row x) (range_with_len 0 (length names))) 0 (length names) whole p (omega arith) (omega arith)) q (omega arith) (omega arith) in
      elim (and_cases (eqb (get_or names p 0) (get_or names q 0)) _ none) [ inl no_group ↦ absurd (both_ways _ no_group (eq-eqb _ _ e)) | inr h ↦ h ]

  pub marks_alike : divides names row ≡ false → (p q : ℕ) → p < length names → q < length names → get_or names p 0 ≡ get_or names q 0 → marks row p ≡ marks row q
  marks_alike whole p q hp hq e = alike _ _ (between whole p q hp hq e) (between whole q p hq hp (sym e))

  pub divides_none : ((p q : ℕ) → p < length names → q < length names → get_or names p 0 ≡ get_or names q 0 → marks row p ≡ marks row q) → divides names row ≡ false
  divides_none same =
      any_none _ 0 (length names) (λ p _ hp. any_none (cuts_between names row p) 0 (length names) (λ q _ hq.
      elim (cases_Bool (eqb (get_or names p 0) (get_or names q 0))) [
        | inl e ↦ and_right _ _ (not_between _ _ (same p q (omega arith) (omega arith) (eqb-true _ _ e)))
        | inr e ↦ and_left _ _ e
      ]))
