-- The size of the largest independent subset of some columns is the rank of their span. Assumes nothing.
use Rattle.std.specs.Prelude.{◌≡◌, ℕ, suc, ◌<◌, ◌≤◌, max, Bool, true, false, cond, not, ◌||◌, T, List, [], ◌∷◌, ◌++◌, map, length, ◌==◌, ◌≢◌, bit_xor, refl}
use Rattle.std.proofs.Common.{sym, ap, ◌∙◌, subst, inl, inr, zero-le, suc-le-suc, le_trans, arith, eqb→eq}
use Rattle.std.specs.Int.Bits.{xor_self, xor_zero_r}
use Rattle.std.specs.List.{list_all}
use Rattle.std.proofs.lemmas.Bool.{and_parts, and_from}
use Rattle.std.proofs.lemmas.Bool.Decides.{nat_tests}
use Rattle.std.proofs.lemmas.List.Folds.{list_all-append, list_all-map}
use Rattle.coder.specs.Rank.{side, subsets, added, independent, greatest, rank}
use Rattle.coder.specs.lemmas.Closure.{Within, rank_by, step, rank_grows, within_more}
use Rattle.coder.specs.lemmas.Words.{spans, span_laws, spans_more, spans_with, spans_cases, spans_at, xor_cancel}

-- a list of some of a list's elements, in their order
data Sub : List ℕ → List ℕ → Type 0 where
  none : Sub [] []
  skip : {c : ℕ} {s xs : List ℕ} → Sub s xs → Sub s (c ∷ xs)
  keep : {c : ℕ} {s xs : List ℕ} → Sub s xs → Sub (c ∷ s) (c ∷ xs)

sub_trans : {r s xs : List ℕ} → Sub r s → Sub s xs → Sub r xs
sub_trans r none = r
sub_trans r (skip h) = skip (sub_trans r h)
sub_trans (skip i) (keep h) = skip (sub_trans i h)
sub_trans (keep i) (keep h) = keep (sub_trans i h)

-- ---- a test or a number of every subset

all_at : (p : List ℕ → Bool) {s xs : List ℕ} → Sub s xs → list_all p (subsets xs) ≡ true → p s ≡ true
all_at p none h = (and_parts (p []) _ h).0
all_at p (skip {c = c} {xs = xs} i) h = all_at p i (and_parts _ _ (sym (list_all-append p (subsets xs) _) ∙ h)).0
all_at p (keep {c = c} {xs = xs} i) h =
    all_at (λ s. p (c ∷ s)) i (sym (list_all-map p (λ s. c ∷ s) (subsets xs)) ∙ (and_parts _ _ (sym (list_all-append p (subsets xs) _) ∙ h)).1)

all_subsets : (p : List ℕ → Bool) (xs : List ℕ) → ((s : List ℕ) → Sub s xs → p s ≡ true) → list_all p (subsets xs) ≡ true
all_subsets p [] h = and_from (p []) _ (h [] none) refl
all_subsets p (c ∷ xs) h =
    list_all-append p (subsets xs) _
    ∙ and_from _ _ (all_subsets p xs (λ s i. h s (skip i)))
    (list_all-map p (λ s. c ∷ s) (subsets xs) ∙ all_subsets (λ s. p (c ∷ s)) xs (λ s i. h (c ∷ s) (keep i)))

greatest_append : (f : List ℕ → ℕ) (xs ys : List (List ℕ)) → greatest f (xs ++ ys) ≡ max (greatest f xs) (greatest f ys)
greatest_append f [] ys = omega arith
greatest_append f (x ∷ xs) ys = omega (arith, greatest_append f xs ys)

greatest_map : (f : List ℕ → ℕ) (g : List ℕ → List ℕ) (xs : List (List ℕ)) → greatest f (map g xs) ≡ greatest (λ s. f (g s)) xs
greatest_map f g [] = refl
greatest_map f g (x ∷ xs) = rw (greatest_map f g xs)

greatest_at : (f : List ℕ → ℕ) {s xs : List ℕ} → Sub s xs → f s ≤ greatest f (subsets xs)
greatest_at f none = omega arith
greatest_at f (skip {c = c} {xs = xs} i) =
    omega (arith, greatest_at f i, greatest_append f (subsets xs) (map (λ s. c ∷ s) (subsets xs)))
greatest_at f (keep {c = c} {xs = xs} i) =
    omega (
      arith,
      greatest_at (λ s. f (c ∷ s)) i,
      greatest_append f (subsets xs) (map (λ s. c ∷ s) (subsets xs)),
      greatest_map f (λ s. c ∷ s) (subsets xs),
    )

greatest_below : (f : List ℕ → ℕ) (r : ℕ) (xs : List ℕ) → ((s : List ℕ) → Sub s xs → f s ≤ r) → greatest f (subsets xs) ≤ r
greatest_below f r [] h = omega (arith, h [] none)
greatest_below f r (c ∷ xs) h =
    omega (
      arith,
      greatest_below f r xs (λ s i. h s (skip i)),
      greatest_below (λ s. f (c ∷ s)) r xs (λ s i. h (c ∷ s) (keep i)),
      greatest_append f (subsets xs) (map (λ s. c ∷ s) (subsets xs)),
      greatest_map f (λ s. c ∷ s) (subsets xs),
    )

-- ---- independence

Apart : List ℕ → Type 0
Apart xs = (s : List ℕ) → Sub s xs → 0 < length s → added s ≢ 0

independent_apart : (xs : List ℕ) → independent xs ≡ true → Apart xs
unfolding Apart
independent_apart xs t s i p e =
    let h = all_at (λ s. (length s == 0) || not (added s == 0)) i t in
    grind (arith, nat_tests, h, p, e)

apart_independent : (xs : List ℕ) → Apart xs → independent xs ≡ true
unfolding Apart
apart_independent xs h = all_subsets (λ s. (length s == 0) || not (added s == 0)) xs (λ s i. go s (h s i))
  where
    go : (s : List ℕ) → (0 < length s → added s ≢ 0) → (length s == 0 || not (added s == 0)) ≡ true
    go [] h = refl
    go (x ∷ s) h = let n : added (x ∷ s) ≡ 0 → ⊥ = h (omega arith) in grind (arith, nat_tests, n)

-- ---- sums of columns, and what they span

sum_in : {s xs : List ℕ} → Sub s xs → T (spans xs (added s))
sum_in none = tt
sum_in (skip {c = c} {s = s} {xs = xs} i) = spans_more c xs (added s) (sum_in i)
sum_in (keep {c = c} {s = s} {xs = xs} i) =
    spans_with c xs (bit_xor c (added s))
    (spans_at xs (added s) (bit_xor c (bit_xor c (added s))) (sym (xor_cancel c (added s))) (sum_in i))

sum_of : (xs : List ℕ) (x : ℕ) → T (spans xs x) → (s : List ℕ) × Sub s xs × (added s ≡ x)
sum_of [] x t = ([], none, sym (eqb→eq x 0 t))
sum_of (c ∷ xs) x t =
    elim (spans_cases c xs x t) [
      | inl h ↦ let r = sum_of xs x h in (r.0, skip r.1, r.2)
      | inr h ↦ let r = sum_of xs (bit_xor c x) h in (c ∷ r.0, keep r.1, ap (bit_xor c) r.2 ∙ xor_cancel c x)
    ]

sub_within : {s xs : List ℕ} → Sub s xs → Within spans s xs
sub_within none = tt
sub_within (skip {c = c} {s = s} {xs = xs} i) = within_more spans span_laws c s xs (sub_within i)
sub_within (keep {c = c} {s = s} {xs = xs} i) = (span_laws.here c xs, within_more spans span_laws c s xs (sub_within i))

-- no independent subset is larger than the rank
upper : (s : List ℕ) → Apart s → length s ≤ rank_by spans s
unfolding Apart
upper [] h = zero-le
upper (c ∷ s) h = go (spans s c) refl (upper s (λ r i. h r (skip i)))
  where
    go : (b : Bool) → spans s c ≡ b → length s ≤ rank_by spans s → suc (length s) ≤ step b (rank_by spans s)
    go true e u =
        let r = sum_of s c (subst T (sym e) tt) in
        absurd (h (c ∷ r.0) (keep r.1) (suc-le-suc zero-le) (ap (bit_xor c) r.2 ∙ xor_self c))
    go false e u = suc-le-suc u

apart_with : (c : ℕ) (s xs : List ℕ) → Sub s xs → (T (spans xs c) → ⊥) → Apart s
    → (r : List ℕ) → Sub r (c ∷ s) → 0 < length r → added r ≢ 0
unfolding Apart
apart_with c s xs u n h r (skip i) p e = h r i p e
apart_with c s xs u n h r (keep {s = l} i) p e =
    n (spans_at xs (added l) c (sym (xor_cancel c (added l)) ∙ ap (bit_xor c) e ∙ xor_zero_r c) (sum_in (sub_trans i u)))

-- some independent subset is as large
reached : (xs : List ℕ) → (s : List ℕ) × Sub s xs × Apart s × (length s ≡ rank_by spans xs)
unfolding Apart
reached [] = ([], none, (λ r i p e. nothing i p), refl)
  where
    nothing : {r : List ℕ} → Sub r [] → 0 < length r → ⊥
    nothing none p = omega arith
reached (c ∷ xs) = go (spans xs c) refl (reached xs)
  where
    go : (b : Bool) → spans xs c ≡ b → ((s : List ℕ) × Sub s xs × Apart s × (length s ≡ rank_by spans xs))
        → (s : List ℕ) × Sub s (c ∷ xs) × Apart s × (length s ≡ step b (rank_by spans xs))
    go true e r = (r.0, skip r.1, r.2, r.3)
    go false e r = (c ∷ r.0, keep r.1, apart_with c r.0 xs r.1 (subst T e) r.2, ap suc r.3)

size : List ℕ → ℕ
size s = cond (independent s) (length s) 0

size_of : (s : List ℕ) → independent s ≡ true → size s ≡ length s
unfolding size
size_of s t = rw t

size_below : {s xs : List ℕ} → Sub s xs → size s ≤ rank_by spans xs
unfolding size
size_below {s} {xs} i = go (independent s) refl
  where
    go : (b : Bool) → independent s ≡ b → cond b (length s) 0 ≤ rank_by spans xs
    go true e = le_trans (upper s (independent_apart s e)) (rank_grows spans span_laws s xs (sub_within i))
    go false e = zero-le

pub rank_of_span : (columns row : List ℕ) → rank columns row ≡ rank_by spans (side columns row)
unfolding rank size
rank_of_span columns row =
    let xs = side columns row in
    let r = reached xs in
    omega (
      arith,
      greatest_below size (rank_by spans xs) xs (λ s i. size_below i),
      greatest_at size r.1,
      size_of r.0 (apart_independent r.0 r.2),
      r.3,
    )
