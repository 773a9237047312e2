-- The order of a phase is an order in the sense of the pendant pair, and takes every standing name. Assumes nothing.
use Rattle.std.proofs.Common.{◌≡◌, ℕ, zero, suc, Bool, true, false, not, ◌&&◌, ◌||◌, eqb, List, [], ◌∷◌, length, get_or, sym, refl, ap, ◌∙◌, subst, subst₂, inl, inr, arith}
use Rattle.std.specs.List.{range_with_len}
use Rattle.std.specs.Cmp.{IsStrictWeakOrder}
use Rattle.std.proofs.lemmas.List.MinMax.{IsStrictWeakOrder-from_at_least}
use Rattle.std.proofs.lemmas.Bool.{eq-eqb, ne_eqb, eqb-false, or_right, cases_Bool, and_from, both_ways, or_parts, not-false}
use Rattle.cost.specs.Kind.{KindLaws}
use Rattle.measure.specs.Laws.{MeasureLaws}
use Rattle.partition.specs.Names.{stands, groups}
use Rattle.partition.proofs.Counts.{kept_less}
use Rattle.search.specs.Order.{beats, next, order}
use Rattle.search.specs.Phases.{whole_order}
use Rattle.search.specs.Rows.{marked_by, alone, added, left}
use Rattle.search.proofs.Bools.{free_is, is_free, taken_now, still_free}
use Rattle.search.proofs.Choice.{first_found}
use Rattle.search.proofs.Among.{among_kept, among_counting, none_among}
use Rattle.search.proofs.Marked.{taken, added_taken, alone_taken}
use Rattle.search.proofs.Names.{Grouped, standing_part, zero_stands, unordered_is, fair}
use Rattle.search.proofs.Pendant.{pendant}
use Rattle.search.proofs.Sets.{Set, Ordered, among}
use Rattle.search.proofs.Sums.{sums, differences}

first_stands : {X : Type 0} (plus : X → X → X) (le : X → X → Type 0) (stand : Set) (F : Set → X) (v : ℕ) (w : List ℕ) →
    Ordered plus le stand F v w → stand v ≡ true
first_stands plus le stand F v [] o = o
first_stands plus le stand F v (y ∷ w) o = o.0

-- whatever the row, the test `beats` ranks the names
pub beats_rank : {C X : Type 0} (amount : C → X) (plus : X → X → X) (le : X → X → Bool) (price : List ℕ → C) →
    KindLaws plus le → (names row : List ℕ) → IsStrictWeakOrder (beats amount plus le price names row)
beats_rank {X = X} amount plus le price laws names row =
    IsStrictWeakOrder-from_at_least (λ u v. le (sum u v) (sum v u))
    (λ u v h. elim (laws.order.total (sum u v) (sum v u)) [ inl k ↦ absurd (both_ways _ h k) | inr k ↦ k ])
    (λ u v w h k. differences (sums laws) _ _ _ _ _ _ h k)
  where
    sum : ℕ → ℕ → X
    sum u v = plus (amount (price (added names row u))) (amount (price (alone names v)))

module _ {n : ℕ} {names : List ℕ} (grouped : Grouped n names) where
  in_left : (ordered : List ℕ) (p : ℕ) → stands names p ≡ true → among ordered p ≡ false → among (left names (taken names ordered)) p ≡ true
  in_left ordered p h k =
      among_kept _ (range_with_len 0 (length names)) p
      ∙ and_from _ _ (unordered_is grouped ordered p ∙ is_free _ _ h k) (among_counting p 0 (length names) (omega arith) (omega (arith, standing_part grouped p h)))

  pub out_left : (ordered : List ℕ) (p : ℕ) → among (left names (taken names ordered)) p ≡ true → (stands names p ≡ true) × (among ordered p ≡ false)
  out_left ordered p h =
      free_is _ _ _ (ap (λ b. b && among (range_with_len 0 (length names)) p) (sym (unordered_is grouped ordered p)) ∙ sym (among_kept _ (range_with_len 0 (length names)) p) ∙ h)

  -- one more ordered, one fewer left
  pub fewer : (ordered : List ℕ) (m : ℕ) → stands names m ≡ true → among ordered m ≡ false →
      length (left names (taken names ordered)) ≡ suc (length (left names (taken names (m ∷ ordered))))
  fewer ordered m h k =
      kept_less _ _ m (unordered_is grouped ordered m ∙ is_free _ _ h k) (unordered_is grouped (m ∷ ordered) m ∙ taken_now _ _ (eqb m m) (eq-eqb m m refl))
      (λ p e. unordered_is grouped ordered p ∙ still_free _ _ (eqb p m) (ne_eqb p m e) ∙ sym (unordered_is grouped (m ∷ ordered) p))
      0 (length names) (omega arith) (omega (arith, standing_part grouped m h))

  -- one ordered: one fewer left than there are groups
  pub start : (m : ℕ) → stands names m ≡ true → groups names ≡ suc (length (left names (taken names (m ∷ []))))
  start m h =
      kept_less _ _ m h (unordered_is grouped (m ∷ []) m ∙ taken_now _ _ (eqb m m) (eq-eqb m m refl))
      (λ p e. alone_left (stands names p) (eqb p m) (ne_eqb p m e) ∙ sym (unordered_is grouped (m ∷ []) p))
      0 (length names) (omega arith) (omega (arith, standing_part grouped m h))
    where
      alone_left : (a e : Bool) → e ≡ false → a ≡ (a && not (e || false))
      alone_left a e k = grind arith

  pub all_taken : (ordered : List ℕ) → length (left names (taken names ordered)) ≡ 0 → (p : ℕ) → stands names p ≡ true → among ordered p ≡ true
  all_taken ordered h p k =
      elim (cases_Bool (among ordered p)) [
        | inl e ↦ e
        | inr e ↦ absurd (both_ways _ (none_among (left names (taken names ordered)) p h) (in_left ordered p k e))
      ]

  module _ {C X : Type 0} (amount : C → X) (plus : X → X → X) (le : X → X → Bool) (price : List ℕ → C) (laws : KindLaws plus le) where
    abbrev pub InOrder : ℕ → List ℕ → Type 0
    InOrder v w = Ordered plus (λ a b. le a b ≡ true) (stands names) (λ s. amount (price (marked_by s names))) v w

    abbrev pub following : List ℕ → ℕ
    following ordered = next amount plus le price names (taken names ordered)

    step : (v : ℕ) (w : List ℕ) (k : ℕ) → InOrder v w → length (left names (taken names (v ∷ w))) ≡ suc k →
        InOrder (following (v ∷ w)) (v ∷ w) × (length (left names (taken names (following (v ∷ w) ∷ v ∷ w))) ≡ k)
    step v w k o h =
        let m = following (v ∷ w) in
        let c = first_found (length names) _ (beats_rank amount plus le price laws names (taken names (v ∷ w))) (left names (taken names (v ∷ w))) some in
        let f = out_left (v ∷ w) m c.0 in
        let g = fewer (v ∷ w) m f.0 f.1 in
        ((f.0, f.1, (λ p i j. holds m p (c.1 p (in_left (v ∷ w) p i (or_parts (eqb p m) _ j).1))), o), omega arith)
      where
        some : ¬ (left names (taken names (v ∷ w)) ≡ [])
        some e = let z : length (left names (taken names (v ∷ w))) ≡ 0 = ap length e in omega arith

        holds : (m p : ℕ) → beats amount plus le price names (taken names (v ∷ w)) p m ≡ false →
            le (plus (amount (price (taken names (m ∷ v ∷ w)))) (amount (price (alone names p))))
            (plus (amount (price (taken names (p ∷ v ∷ w)))) (amount (price (alone names m)))) ≡ true
        holds m p e =
            subst₂ (λ a b. le (plus (amount (price a)) (amount (price (alone names p)))) (plus (amount (price b)) (amount (price (alone names m)))) ≡ true)
            (added_taken names (v ∷ w) m) (added_taken names (v ∷ w) p) (not-false _ e)

    pub record Arranged (ordered : List ℕ) : Type 0 where
      pub u : ℕ
      pub t : ℕ
      pub w : List ℕ
      pub ordered_is : ordered ≡ u ∷ t ∷ w
      pub in_order : InOrder u (t ∷ w)
      pub none_left : length (left names (taken names (u ∷ t ∷ w))) ≡ 0
      pub zero_before : among (t ∷ w) 0 ≡ true

    arranged : (k v y : ℕ) (w row : List ℕ) → row ≡ taken names (v ∷ y ∷ w) → InOrder v (y ∷ w) → length (left names (taken names (v ∷ y ∷ w))) ≡ k → among (y ∷ w) 0 ≡ true →
        Arranged (order amount plus le price k names row (v ∷ y ∷ w))
    arranged zero v y w row e o h z = record { u = v; t = y; w = w; ordered_is = refl; in_order = o; none_left = h; zero_before = z }
    arranged (suc k) v y w row e o h z =
        let s = step v (y ∷ w) k o h in
        let m = next amount plus le price names row in
        let same : following (v ∷ y ∷ w) ≡ m = ap (next amount plus le price names) (sym e) in
        arranged k m v (y ∷ w) (added names row m) (ap (λ r. added names r m) e ∙ added_taken names (v ∷ y ∷ w) m)
        (subst (λ x. InOrder x (v ∷ y ∷ w)) same s.0) (subst (λ x. length (left names (taken names (x ∷ v ∷ y ∷ w))) ≡ k) same s.1) (or_right (eqb 0 v) _ z)

    pub order_arranged : (k : ℕ) → groups names ≡ suc (suc k) → Arranged (order amount plus le price (suc k) names (alone names 0) (0 ∷ []))
    order_arranged k h =
        let z : stands names 0 ≡ true = zero_stands grouped in
        let f = start 0 z in
        let s = step 0 [] k z (omega arith) in
        let m = next amount plus le price names (alone names 0) in
        let same : following (0 ∷ []) ≡ m = ap (next amount plus le price names) (sym (alone_taken names 0)) in
        arranged k m 0 [] (added names (alone names 0) m) (ap (λ r. added names r m) (alone_taken names 0) ∙ added_taken names (0 ∷ []) m)
        (subst (λ x. InOrder x (0 ∷ [])) same s.0) (subst (λ x. length (left names (taken names (x ∷ 0 ∷ []))) ≡ k) same s.1) refl

    -- the last two stand and differ, and the last is not the first
    abbrev pub Ends : ℕ → ℕ → Type 0
    Ends t u = (stands names t ≡ true) × (stands names u ≡ true) × ¬ (t ≡ u) × ¬ (u ≡ 0)

    pub ends : (ordered : List ℕ) (arr : Arranged ordered) → Ends arr.t arr.u
    ends ordered arr =
        let o = arr.in_order in (
          first_stands plus (λ a b. le a b ≡ true) (stands names) (λ s. amount (price (marked_by s names))) arr.t arr.w o.3,
          o.0,
          (λ e. eqb-false arr.u arr.t (or_parts (eqb arr.u arr.t) _ o.1).0 (sym e)),
          (λ e. both_ways _ o.1 (ap (among (arr.t ∷ arr.w)) e ∙ arr.zero_before)),
        )

    pub order_ends : (k : ℕ) → groups names ≡ suc (suc k) →
        Ends (get_or (whole_order amount plus le price (suc k) names) 1 0) (get_or (whole_order amount plus le price (suc k) names) 0 0)
    order_ends k h =
        let arr = order_arranged k h in
        subst (λ ordered. Ends (get_or ordered 1 0) (get_or ordered 0 0)) (sym arr.ordered_is) (ends _ arr)

    module _ (top : X) (measure : MeasureLaws plus le n (λ row. amount (price row)) top) where
      -- every test that tells t from u costs at least what the group of u costs
      pub last_two : (u t : ℕ) (w : List ℕ) → InOrder u (t ∷ w) → length (left names (taken names (u ∷ t ∷ w))) ≡ 0 → (s : Set) → ¬ (s t ≡ s u) →
          le (amount (price (alone names u))) (amount (price (marked_by s names))) ≡ true
      last_two u t w o h s k = pendant (sums laws) (fair grouped amount plus le price top measure) u t w o (all_taken (u ∷ t ∷ w) h) s k
