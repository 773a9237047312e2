-- The loop that looks for the next name of an order. Assumes nothing.
use Rattle.std.proofs.Common.{◌≡◌, ℕ, zero, suc, ◌+◌, ◌-◌, ◌<◌, ◌≤◌, Bool, true, false, cond, not, List, [], ◌∷◌, ◌++◌, map, length, get_or, take, filter, sym, refl, ap, ◌∙◌, subst, arith}
use Rattle.std.proofs.lemmas.List.{map-append, append-nil, take_more, take_all, get_or_default}
use Rattle.std.proofs.lemmas.List.Elements.{filter-append}
use Rattle.cost.specs.Kind.{KindLaws}
use Rattle.cost.specs.declared.line.Line.{Line}
use Rattle.measure.specs.Rows.{marks}
use Rattle.search.specs.Candidates.{others_below, candidate, candidates}
use Rattle.search.specs.Order.{beats, next}
use Rattle.search.specs.Rows.{added, alone, left}
use Rattle.search.proofs.Arranged.{beats_rank}
use Rattle.search.proofs.Candidates.{others_left, is_candidate}
use Rattle.search.proofs.Lead.{leader, leader_one, leader_takes, leader_keeps}

not_nil : {A : Type 0} (xs : List A) (y : A) → ¬ (xs ++ (y ∷ []) ≡ [])
not_nil [] y h = cc
not_nil (x ∷ xs) y h = cc

module _ {C : Type 0} (price : List ℕ → C) (names row : List ℕ) (cs : List (Line C)) where
  abbrev free : Line C → Bool
  free c = not (marks row c.u)

  -- the names that the row leaves, of the first j candidates
  abbrev pub upto : ℕ → List ℕ
  upto j = map (λ c. c.u) (filter free (take j cs))

  upto_more : (j : ℕ) (c : Line C) → j < length cs → c ≡ get_or cs j c → upto (j + 1) ≡ upto j ++ cond (free c) (c.u ∷ []) []
  upto_more j c l e =
      ap (λ ls. map (λ c. c.u) (filter free ls)) (take_more cs j c l ∙ ap (λ x. take j cs ++ (x ∷ [])) (sym e))
      ∙ ap (map (λ c. c.u)) (filter-append free (take j cs) (c ∷ []))
      ∙ map-append (λ c. c.u) (filter free (take j cs)) (filter free (c ∷ []))
      ∙ ap (λ ls. upto j ++ ls) (one (free c))
    where
      one : (b : Bool) → map (λ c. c.u) (cond b (c ∷ []) []) ≡ cond b (c.u ∷ []) []
      one true = refl
      one false = refl

  pub upto_passes : (j : ℕ) (c : Line C) → j < length cs → c ≡ get_or cs j c → free c ≡ false → upto (j + 1) ≡ upto j
  upto_passes j c l e h = upto_more j c l e ∙ ap (λ b. upto j ++ cond b (c.u ∷ []) []) h ∙ append-nil (upto j)

  pub upto_takes : (j : ℕ) (c : Line C) → j < length cs → c ≡ get_or cs j c → free c ≡ true → upto (j + 1) ≡ upto j ++ (c.u ∷ [])
  upto_takes j c l e h = upto_more j c l e ∙ ap (λ b. upto j ++ cond b (c.u ∷ []) []) h

  upto_stays : (i k : ℕ) → i + k ≤ length cs → ((m : ℕ) (d : Line C) → i ≤ m → m < i + k → free (get_or cs m d) ≡ false) → upto (i + k) ≡ upto i
  upto_stays i zero l h = let e : i + 0 ≡ i = omega arith in ap upto e
  upto_stays i (suc k) l h =
      let e : i + suc k ≡ i + k + 1 = omega arith in
      let d : Line C = record { t = 0; u = 0; cost = price names } in
      let c = get_or cs (i + k) d in
      ap upto e
      ∙ upto_passes (i + k) c (omega arith) (get_or_default cs (i + k) d c (omega arith)) (h (i + k) d (omega arith) (omega arith))
      ∙ upto_stays i k (omega arith) (λ m x low high. h m x low (omega arith))

  module _ (is : cs ≡ candidates price names) (some : 0 < length names) (marked : marks row 0 ≡ true) where
    -- what is left, of all candidates
    pub left_is : left names row ≡ upto (length cs)
    left_is =
        others_left names row some marked
        ∙ sym (ap (λ ls. map (λ c. c.u) (filter free ls)) (take_all (length cs) cs (omega arith) ∙ is) ∙ names_free (others_below (length names) names))
      where
        names_free : (xs : List ℕ) → map (λ c. c.u) (filter free (map (candidate price names) xs)) ≡ filter (λ u. not (marks row u)) xs
        names_free [] = refl
        names_free (x ∷ xs) = go _ (not (marks row x)) (names_free xs)
          where
            go : (ys : List (Line C)) (b : Bool) → map (λ c. c.u) ys ≡ filter (λ u. not (marks row u)) xs →
                map (λ c. c.u) (cond b (candidate price names x ∷ ys) ys) ≡ cond b (x ∷ filter (λ u. not (marks row u)) xs) (filter (λ u. not (marks row u)) xs)
            go ys true h = ap (λ zs. x ∷ zs) h
            go ys false h = h

    -- no candidate is left
    pub scan_none : ((k : ℕ) (d : Line C) → 0 ≤ k → k < length cs → free (get_or cs k d) ≡ false) → left names row ≡ []
    scan_none h =
        let e : length cs ≡ 0 + length cs = omega arith in
        left_is ∙ ap upto e ∙ upto_stays 0 (length cs) (omega arith) (λ k d low high. h k d low (omega arith))

  module _ {X : Type 0} (amount : C → X) (plus : X → X → X) (le : X → X → Bool) where
    abbrev wins : ℕ → ℕ → Bool
    wins = beats amount plus le price names row

    abbrev ahead : ℕ → ℕ
    ahead j = leader (length names) wins (upto j)

    -- of the first j candidates some are left, best leads them, and its cost with the ordered parts is known
    pub record Scan (j : ℕ) (best : Line C) (with' : C) : Type 0 where
      pub some_left : ¬ (upto j ≡ [])
      pub leads : best ≡ candidate price names (ahead j)
      pub cost : with' ≡ price (added names row best.u)

    module _ (laws : KindLaws plus le) (is : cs ≡ candidates price names) where
      -- of those after the first none is left
      pub scan_first : (first j : ℕ) (best : Line C) (with' : C) → first < j → j ≤ length cs → best ≡ get_or cs first best → free best ≡ true →
          ((k : ℕ) (d : Line C) → 0 ≤ k → k < first → free (get_or cs k d) ≡ false) → ((k : ℕ) (d : Line C) → first + 1 ≤ k → k < j → free (get_or cs k d) ≡ false) →
          with' ≡ price (added names row best.u) → Scan j best with'
      scan_first first j best with' l within e here past later cost = record {
        some_left = subst (λ us. ¬ (us ≡ [])) (sym one) (λ h. cc);
        leads = (is_candidate names price cs first best is (omega arith) e).0 ∙ ap (candidate price names) (sym (ap (leader (length names) wins) one ∙ leader_one (length names) wins (beats_rank amount plus le price laws names row) best.u));
        cost = cost;
      }
        where
          one : upto j ≡ best.u ∷ []
          one =
              let back : j ≡ first + 1 + (j - (first + 1)) = omega arith in
              ap upto back ∙ upto_stays (first + 1) (j - (first + 1)) (omega arith) (λ k d low high. later k d low (omega arith))
              ∙ upto_takes first best (omega arith) e here
              ∙ ap (λ us. us ++ (best.u ∷ [])) (ap upto (let e : first ≡ 0 + first = omega arith in e) ∙ upto_stays 0 first (omega arith) (λ k d low high. past k d low (omega arith)))

      pub scan_passes : (j : ℕ) (best : Line C) (with' : C) (c : Line C) → Scan j best with' → j < length cs → c ≡ get_or cs j c → free c ≡ false → Scan (j + 1) best with'
      scan_passes j best with' c s l e h = let same = sym (upto_passes j c l e h) in record {
        some_left = subst (λ us. ¬ (us ≡ [])) same s.some_left;
        leads = s.leads ∙ ap (λ us. candidate price names (leader (length names) wins us)) same;
        cost = s.cost;
      }

      -- what the comparison of costs says of the names
      scan_test : (j : ℕ) (best c : Line C) (with' with'' : C) → Scan j best with' → c ≡ candidate price names c.u → with'' ≡ price (added names row c.u) →
          (r : Bool) → r ≡ not (le (plus (amount with') (amount c.cost)) (plus (amount with'') (amount best.cost))) → wins c.u (ahead j) ≡ r
      scan_test j best c with' with'' s ec ew r er =
          let own : c.cost ≡ price (alone names c.u) = ap (λ x. x.cost) ec in
          let u : best.u ≡ ahead j = ap (λ x. x.u) s.leads in
          let own_best : best.cost ≡ price (alone names (ahead j)) = ap (λ x. x.cost) s.leads in
          let with_best = s.cost ∙ ap (λ x. price (added names row x)) u in
          cc

      pub scan_keeps : (j : ℕ) (best c : Line C) (with' with'' : C) → Scan j best with' → j < length cs → c ≡ get_or cs j c → free c ≡ true → with'' ≡ price (added names row c.u) →
          (r : Bool) → r ≡ not (le (plus (amount with') (amount c.cost)) (plus (amount with'') (amount best.cost))) → r ≡ false → Scan (j + 1) best with'
      scan_keeps j best c with' with'' s l e h ew r er no_win =
          let more = upto_takes j c l e h in
          let loses = scan_test j best c with' with'' s (is_candidate names price cs j c is l e).0 ew r er ∙ no_win in
          record {
            some_left = λ k. not_nil (upto j) c.u (sym more ∙ k);
            leads = s.leads ∙ ap (candidate price names) (sym (ap (leader (length names) wins) more ∙ leader_keeps (length names) wins (beats_rank amount plus le price laws names row) (upto j) c.u s.some_left loses));
            cost = s.cost;
          }

      pub scan_takes : (j : ℕ) (best c : Line C) (with' with'' : C) → Scan j best with' → j < length cs → c ≡ get_or cs j c → free c ≡ true → with'' ≡ price (added names row c.u) →
          (r : Bool) → r ≡ not (le (plus (amount with') (amount c.cost)) (plus (amount with'') (amount best.cost))) → r ≡ true → Scan (j + 1) c with''
      scan_takes j best c with' with'' s l e h ew r er win =
          let more = upto_takes j c l e h in
          let is_one = (is_candidate names price cs j c is l e).0 in
          let beats_best = scan_test j best c with' with'' s is_one ew r er ∙ win in
          record {
            some_left = λ k. not_nil (upto j) c.u (sym more ∙ k);
            leads = is_one ∙ ap (candidate price names) (sym (ap (leader (length names) wins) more ∙ leader_takes (length names) wins (beats_rank amount plus le price laws names row) (upto j) c.u s.some_left beats_best));
            cost = ew;
          }

      pub scan_all : 0 < length names → marks row 0 ≡ true → (j : ℕ) (best : Line C) (with' : C) → Scan j best with' → j ≡ length cs → (¬ (left names row ≡ [])) × (best ≡ candidate price names (next amount plus le price names row))
      scan_all some marked j best with' s e =
          let all : upto j ≡ left names row = ap upto e ∙ sym (left_is is some marked) in
          (subst (λ us. ¬ (us ≡ [])) all s.some_left, s.leads ∙ ap (λ us. candidate price names (leader (length names) wins us)) all)
