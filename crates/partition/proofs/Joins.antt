-- What joining two groups does to the names. Assumes nothing.
use Rattle.std.proofs.Common.{◌≡◌, ℕ, suc, ◌+◌, ◌<◌, ◌≤◌, min, max, Bool, true, false, cond, not, ◌&&◌, ◌||◌, eqb, ◌≢◌, ◌⊎◌, List, [], ◌∷◌, length, get_or, filter, sym, refl, ap, ◌∙◌, subst, inl, inr, arith}
use lib.ListN.{get_or-map}
use Rattle.std.specs.List.{range_with_len}
use Rattle.std.proofs.lemmas.List.{get_or_past, length-map}
use Rattle.std.proofs.lemmas.Bool.{cases_eq, cases_lt, cond-false, cond-true, eq-eqb, ne_eqb}
use Rattle.std.proofs.lemmas.Bool.Decides.{nat_tests}
use Rattle.partition.specs.Joined.{joined, renamed}
use Rattle.partition.specs.Names.{Named, groups, members, stands}
use Rattle.partition.proofs.Counts.{kept_less}
use Rattle.partition.proofs.Names.{name_of_name, stands_below, stands_is}

pub renamed_high : (t u name : ℕ) → name ≡ max t u → renamed t u name ≡ min t u
renamed_high t u name h = cond-true _ _ _ (eq-eqb name (max t u) h)

pub renamed_other : (t u name : ℕ) → name ≢ max t u → renamed t u name ≡ name
renamed_other t u name h = cond-false _ _ _ (ne_eqb name (max t u) h)

-- what does not tell t from u does not tell a name from its new name
pub test_renamed : {Y : Type 0} (s : ℕ → Y) (t u name : ℕ) → s t ≡ s u → s (renamed t u name) ≡ s name
test_renamed s t u name h =
    elim (cases_eq name (max t u)) [
      | inl e ↦ ap s (renamed_high t u name e) ∙ ends (cases_lt t u) ∙ ap s (sym e)
      | inr e ↦ ap s (renamed_other t u name e)
    ]
  where
    ends : (t < u) ⊎ (u ≤ t) → s (min t u) ≡ s (max t u)
    ends (inl l) = let a : min t u ≡ t = omega arith in let b : max t u ≡ u = omega arith in ap s a ∙ h ∙ ap s (sym b)
    ends (inr l) = let a : min t u ≡ u = omega arith in let b : max t u ≡ t = omega arith in ap s a ∙ sym h ∙ ap s (sym b)

pub length_joined : (t u : ℕ) (names : List ℕ) → length (joined t u names) ≡ length names
length_joined t u names = length-map names (renamed t u)

pub getD_joined : (t u : ℕ) → t ≢ u → (names : List ℕ) (p : ℕ) → get_or (joined t u names) p 0 ≡ renamed t u (get_or names p 0)
getD_joined t u ne names p =
    subst (λ d. get_or (joined t u names) p d ≡ renamed t u (get_or names p 0)) (renamed_other t u 0 (λ e. ne (omega arith)))
    (get_or-map (renamed t u) names p 0)

-- the joined group has the parts of both
pub members_joined_low : (t u : ℕ) → t ≢ u → (names : List ℕ) → members (min t u) (joined t u names) ≡ members t names + members u names
members_joined_low t u ne [] = refl
members_joined_low t u ne (w ∷ ws) =
    elim (cases_lt t u) [
      | inl l ↦ grind (arith, nat_tests, members_joined_low t u ne ws)
      | inr l ↦ grind (arith, nat_tests, members_joined_low t u ne ws)
    ]

-- any other group has its own
pub members_joined_other : (t u v : ℕ) → v ≢ t → v ≢ u → (names : List ℕ) → members v (joined t u names) ≡ members v names
members_joined_other t u v nt nu [] = refl
members_joined_other t u v nt nu (w ∷ ws) =
    elim (cases_lt t u) [
      | inl l ↦ grind (arith, nat_tests, members_joined_other t u v nt nu ws)
      | inr l ↦ grind (arith, nat_tests, members_joined_other t u v nt nu ws)
    ]

-- the size of a part's group
pub members_joined : (t u : ℕ) → t ≢ u → (names : List ℕ) (p : ℕ) →
    members (get_or (joined t u names) p 0) (joined t u names)
    ≡ cond (eqb (get_or names p 0) t || eqb (get_or names p 0) u) (members t names + members u names) (members (get_or names p 0) names)
members_joined t u ne names p = ap (λ v. members v (joined t u names)) (getD_joined t u ne names p) ∙ go (get_or names p 0)
  where
    go : (name : ℕ) → members (renamed t u name) (joined t u names)
        ≡ cond (eqb name t || eqb name u) (members t names + members u names) (members name names)
    go name =
        elim (cases_eq name t) [
          | inl e ↦
              let low : renamed t u name ≡ min t u = grind (arith, nat_tests) in
              ap (λ v. members v (joined t u names)) low ∙ members_joined_low t u ne names ∙ sym (cond-true _ _ _ (ap (λ b. b || eqb name u) (eq-eqb name t e)))
          | inr nt ↦
              elim (cases_eq name u) [
                | inl e ↦
                    let low : renamed t u name ≡ min t u = grind (arith, nat_tests) in
                    let test : (eqb name t || eqb name u) ≡ true = grind (arith, nat_tests) in
                    ap (λ v. members v (joined t u names)) low ∙ members_joined_low t u ne names ∙ sym (cond-true _ _ _ test)
                | inr nu ↦
                    let same : renamed t u name ≡ name = renamed_other t u name (λ e. grind arith) in
                    let test : (eqb name t || eqb name u) ≡ false = grind (arith, nat_tests) in
                    ap (λ v. members v (joined t u names)) same ∙ members_joined_other t u name nt nu names ∙ sym (cond-false _ _ _ test)
              ]
        ]

module _ (names : List ℕ) (named : Named names) (t u : ℕ)
    (t_stands : stands names t ≡ true) (u_stands : stands names u ≡ true) (apart : t ≢ u) where
  high_is : get_or names (max t u) 0 ≡ max t u
  high_is =
      elim (cases_lt t u) [
        | inl l ↦ let e : max t u ≡ u = omega arith in ap (λ q. get_or names q 0) e ∙ stands_is names u u_stands ∙ sym e
        | inr l ↦ let e : max t u ≡ t = omega arith in ap (λ q. get_or names q 0) e ∙ stands_is names t t_stands ∙ sym e
      ]

  low_is : get_or names (min t u) 0 ≡ min t u
  low_is =
      elim (cases_lt t u) [
        | inl l ↦ let e : min t u ≡ t = omega arith in ap (λ q. get_or names q 0) e ∙ stands_is names t t_stands ∙ sym e
        | inr l ↦ let e : min t u ≡ u = omega arith in ap (λ q. get_or names q 0) e ∙ stands_is names u u_stands ∙ sym e
      ]

  -- every name but the higher still stands
  pub stands_joined : (p : ℕ) → stands (joined t u names) p ≡ (stands names p && not (eqb p (max t u)))
  stands_joined p = ap (λ w. eqb w p) (getD_joined t u apart names p) ∙ go (cases_eq (get_or names p 0) (max t u))
    where
      go : (get_or names p 0 ≡ max t u) ⊎ (get_or names p 0 ≡ max t u → ⊥) →
          eqb (renamed t u (get_or names p 0)) p ≡ (stands names p && not (eqb p (max t u)))
      go (inl e) =
          ap (λ w. eqb w p) (renamed_high t u _ e)
          ∙ ne_eqb (min t u) p (λ k. let i : get_or names p 0 ≡ min t u = ap (λ q. get_or names q 0) (sym k) ∙ low_is in apart (omega arith))
          ∙ sym (ap (λ w. eqb w p && not (eqb p (max t u))) e ∙ never (cases_eq p (max t u)))
        where
          never : (p ≡ max t u) ⊎ (p ≡ max t u → ⊥) → (eqb (max t u) p && not (eqb p (max t u))) ≡ false
          never (inl k) = let i = eq-eqb p (max t u) k in grind arith
          never (inr k) = let i = ne_eqb (max t u) p (λ j. k (sym j)) in grind arith
      go (inr e) = ap (λ w. eqb w p) (renamed_other t u _ e) ∙ kept (cases_eq p (max t u))
        where
          kept : (p ≡ max t u) ⊎ (p ≡ max t u → ⊥) → eqb (get_or names p 0) p ≡ (eqb (get_or names p 0) p && not (eqb p (max t u)))
          kept (inl k) = absurd (e (ap (λ q. get_or names q 0) k ∙ high_is))
          kept (inr k) = let i = ne_eqb p (max t u) k in grind arith

  pub joined_named : Named (joined t u names)
  joined_named = (λ p l. below p (omega (arith, length_joined t u names)), λ p _. again p)
    where
      below : (p : ℕ) → p < length names → get_or (joined t u names) p 0 ≤ p
      below p l =
          let e = getD_joined t u apart names p in
          let at_most = named.0 p l in
          elim (cases_eq (get_or names p 0) (max t u)) [
            | inl k ↦ omega (arith, renamed_high t u _ k)
            | inr k ↦ omega (arith, renamed_other t u _ k)
          ]

      again : (p : ℕ) → get_or (joined t u names) (get_or (joined t u names) p 0) 0 ≡ get_or (joined t u names) p 0
      again p =
          ap (λ q. get_or (joined t u names) q 0) (getD_joined t u apart names p)
          ∙ getD_joined t u apart names _
          ∙ go (cases_eq (get_or names p 0) (max t u))
          ∙ sym (getD_joined t u apart names p)
        where
          go : (get_or names p 0 ≡ max t u) ⊎ (get_or names p 0 ≡ max t u → ⊥) →
              renamed t u (get_or names (renamed t u (get_or names p 0)) 0) ≡ renamed t u (get_or names p 0)
          go (inl e) =
              let l = renamed_high t u _ e in
              ap (λ w. renamed t u (get_or names w 0)) l ∙ ap (renamed t u) low_is ∙ renamed_other t u (min t u) (λ k. apart (omega arith)) ∙ sym l
          go (inr e) = ap (λ w. renamed t u (get_or names w 0)) (renamed_other t u _ e) ∙ ap (renamed t u) (name_of_name names named p)

  some_parts : 0 < length names
  some_parts =
      elim (cases_lt 0 (length names)) [
        | inl l ↦ l
        | inr l ↦ absurd (apart (sym (past t t_stands l) ∙ past u u_stands l))
      ]
    where
      past : (p : ℕ) → stands names p ≡ true → length names ≤ 0 → 0 ≡ p
      past p h l = sym (get_or_past names p 0 (omega arith)) ∙ stands_is names p h

  -- one group fewer stands
  pub joined_groups : groups names ≡ suc (groups (joined t u names))
  joined_groups =
      subst (λ m. groups names ≡ suc (length (filter (stands (joined t u names)) (range_with_len 0 m)))) (sym (length_joined t u names))
      (kept_less (stands names) (stands (joined t u names)) (max t u)
      (eq-eqb _ _ high_is)
      (goes _ (stands names (max t u)) (eqb (max t u) (max t u)) (stands_joined (max t u)) (eq-eqb (max t u) (max t u) refl))
      (λ p k. stays _ _ (eqb p (max t u)) (stands_joined p) (ne_eqb p (max t u) k))
      0 (length names) (omega arith) (omega (arith, stands_below names t some_parts t_stands, stands_below names u some_parts u_stands)))
    where
      -- a: stands after the join; b: stands before; e: is the name that goes
      goes : (a b e : Bool) → a ≡ (b && not e) → e ≡ true → a ≡ false
      goes a b e h k = grind arith

      stays : (a b e : Bool) → a ≡ (b && not e) → e ≡ false → b ≡ a
      stays a b e h k = grind arith
