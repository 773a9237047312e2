-- What making every part of a group single does to the names. Assumes nothing.
use Rattle.std.proofs.Common.{◌≡◌, ℕ, zero, suc, ◌+◌, ◌<◌, ◌≤◌, true, cond, eqb, ◌≢◌, List, [], ◌∷◌, length, get_or, sym, refl, ap, ◌∙◌, inl, inr, arith}
use Rattle.std.proofs.lemmas.List.FromFn.{length-range_with_len}
use Rattle.std.proofs.lemmas.Bool.{cases_eq, cond-false, cond-true, eq-eqb, ne_eqb}
use Rattle.partition.specs.Names.{Named, groups, members, singles, stands}
use Rattle.partition.specs.Single.{single, single_from}
use Rattle.partition.proofs.Counts.{kept_most}
use Rattle.partition.proofs.Members.{members_agree, members_counting}
use Rattle.partition.proofs.Names.{single_name, stands_is}

length_single_from : (k g : ℕ) (names : List ℕ) → length (single_from k g names) ≡ length names
length_single_from k g [] = refl
length_single_from k g (w ∷ ws) = ap suc (length_single_from (suc k) g ws)

pub length_single : (g : ℕ) (names : List ℕ) → length (single g names) ≡ length names
length_single g names = length_single_from 0 g names

getD_single_from : (k g : ℕ) (names : List ℕ) (p : ℕ) → p < length names →
    get_or (single_from k g names) p 0 ≡ cond (eqb (get_or names p 0) g) (k + p) (get_or names p 0)
getD_single_from k g [] p l = absurd (omega arith)
getD_single_from k g (w ∷ ws) zero l = let e : k ≡ k + 0 = omega arith in ap (λ v. cond (eqb w g) v w) e
getD_single_from k g (w ∷ ws) (suc p) l =
    let e : suc k + p ≡ k + suc p = omega arith in
    getD_single_from (suc k) g ws p (omega arith) ∙ ap (λ v. cond (eqb (get_or ws p 0) g) v (get_or ws p 0)) e

pub getD_single : (g : ℕ) (names : List ℕ) (p : ℕ) → p < length names →
    get_or (single g names) p 0 ≡ cond (eqb (get_or names p 0) g) p (get_or names p 0)
getD_single g names p l =
    let e : 0 + p ≡ p = omega arith in
    getD_single_from 0 g names p l ∙ ap (λ v. cond (eqb (get_or names p 0) g) v (get_or names p 0)) e

-- a part of the group has its own name
pub single_own : (g : ℕ) (names : List ℕ) (p : ℕ) → p < length names → get_or names p 0 ≡ g → get_or (single g names) p 0 ≡ p
single_own g names p l e = getD_single g names p l ∙ cond-true _ _ _ (eq-eqb _ _ e)

-- any other part keeps its name
pub single_other : (g : ℕ) (names : List ℕ) (p : ℕ) → p < length names → get_or names p 0 ≢ g → get_or (single g names) p 0 ≡ get_or names p 0
single_other g names p l ne = getD_single g names p l ∙ cond-false _ _ _ (ne_eqb _ _ ne)

module _ (g : ℕ) (names : List ℕ) (named : Named names) where
  pub single_named : Named (single g names)
  single_named = (λ p l. below p (omega (arith, length_single g names)), λ p l. again p (omega (arith, length_single g names)))
    where
      below : (p : ℕ) → p < length names → get_or (single g names) p 0 ≤ p
      below p l =
          elim (cases_eq (get_or names p 0) g) [
            | inl e ↦ omega (arith, single_own g names p l e)
            | inr ne ↦ omega (arith, single_other g names p l ne, named.0 p l)
          ]

      again : (p : ℕ) → p < length names → get_or (single g names) (get_or (single g names) p 0) 0 ≡ get_or (single g names) p 0
      again p l =
          elim (cases_eq (get_or names p 0) g) [
            | inl e ↦ ap (λ q. get_or (single g names) q 0) (single_own g names p l e)
            | inr ne ↦
                let same = single_other g names p l ne in
                let m : get_or names p 0 < length names = omega (arith, named.0 p l) in
                ap (λ q. get_or (single g names) q 0) same
                ∙ single_other g names (get_or names p 0) m (λ e. ne (sym (named.1 p l) ∙ e))
                ∙ named.1 p l
                ∙ sym same
          ]

  -- every standing name still stands
  pub stands_single : (p : ℕ) → p < length names → stands names p ≡ true → stands (single g names) p ≡ true
  stands_single p l h =
      eq-eqb _ _
      (elim (cases_eq (get_or names p 0) g) [
        | inl e ↦ single_own g names p l e
        | inr ne ↦ single_other g names p l ne ∙ stands_is names p h
      ])

  pub single_groups : groups names ≤ groups (single g names)
  single_groups =
      let most = kept_most (stands names) (stands (single g names)) 0 (length names) (λ p _ l h. stands_single p (omega arith) h) in
      rw (length_single g names) most

  -- the size of a part's group
  pub members_single : (p : ℕ) → p < length names →
      members (get_or (single g names) p 0) (single g names) ≡ cond (eqb (get_or names p 0) g) 1 (members (get_or names p 0) names)
  members_single p l =
      elim (cases_eq (get_or names p 0) g) [
        | inl e ↦
            ap (λ v. members v (single g names)) (single_own g names p l e)
            ∙ members_agree p p (single g names) (singles (length names)) (length_single g names ∙ sym (length-range_with_len 0 (length names)))
            (λ q m. let k : q < length names = omega (arith, length_single g names) in
            ap (λ v. eqb v p) (getD_single g names q k) ∙ own e q k ∙ sym (ap (λ v. eqb v p) (single_name (length names) q k)))
            ∙ members_counting p 0 (length names) (omega arith) (omega arith)
            ∙ sym (cond-true _ _ _ (eq-eqb _ _ e))
        | inr ne ↦
            ap (λ v. members v (single g names)) (single_other g names p l ne)
            ∙ members_agree (get_or names p 0) (get_or names p 0) (single g names) names (length_single g names)
            (λ q m. let k : q < length names = omega (arith, length_single g names) in
            ap (λ v. eqb v (get_or names p 0)) (getD_single g names q k) ∙ other ne q k)
            ∙ sym (cond-false _ _ _ (ne_eqb _ _ ne))
      ]
    where
      -- a part of the group shares its new name with no part
      own : get_or names p 0 ≡ g → (q : ℕ) → q < length names → eqb (cond (eqb (get_or names q 0) g) q (get_or names q 0)) p ≡ eqb q p
      own e q m =
          elim (cases_eq (get_or names q 0) g) [
            | inl k ↦ ap (λ v. eqb v p) (cond-true _ _ _ (eq-eqb _ _ k))
            | inr k ↦
                ap (λ v. eqb v p) (cond-false _ _ _ (ne_eqb _ _ k))
                ∙ ne_eqb _ _ (λ i. k (sym (named.1 q m) ∙ ap (λ v. get_or names v 0) i ∙ e))
                ∙ sym (ne_eqb q p (λ i. k (ap (λ v. get_or names v 0) i ∙ e)))
          ]

      -- no part of the group gets another group's name
      other : get_or names p 0 ≢ g → (q : ℕ) → q < length names →
          eqb (cond (eqb (get_or names q 0) g) q (get_or names q 0)) (get_or names p 0) ≡ eqb (get_or names q 0) (get_or names p 0)
      other ne q m =
          elim (cases_eq (get_or names q 0) g) [
            | inl k ↦
                ap (λ v. eqb v (get_or names p 0)) (cond-true _ _ _ (eq-eqb _ _ k))
                ∙ ne_eqb q _ (λ i. ne (sym (named.1 p l) ∙ ap (λ v. get_or names v 0) (sym i) ∙ k))
                ∙ sym (ne_eqb _ _ (λ i. ne (sym i ∙ k)))
            | inr k ↦ ap (λ v. eqb v (get_or names p 0)) (cond-false _ _ _ (ne_eqb _ _ k))
          ]
