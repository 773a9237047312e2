-- A part's name stands, and a standing name is a part. Assumes nothing.
use Rattle.std.proofs.Common.{◌≡◌, ℕ, ◌<◌, true, List, length, get_or, sym, ap, ◌∙◌, inl, inr, arith}
use Rattle.std.proofs.lemmas.List.FromFn.{length-range_with_len, get_or-range_with_len}
use Rattle.std.proofs.lemmas.List.{get_or_past}
use Rattle.std.proofs.lemmas.Bool.{cases_lt, eq-eqb, eqb-true}
use Rattle.partition.specs.Names.{Named, groups, singles, stands}
use Rattle.partition.proofs.Counts.{kept_all}

pub stands_is : (names : List ℕ) (p : ℕ) → stands names p ≡ true → get_or names p 0 ≡ p
stands_is names p h = eqb-true _ _ h

pub stands_below : (names : List ℕ) (p : ℕ) → 0 < length names → stands names p ≡ true → p < length names
stands_below names p some h =
    elim (cases_lt p (length names)) [
      | inl l ↦ l
      | inr l ↦ omega (arith, get_or_past names p 0 l, stands_is names p h)
    ]

module _ (names : List ℕ) (named : Named names) where
  pub first_name : get_or names 0 0 ≡ 0
  first_name =
      elim (cases_lt 0 (length names)) [
        | inl l ↦ omega (arith, named.0 0 l)
        | inr l ↦ get_or_past names 0 0 l
      ]

  pub name_of_name : (p : ℕ) → get_or names (get_or names p 0) 0 ≡ get_or names p 0
  name_of_name p =
      elim (cases_lt p (length names)) [
        | inl l ↦ named.1 p l
        | inr l ↦ let e = get_or_past names p 0 l in ap (λ q. get_or names q 0) e ∙ first_name ∙ sym e
      ]

  pub name_stands : (p : ℕ) → stands names (get_or names p 0) ≡ true
  name_stands p = eq-eqb _ _ (name_of_name p)

-- each part a group
pub single_name : (n p : ℕ) → p < n → get_or (singles n) p 0 ≡ p
single_name n p l = omega (arith, get_or-range_with_len 0 n p 0 l)

pub singles_named : (n : ℕ) → Named (singles n)
singles_named n =
    let long = length-range_with_len 0 n in (
      λ p l. omega (arith, single_name n p (omega arith)),
      λ p l. let e = single_name n p (omega arith) in ap (λ q. get_or (singles n) q 0) e,
    )

pub singles_groups : (n : ℕ) → groups (singles n) ≡ n
singles_groups n =
    kept_all (stands (singles n)) 0 (length (singles n)) (λ p _ l. eq-eqb _ _ (single_name n p (omega (arith, length-range_with_len 0 n))))
    ∙ length-range_with_len 0 n
