-- The last two names of an order are a pendant pair. Assumes nothing.
use Rattle.std.proofs.Common.{◌≡◌, ℕ, Bool, true, false, not, ◌&&◌, ◌||◌, eqb, List, [], ◌∷◌, refl, ap, ◌∙◌, subst, subst₂, inl, inr}
use mathlib.Core.Path.{subst₃}
use Rattle.std.proofs.lemmas.Bool.{eqb-true}
use Rattle.search.proofs.Sets.{Set, Fair, Ordered, among, one}
use Rattle.search.proofs.Sums.{Sums, cancels, halves, reflexive}
use Rattle.search.proofs.Bools.{none_left, none_in, wider, inner, twice_left, left_with, back, back_in, or_right, drop_held, drop_lacked, and_false, again, all_but_last, other_side, this_side, two_ways}

pub eqb_is : (m n : ℕ) → eqb m n ≡ true → m ≡ n
eqb_is m n h = eqb-true m n h

-- a name outside a set is nowhere in it
pub apart : (s : Set) (u p : ℕ) → s u ≡ false → (s p && eqb p u) ≡ false
apart s u p h = go (eqb p u) refl
  where
    go : (b : Bool) → eqb p u ≡ b → (s p && b) ≡ false
    go true e = rw (eqb_is p u e) (rw h)
    go false e = and_false (s p)

module _ {X : Type 0} {plus : X → X → X} {le : X → X → Type 0} (laws : Sums plus le)
    {stand : Set} {F : Set → X} (fair : Fair plus le stand F) where
  like : (s t : Set) → ((p : ℕ) → s p ≡ t p) → F s ≡ F t
  like s t h = fair.reads s t (λ p _. h p)

  -- the two sets' costs, with the sets named by what they are equal to
  curb : (s t either both : Set) → ((p : ℕ) → (s p || t p) ≡ either p) → ((p : ℕ) → (s p && t p) ≡ both p) →
      le (plus (F either) (F both)) (plus (F s) (F t))
  curb s t either both h k =
      subst₂ (λ a b. le (plus a b) (plus (F s) (F t))) (like _ either h) (like _ both k) (fair.curbs s t)

  -- one more name v after s; x holds the last name of s, and `ih` is of what x leaves of s
  taken : (s : Set) (v u : ℕ) → s v ≡ false → s u ≡ false → (x : Set) → ((p : ℕ) → (x p && s p) ≡ x p) →
      le (plus (F s) (F (one v))) (plus (F (λ p. s p && not (s p && not (x p)))) (F (λ p. (s p && not (x p)) || one v p))) →
      le (plus (F (λ p. eqb p v || s p)) (F (one u))) (plus (F (λ p. eqb p u || s p)) (F (one v))) →
      le (plus (F (λ p. eqb p v || s p)) (F (one u))) (plus (F (λ p. (eqb p v || s p) && not (x p))) (F (λ p. x p || one u p)))
  taken s v u sv su x within ih choice =
      laws.transitive _ _ _ choice (subst (le _) (laws.commutative _ _) (cancels laws (F x) (F s) cross before))
    where
      cross : le (plus (F (λ p. eqb p u || s p)) (F x)) (plus (F (λ p. x p || one u p)) (F s))
      cross = curb _ s _ x (λ p. wider (x p) (s p) (eqb p u) (within p)) (λ p. inner (x p) (s p) (eqb p u) (within p) (apart s u p su))

      before : le (plus (F s) (F (one v))) (plus (F x) (F (λ p. (eqb p v || s p) && not (x p))))
      before =
          subst₂ (λ a b. le (plus (F s) (F (one v))) (plus a b))
          (like _ x (λ p. twice_left (x p) (s p) (within p)))
          (like _ _ (λ p. left_with (x p) (s p) (eqb p v) (within p) (apart s v p sv))) ih

  -- x lacks the last name of s
  passed : (s : Set) (v u : ℕ) → s v ≡ false → (x : Set) → ((p : ℕ) → (x p && s p) ≡ x p) →
      le (plus (F s) (F (one u))) (plus (F (λ p. s p && not (x p))) (F (λ p. x p || one u p))) →
      le (plus (F (λ p. eqb p v || s p)) (F (one u))) (plus (F (λ p. (eqb p v || s p) && not (x p))) (F (λ p. x p || one u p)))
  passed s v u sv x within ih = cancels laws (F (λ p. s p && not (x p))) (F s) cross ih
    where
      cross : le (plus (F (λ p. eqb p v || s p)) (F (λ p. s p && not (x p)))) (plus (F (λ p. (eqb p v || s p) && not (x p))) (F s))
      cross = curb _ s _ _ (λ p. back (x p) (s p) (eqb p v) (within p)) (λ p. back_in (x p) (s p) (eqb p v))

  pub key : (v : ℕ) (w : List ℕ) → Ordered plus le stand F v w → (u : ℕ) → stand u ≡ true → among (v ∷ w) u ≡ false →
      (x : Set) → ((p : ℕ) → (x p && among w p) ≡ x p) →
      le (plus (F (among (v ∷ w))) (F (one u))) (plus (F (λ p. among (v ∷ w) p && not (x p))) (F (λ p. x p || one u p)))
  key v [] o u su out x within =
      subst₂ (λ a b. le (plus (F (among (v ∷ []))) (F (one u))) (plus a b))
      (like _ _ (λ p. none_left (x p) _ (within p))) (like _ _ (λ p. none_in (x p) _ (within p))) (reflexive laws _)
  key v (y ∷ w) o u su out x within =
      go (x y) refl
      (λ e. key y w o.3 v o.0 o.1 (λ p. among (y ∷ w) p && not (x p)) (λ p. drop_held (x p) (eqb p y) (among w p) (apart (λ q. not (x q)) y p (ap not e))))
      (λ e. key y w o.3 u su outer x (λ p. drop_lacked (x p) (eqb p y) (among w p) (within p) (apart x y p e)))
    where
      outer : among (y ∷ w) u ≡ false
      outer = or_right (eqb u v) _ out

      go : (b : Bool) → x y ≡ b →
          (x y ≡ true → le (plus (F (among (y ∷ w))) (F (one v))) (plus (F (λ p. among (y ∷ w) p && not (among (y ∷ w) p && not (x p)))) (F (λ p. (among (y ∷ w) p && not (x p)) || one v p)))) →
          (x y ≡ false → le (plus (F (among (y ∷ w))) (F (one u))) (plus (F (λ p. among (y ∷ w) p && not (x p))) (F (λ p. x p || one u p)))) →
          le (plus (F (among (v ∷ y ∷ w))) (F (one u))) (plus (F (λ p. among (v ∷ y ∷ w) p && not (x p))) (F (λ p. x p || one u p)))
      go true e held lacked = taken (among (y ∷ w)) v u o.1 outer x within (held e) (o.2 u su out)
      go false e held lacked = passed (among (y ∷ w)) v u o.1 x within (lacked e)

  module _ (u t : ℕ) (w : List ℕ) (o : Ordered plus le stand F u (t ∷ w))
      (covers : (p : ℕ) → stand p ≡ true → among (u ∷ t ∷ w) p ≡ true) where
    -- a side with u and without t
    with_last : (n : Set) → n t ≡ false → n u ≡ true → le (F (one u)) (F n)
    with_last n nt nu =
        halves laws (subst₃ (λ a b c. le (plus a (F (one u))) (plus b c)) rest off on
        (key t w o.3 u o.0 o.1 (λ p. n p && among w p) (λ p. again (n p) (among w p))))
      where
        clear : (p : ℕ) → ((eqb p t || among w p) && eqb p u) ≡ false
        clear p = apart (among (t ∷ w)) u p o.1

        has : (p : ℕ) → (not (n p) && eqb p u) ≡ false
        has p = apart (λ q. not (n q)) u p (ap not nu)

        rest : F (among (t ∷ w)) ≡ F (one u)
        rest =
            fair.reads (among (t ∷ w)) (λ p. not (one u p)) (λ p s. all_but_last (eqb p u) (eqb p t) (among w p) (covers p s) (clear p))
            ∙ fair.flips (one u)

        off : F (λ p. among (t ∷ w) p && not (n p && among w p)) ≡ F n
        off =
            fair.reads _ (λ p. not (n p)) (λ p s. other_side (n p) (eqb p u) (eqb p t) (among w p) (covers p s) (clear p) (has p) (apart n t p nt))
            ∙ fair.flips n

        on : F (λ p. (n p && among w p) || one u p) ≡ F n
        on = fair.reads _ n (λ p s. this_side (n p) (eqb p u) (eqb p t) (among w p) (covers p s) (clear p) (has p) (apart n t p nt))

    -- every side that holds exactly one of t and u costs at least what u costs
    pub pendant : (n : Set) → ¬ (n t ≡ n u) → le (F (one u)) (F n)
    pendant n apart_are =
        elim (two_ways (n t) (n u) apart_are) [
          | inl h ↦ with_last n h.0 h.1
          | inr h ↦ subst (le (F (one u))) (fair.flips n) (with_last (λ p. not (n p)) (ap not h.0) (ap not h.1))
        ]
