-- What the laws of a cost kind give of sums, with its order as a relation. Assumes nothing.
use Rattle.std.proofs.Common.{◌≡◌, Bool, true, ◌⊎◌, sym, ap, ◌∙◌, subst, subst₂, inl, inr}
use Rattle.cost.specs.Kind.{KindLaws}

pub record Sums {X : Type 0} (plus : X → X → X) (le : X → X → Type 0) : Type 0 where
  pub commutative : (a b : X) → plus a b ≡ plus b a
  pub associative : (a b c : X) → plus (plus a b) c ≡ plus a (plus b c)
  pub total : (a b : X) → le a b ⊎ le b a
  pub transitive : (a b c : X) → le a b → le b c → le a c
  pub more : (a b c : X) → le a b → le (plus a c) (plus b c)
  pub less : (a b c : X) → le (plus a c) (plus b c) → le a b

pub sums : {X : Type 0} {plus : X → X → X} {le : X → X → Bool} → KindLaws plus le → Sums plus (λ a b. le a b ≡ true)
sums laws = record {
  commutative = laws.commutative;
  associative = laws.associative;
  total = laws.order.total;
  transitive = laws.order.transitive;
  more = λ a b c h. laws.translated a b c ∙ h;
  less = λ a b c h. sym (laws.translated a b c) ∙ h;
}

module _ {X : Type 0} {plus : X → X → X} {le : X → X → Type 0} (laws : Sums plus le) where
  left_commutative : (a b c : X) → plus a (plus b c) ≡ plus b (plus a c)
  left_commutative a b c = sym (laws.associative a b c) ∙ ap (λ x. plus x c) (laws.commutative a b) ∙ laws.associative b a c

  pub reflexive : (a : X) → le a a
  reflexive a = elim (laws.total a a) [ inl h ↦ h | inr h ↦ h ]

  adds : {a b c d : X} → le a b → le c d → le (plus a c) (plus b d)
  adds {a} {b} {c} {d} h k =
      laws.transitive _ _ _ (laws.more a b c h) (subst₂ le (laws.commutative c b) (laws.commutative d b) (laws.more c d b k))

  -- p and q cancel
  pub cancels : {a b c d : X} (p q : X) → le (plus a p) (plus c q) → le (plus q b) (plus p d) → le (plus a b) (plus c d)
  cancels {a} {b} {c} {d} p q h k =
      laws.less _ _ (plus p q) (subst₂ le front back (adds h k))
    where
      front : plus (plus a p) (plus q b) ≡ plus (plus a b) (plus p q)
      front = simp (laws.associative, laws.commutative, left_commutative)

      back : plus (plus c q) (plus p d) ≡ plus (plus c d) (plus p q)
      back = simp (laws.associative, laws.commutative, left_commutative)

  pub halves : {a b : X} → le (plus a a) (plus b b) → le a b
  halves {a} {b} h =
      elim (laws.total a b) [
        | inl k ↦ k
        | inr k ↦ laws.less _ _ a (laws.transitive _ _ _ h (subst (le (plus b b)) (laws.commutative a b) (laws.more b a b k)))
      ]

  -- "a less x is at most b less y" goes on to c less z
  pub differences : (a b c x y z : X) → le (plus a y) (plus b x) → le (plus b z) (plus c y) → le (plus a z) (plus c x)
  differences a b c x y z h k =
      subst (le (plus a z)) (laws.commutative x c)
      (cancels y b (subst (le (plus a y)) (laws.commutative b x) h) (subst (le (plus b z)) (laws.commutative c y) k))
