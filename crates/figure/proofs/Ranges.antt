-- Numbers within their ranges. Assumes nothing.
use Rattle.std.proofs.Common.{◌≡◌, ℕ, ◌+◌, ◌≤◌, Bool, true, false, cond, leb, List, [], ◌∷◌, Some, None, Option, sym, refl, ◌∙◌, subst, arith}
use Rattle.std.specs.List.{AllByRecursion}
use Rattle.std.proofs.lemmas.Bool.{and_from, and_parts, cond-true, le-leb, leb-true}
use Rattle.figure.specs.Rules.{within, stray, outside}
use Rattle.figure.specs.declared.rule.Range.{Range}
use Rattle.figure.specs.declared.rule.Rule.{Rule}

-- from the low end to the high end
abbrev pub In : Range → ℕ → Type 0
In g v = (g.low ≤ v) × (v ≤ g.high)

pub within_in : (g : Range) (v : ℕ) → within g v ≡ true → In g v
within_in g v t = let a = and_parts (leb g.low v) (leb v g.high) t in (leb-true g.low v a.0, leb-true v g.high a.1)

pub in_within : (g : Range) (v : ℕ) → In g v → within g v ≡ true
in_within g v h = and_from (leb g.low v) (leb v g.high) (le-leb g.low v h.0) (le-leb v g.high h.1)

-- a test that is passed, where no place is the answer
passed : (b : Bool) (o : Option ℕ) (k : ℕ) → cond b o (Some k) ≡ None → (b ≡ true) × (o ≡ None)
passed true o k e = (refl, e)
passed false o k e = absurd (let z : ◌≡◌ {A = ℕ} 0 1 = cc in omega arith)

stray_in : (g : Range) (k : ℕ) (vs : List ℕ) → stray g k vs ≡ None → AllByRecursion (In g) vs
stray_in g k [] e = tt
stray_in g k (v ∷ vs) e = let a = passed (within g v) (stray g (k + 1) vs) k e in (within_in g v a.0, stray_in g (k + 1) vs a.1)

stray_none : (g : Range) (k : ℕ) (vs : List ℕ) → AllByRecursion (In g) vs → stray g k vs ≡ None
stray_none g k [] h = refl
stray_none g k (v ∷ vs) h = cond-true (within g v) (stray g (k + 1) vs) (Some k) (in_within g v h.0) ∙ stray_none g (k + 1) vs h.1

-- none is outside: the first is in its range, and the others in theirs
pub outside_in : (rule : Rule) (v : ℕ) (vs : List ℕ) → outside rule (v ∷ vs) ≡ None → In rule.first v × AllByRecursion (In rule.rest) vs
outside_in rule v vs e =
    let a = passed (within rule.first v) (stray rule.rest 2 vs) 1 e in
    (within_in rule.first v a.0, stray_in rule.rest 2 vs a.1)

pub outside_none : (rule : Rule) (v : ℕ) (vs : List ℕ) → In rule.first v → AllByRecursion (In rule.rest) vs → outside rule (v ∷ vs) ≡ None
outside_none rule v vs a b = cond-true (within rule.first v) (stray rule.rest 2 vs) (Some 1) (in_within rule.first v a) ∙ stray_none rule.rest 2 vs b

-- the same, of all the numbers, where one range holds for all
pub outside_all : (rule : Rule) (vs : List ℕ) → rule.rest ≡ rule.first → outside rule vs ≡ None → AllByRecursion (In rule.first) vs
outside_all rule [] s e = tt
outside_all rule (v ∷ vs) s e = let a = outside_in rule v vs e in (a.0, subst (λ g. AllByRecursion (In g) vs) s a.1)

pub all_outside : (rule : Rule) (vs : List ℕ) → rule.rest ≡ rule.first → AllByRecursion (In rule.first) vs → outside rule vs ≡ None
all_outside rule [] s h = refl
all_outside rule (v ∷ vs) s h = outside_none rule v vs h.0 (subst (λ g. AllByRecursion (In g) vs) (sym s) h.1)
