-- Rows that are made from tests of names. Assumes nothing.
use Rattle.std.proofs.Common.{◌≡◌, ℕ, ◌-◌, ◌<◌, ◌≤◌, min, max, Bool, true, false, not, ◌&&◌, ◌||◌, eqb, List, [], ◌∷◌, map, length, get_or, sym, refl, ap, ◌∙◌, subst, ap₂, arith}
use mathlib.Core.Bool.{or-false}
use lib.ListN.{length-map, get_or-map}
use Rattle.std.proofs.lemmas.List.{get_or_default, ext_get_or}
use Rattle.measure.specs.Rows.{Row, marks, complement, either, both}
use Rattle.search.specs.Rows.{bit, marked_by, alone, added}
use Rattle.search.proofs.Sets.{Set, among}

pub getD_map_in : (f : ℕ → ℕ) (xs : List ℕ) (p : ℕ) → p < length xs → get_or (map f xs) p 0 ≡ f (get_or xs p 0)
getD_map_in f xs p h = get_or_default (map f xs) p 0 (f 0) (subst (λ n. p < n) (sym (length-map xs f)) h) ∙ get_or-map f xs p 0

pub map_agree : (f g : ℕ → ℕ) (xs : List ℕ) → ((p : ℕ) → p < length xs → f (get_or xs p 0) ≡ g (get_or xs p 0)) → map f xs ≡ map g xs
map_agree f g xs h =
    ext_get_or 0 (map f xs) (map g xs) (length-map xs f ∙ sym (length-map xs g))
    (λ p l. let k : p < length xs = omega (arith, length-map xs f) in getD_map_in f xs p k ∙ h p k ∙ sym (getD_map_in g xs p k))

pub bit_low : (b : Bool) → bit b ≤ 1
bit_low true = omega arith
bit_low false = omega arith

pub bit_one : (b : Bool) → eqb (bit b) 1 ≡ b
bit_one true = refl
bit_one false = refl

pub marked_row : (s : Set) (names : List ℕ) → Row (length names) (marked_by s names)
marked_row s names = record {
  long = length-map names _;
  bits = λ p h. subst (λ x. x ≤ 1) (sym (getD_map_in _ names p h)) (bit_low (s (get_or names p 0)));
}

-- which parts such a row marks
pub marks_marked : (s : Set) (names : List ℕ) (p : ℕ) → p < length names → marks (marked_by s names) p ≡ s (get_or names p 0)
marks_marked s names p h = ap (λ x. eqb x 1) (getD_map_in _ names p h) ∙ bit_one (s (get_or names p 0))

bit_not : (b : Bool) → 1 - bit b ≡ bit (not b)
bit_not true = refl
bit_not false = refl

bit_or : (a b : Bool) → max (bit a) (bit b) ≡ bit (a || b)
bit_or true true = refl
bit_or true false = refl
bit_or false true = refl
bit_or false false = refl

bit_and : (a b : Bool) → min (bit a) (bit b) ≡ bit (a && b)
bit_and true true = refl
bit_and true false = refl
bit_and false true = refl
bit_and false false = refl

pub complement_marked : (s : Set) (names : List ℕ) → complement (marked_by s names) ≡ marked_by (λ p. not (s p)) names
complement_marked s [] = refl
complement_marked s (x ∷ xs) = ap₂ ◌∷◌ (bit_not (s x)) (complement_marked s xs)

pub either_marked : (s t : Set) (names : List ℕ) → either (marked_by s names) (marked_by t names) ≡ marked_by (λ p. s p || t p) names
either_marked s t [] = refl
either_marked s t (x ∷ xs) = ap₂ ◌∷◌ (bit_or (s x) (t x)) (either_marked s t xs)

pub both_marked : (s t : Set) (names : List ℕ) → both (marked_by s names) (marked_by t names) ≡ marked_by (λ p. s p && t p) names
both_marked s t [] = refl
both_marked s t (x ∷ xs) = ap₂ ◌∷◌ (bit_and (s x) (t x)) (both_marked s t xs)

-- the row that marks the parts of the groups ordered so far
abbrev pub taken : List ℕ → List ℕ → List ℕ
taken names ordered = marked_by (among ordered) names

pub added_taken : (names ordered : List ℕ) (u : ℕ) → added names (taken names ordered) u ≡ taken names (u ∷ ordered)
added_taken [] ordered u = refl
added_taken (w ∷ ws) ordered u = ap₂ ◌∷◌ (ap (λ b. bit (eqb w u || b)) (bit_one (among ordered w))) (added_taken ws ordered u)

pub alone_taken : (names : List ℕ) (u : ℕ) → alone names u ≡ taken names (u ∷ [])
alone_taken names u = map_agree _ _ names (λ p _. ap bit (sym (or-false (eqb (get_or names p 0) u))))
