-- What the search knows of the names of the groups, and the cost of a set of names. Assumes nothing.
use Rattle.std.proofs.Common.{◌≡◌, ℕ, ◌<◌, ◌≤◌, Bool, true, false, not, ◌&&◌, ◌≢◌, List, length, sym, refl, ap, ◌∙◌, subst, subst₂, arith}
use Rattle.std.proofs.lemmas.Bool.{eq-eqb}
use Rattle.measure.specs.Laws.{MeasureLaws}
use Rattle.measure.specs.Rows.{Row, marks}
use Rattle.partition.specs.Joined.{joined}
use Rattle.partition.specs.Names.{Named, stands}
use Rattle.partition.proofs.Joins.{joined_named, length_joined}
use Rattle.partition.proofs.Names.{first_name, name_stands, stands_below, stands_is}
use Rattle.search.specs.Rows.{bit, marked_by, unordered}
use Rattle.search.proofs.Marked.{map_agree, marked_row, marks_marked, complement_marked, either_marked, both_marked, taken}
use Rattle.search.proofs.Sets.{Set, Fair, among}

pub first_stands : (names : List ℕ) → 0 < length names → Named names → stands names 0 ≡ true
first_stands names some named = eq-eqb _ _ (first_name names named)

-- n parts, at least one, with well-formed names
pub record Grouped (n : ℕ) (names : List ℕ) : Type 0 where
  pub some : 0 < n
  pub size : length names ≡ n
  pub named : Named names

pub every_grouped : (names : List ℕ) → (2 ≤ length names) × (length names ≤ 80) → Named names → Grouped (length names) names
every_grouped names few named = record { some = omega (arith, few); size = refl; named = named }

module _ {n : ℕ} {names : List ℕ} (grouped : Grouped n names) where
  -- a standing name is a part
  pub standing_part : (p : ℕ) → stands names p ≡ true → p < length names
  standing_part p h = stands_below names p (omega (arith, grouped.some, grouped.size)) h

  pub zero_stands : stands names 0 ≡ true
  zero_stands = eq-eqb _ _ (first_name names grouped.named)

  pub unordered_is : (ordered : List ℕ) (p : ℕ) → unordered names (taken names ordered) p ≡ (stands names p && not (among ordered p))
  unordered_is ordered p = go (stands names p) refl
    where
      go : (b : Bool) → stands names p ≡ b → (b && not (marks (taken names ordered) p)) ≡ (b && not (among ordered p))
      go false h = refl
      go true h = ap not (marks_marked (among ordered) names p (standing_part p h) ∙ ap (among ordered) (stands_is names p h))

  -- the cost of a set of names, as the cost of the parts whose group's name is in it
  pub fair : {C X : Type 0} (amount : C → X) (plus : X → X → X) (le : X → X → Bool) (price : List ℕ → C) (top : X) →
      MeasureLaws plus le n (λ row. amount (price row)) top → Fair plus (λ a b. le a b ≡ true) (stands names) (λ s. amount (price (marked_by s names)))
  fair amount plus le price top laws = record {
    flips = λ s. ap (λ r. amount (price r)) (sym (complement_marked s names)) ∙ laws.symmetric (marked_by s names) (row s);
    curbs = λ s t.
        subst₂ (λ a b. le (plus (amount (price a)) (amount (price b))) (plus (amount (price (marked_by s names))) (amount (price (marked_by t names)))) ≡ true)
        (either_marked s t names) (both_marked s t names) (laws.submodular (marked_by s names) (marked_by t names) (row s) (row t));
    reads = λ s t h. ap (λ r. amount (price r)) (map_agree _ _ names (λ p _. ap bit (h _ (name_stands names grouped.named p))));
  }
    where
      row : (s : Set) → Row n (marked_by s names)
      row s = subst (λ k. Row k (marked_by s names)) grouped.size (marked_row s names)

pub joined_grouped : {n : ℕ} {names : List ℕ} (grouped : Grouped n names) (t u : ℕ) → stands names t ≡ true → stands names u ≡ true → t ≢ u → Grouped n (joined t u names)
joined_grouped {names = names} grouped t u ts us ne =
    record { some = grouped.some; size = length_joined t u names ∙ grouped.size; named = joined_named names grouped.named t u ts us ne }
