-- Why the certificate holds of the lines and the side of a search. Assumes nothing.
use Rattle.std.proofs.Common.{◌≡◌, ℕ, zero, suc, ◌-◌, ◌<◌, ◌≤◌, Bool, true, false, cond, not, eqb, ◌⊎◌, List, [], ◌∷◌, ◌++◌, length, get_or, sym, refl, ap, ◌∙◌, subst, inl, inr, arith}
use mathlib.Core.List.{map-map}
use lib.ListN.{length-map}
use Rattle.std.specs.List.{AllByRecursion}
use Rattle.std.proofs.lemmas.List.{ext_get_or, get_or_at, length-append}
use Rattle.std.proofs.lemmas.Bool.{eqb-true, eq-eqb, ne_eqb, cases_eq, both_ways, or_cases}
use Rattle.cost.specs.Earliest.{Earliest}
use Rattle.cost.specs.Kind.{KindLaws}
use Rattle.cost.specs.Lines.{line_le}
use Rattle.cost.specs.declared.line.Line.{Line}
use Rattle.cost.proofs.Lines.{line_total, line_transitive}
use Rattle.cost.proofs.Smallest.{earliest_means}
use Rattle.measure.specs.Laws.{MeasureLaws}
use Rattle.measure.specs.Rows.{Row, marks}
use Rattle.partition.specs.Joined.{renamed, joined}
use Rattle.partition.specs.Names.{stands, groups}
use Rattle.partition.proofs.Joins.{getD_joined, joined_groups, test_renamed}
use Rattle.partition.proofs.Names.{name_of_name, name_stands, stands_is}
use Rattle.search.specs.Certificate.{Side, separates, Traced, Certified}
use Rattle.search.specs.Phases.{line_of, phases, lines_of, side_at}
use Rattle.search.specs.Rows.{bit, marked_by, alone}
use Rattle.search.specs.Split.{best_line, best_side}
use Rattle.search.proofs.Divided.{marks_alike, divides_none}
use Rattle.search.proofs.Arranged.{start, all_taken, ends, order_arranged, last_two}
use Rattle.search.proofs.Marked.{marked_row, marks_marked, getD_map_in, map_agree}
use Rattle.search.proofs.Names.{Grouped, standing_part, joined_grouped}

apart_yes : (a b : Bool) → ¬ (a ≡ b) → cond a (not b) b ≡ true
apart_yes true true h = absurd (h refl)
apart_yes true false h = refl
apart_yes false true h = refl
apart_yes false false h = absurd (h refl)

apart_no : (a b : Bool) → a ≡ b → cond a (not b) b ≡ false
apart_no true true h = refl
apart_no true false h = grind arith
apart_no false true h = grind arith
apart_no false false h = refl

same_or_not : (a b : Bool) → (a ≡ b) ⊎ ¬ (a ≡ b)
same_or_not true true = inl refl
same_or_not true false = inr (λ e. grind arith)
same_or_not false true = inr (λ e. grind arith)
same_or_not false false = inl refl

bit_of : (x : ℕ) → x ≤ 1 → x ≡ bit (eqb x 1)
bit_of x h = elim (cases_eq x 1) [ inl e ↦ rw (eq-eqb x 1 e) e | inr e ↦ rw (ne_eqb x 1 e) (omega arith) ]

-- a side is the row that marks the parts whose group's name it marks
side_marks : {n : ℕ} {names : List ℕ} (row : List ℕ) → Grouped n names → Side names row → row ≡ marked_by (marks row) names
side_marks {names = names} row grouped side =
    ext_get_or 0 row (marked_by (marks row) names) (side.row_is.long ∙ sym (length-map names _)) (λ i h. at i (subst (λ m. i < m) side.row_is.long h))
  where
    at : (i : ℕ) → i < length names → get_or row i 0 ≡ get_or (marked_by (marks row) names) i 0
    at i h =
        let own : marks row i ≡ marks row (get_or names i 0) = marks_alike names row side.whole i (get_or names i 0) h (standing_part grouped _ (name_stands names grouped.named i)) (sym (name_of_name names grouped.named i)) in
        bit_of _ (side.row_is.bits i h) ∙ ap bit own ∙ sym (getD_map_in _ names i h)

module _ {n : ℕ} {names : List ℕ} (grouped : Grouped n names) (t u : ℕ)
    (ts : stands names t ≡ true) (us : stands names u ≡ true) (ne : ¬ (t ≡ u)) where
  -- a side of the joined groups is a side
  side_before : (row : List ℕ) → Side (joined t u names) row → Side names row
  side_before row side =
      let size = length-map names (renamed t u) in
      record {
        row_is = subst (λ m. Row m row) size side.row_is;
        held = side.held;
        held_part = subst (λ m. side.held < m) size side.held_part;
        holds = side.holds;
        lacked = side.lacked;
        lacked_part = subst (λ m. side.lacked < m) size side.lacked_part;
        lacks = side.lacks;
        whole = divides_none names row (λ p q hp hq e.
            marks_alike (joined t u names) row side.whole p q (subst (λ m. p < m) (sym size) hp) (subst (λ m. q < m) (sym size) hq)
            (getD_joined t u ne names p ∙ ap (renamed t u) e ∙ sym (getD_joined t u ne names q)));
      }

  stands_after : (a : ℕ) → stands names a ≡ true → stands (joined t u names) (renamed t u a) ≡ true
  stands_after a h =
      subst (λ q. stands (joined t u names) q ≡ true) (getD_joined t u ne names a ∙ ap (renamed t u) (stands_is names a h))
      (name_stands (joined t u names) (joined_grouped grouped t u ts us ne).named a)

  -- the group of u alone is a side
  last_side : Side names (alone names u)
  last_side = record {
    row_is = marked_row _ names;
    held = u;
    held_part = standing_part grouped u us;
    holds = at u us ∙ eq-eqb u u refl;
    lacked = t;
    lacked_part = standing_part grouped t ts;
    lacks = at t ts ∙ ne_eqb t u ne;
    whole = divides_none names (alone names u) (λ p q hp hq e. marks_marked _ names p hp ∙ ap (λ w. eqb w u) e ∙ sym (marks_marked _ names q hq));
  }
    where
      at : (p : ℕ) → stands names p ≡ true → marks (alone names u) p ≡ eqb p u
      at p h = marks_marked (λ w. eqb w u) names p (standing_part grouped p h) ∙ ap (λ w. eqb w u) (stands_is names p h)

-- with one group, all standing names are one
one_name : {n : ℕ} {names : List ℕ} → Grouped n names → groups names ≡ 1 → (a b : ℕ) → stands names a ≡ true → stands names b ≡ true → a ≡ b
one_name grouped h a b sa sb =
    let f = start grouped a sa in
    let k = all_taken grouped (a ∷ []) (omega arith) b sb in
    elim (or_cases (eqb b a) false k) [ inl e ↦ sym (eqb-true b a e) | inr e ↦ absurd (both_ways _ refl e) ]

module _ {C X : Type 0} (amount : C → X) (plus : X → X → X) (le : X → X → Bool) (price : List ℕ → C)
    (laws : KindLaws plus le) {n : ℕ} (top : X) (measure : MeasureLaws plus le n (λ row. amount (price row)) top) where
  pub length_phases : (k : ℕ) (names : List ℕ) → length (phases amount plus le price k names) ≡ k
  length_phases zero names = refl
  length_phases (suc k) names = ap suc (length_phases k _)

  -- the first of the lines that the row separates costs at most x
  record First (x : X) (row : List ℕ) (lines : List (Line C)) : Type 0 where
    pub before : List (Line C)
    pub line : Line C
    pub after : List (Line C)
    pub listed : lines ≡ before ++ (line ∷ after)
    pub earlier : AllByRecursion (λ l. separates row l.t l.u ≡ false) before
    pub separated : separates row line.t line.u ≡ true
    pub cheap : le (amount line.cost) x ≡ true

  later : (x : X) (row : List ℕ) (l : Line C) (ls : List (Line C)) → separates row l.t l.u ≡ false → First x row ls → First x row (l ∷ ls)
  later x row l ls h f = record {
    before = l ∷ f.before;
    line = f.line;
    after = f.after;
    listed = ap (λ qs. l ∷ qs) f.listed;
    earlier = (h, f.earlier);
    separated = f.separated;
    cheap = f.cheap;
  }

  -- a row that tells two standing names apart separates some line's pair, and the first such line costs at most what it costs
  separated_first : (k : ℕ) (names : List ℕ) → Grouped n names → groups names ≡ suc k → (row : List ℕ) →
      (a b : ℕ) → stands names a ≡ true → stands names b ≡ true → ¬ (marks row a ≡ marks row b) →
      (x : X) → amount (price (marked_by (marks row) names)) ≡ x →
      First x row (phases amount plus le price k names)
  separated_first zero names grouped g row a b sa sb differ x costs = absurd (differ (ap (marks row) (one_name grouped g a b sa sb)))
  separated_first (suc k) names grouped g row a b sa sb differ x costs =
      let arr = order_arranged grouped amount plus le price laws k g in
      let t = arr.t in
      let u = arr.u in
      let (ts, us, ne, _) = ends grouped amount plus le price laws _ arr in
      subst (λ ordered. First x row (line_of amount plus le price names ordered ∷ phases amount plus le price k (joined (get_or ordered 1 0) (get_or ordered 0 0) names)))
      (sym arr.ordered_is)
      (elim (same_or_not (marks row t) (marks row u)) [
        | inl e ↦
            later x row _ _ (apart_no _ _ e)
            (separated_first k (joined t u names) (joined_grouped grouped t u ts us ne) (omega (arith, joined_groups names grouped.named t u ts us ne)) row
            (renamed t u a) (renamed t u b) (stands_after grouped t u ts us ne a sa) (stands_after grouped t u ts us ne b sb)
            (λ f. differ (sym (test_renamed (marks row) t u a e) ∙ f ∙ test_renamed (marks row) t u b e))
            x
            (ap (λ r. amount (price r)) (map-map _ _ names ∙ map_agree _ _ names (λ p _. ap bit (test_renamed (marks row) t u (get_or names p 0) e))) ∙ costs))
        | inr e ↦
            record {
              before = [];
              line = line_of amount plus le price names (u ∷ t ∷ arr.w);
              after = phases amount plus le price k (joined t u names);
              listed = refl;
              earlier = tt;
              separated = apart_yes _ _ e;
              cheap =
                  subst (λ z. le (amount (price (alone names u))) z ≡ true) costs
                  (last_two grouped amount plus le price laws top measure u t arr.w arr.in_order arr.none_left (marks row) e);
            }
      ])

  -- the pairs of the lines are parts
  parts : (k : ℕ) (names : List ℕ) → Grouped n names → groups names ≡ suc k →
      AllByRecursion (λ l. (l.t < n) × (l.u < n)) (phases amount plus le price k names)
  parts zero names grouped g = tt
  parts (suc k) names grouped g =
      let arr = order_arranged grouped amount plus le price laws k g in
      let t = arr.t in
      let u = arr.u in
      let (ts, us, ne, _) = ends grouped amount plus le price laws _ arr in
      subst (λ ordered. AllByRecursion (λ l. (l.t < n) × (l.u < n)) (line_of amount plus le price names ordered ∷ phases amount plus le price k (joined (get_or ordered 1 0) (get_or ordered 0 0) names)))
      (sym arr.ordered_is) (
        (omega (arith, standing_part grouped t ts, grouped.size), omega (arith, standing_part grouped u us, grouped.size)),
        parts k (joined t u names) (joined_grouped grouped t u ts us ne) (omega (arith, joined_groups names grouped.named t u ts us ne)),
      )

  -- each line's group is a side of the groups at first, and costs what the line says
  abbrev Holds : List ℕ → List (Line C) → ℕ → Type 0
  Holds names lines b =
      Side names (side_at b lines names)
      × ((d : Line C) → price (side_at b lines names) ≡ (get_or lines b d).cost)

  sides : (k : ℕ) (names : List ℕ) → Grouped n names → groups names ≡ suc k → (b : ℕ) → b < k → Holds names (phases amount plus le price k names) b
  sides zero names grouped g b h = absurd (omega arith)
  sides (suc k) names grouped g b h =
      let arr = order_arranged grouped amount plus le price laws k g in
      let t = arr.t in
      let u = arr.u in
      let (ts, us, ne, _) = ends grouped amount plus le price laws _ arr in
      subst (λ ordered. Holds names (line_of amount plus le price names ordered ∷ phases amount plus le price k (joined (get_or ordered 1 0) (get_or ordered 0 0) names)) b)
      (sym arr.ordered_is)
      (at b h t u arr.w ts us ne (λ c l. sides k (joined t u names) (joined_grouped grouped t u ts us ne) (omega (arith, joined_groups names grouped.named t u ts us ne)) c l))
    where
      at : (b : ℕ) → b < suc k → (t u : ℕ) (w : List ℕ) (ts : stands names t ≡ true) (us : stands names u ≡ true) (ne : ¬ (t ≡ u)) →
          ((c : ℕ) → c < k → Holds (joined t u names) (phases amount plus le price k (joined t u names)) c) →
          Holds names (line_of amount plus le price names (u ∷ t ∷ w) ∷ phases amount plus le price k (joined t u names)) b
      at zero l t u w ts us ne rest = (last_side grouped t u ts us ne, λ d. refl)
      at (suc b) l t u w ts us ne rest =
          let r = rest b (omega arith) in
          (side_before grouped t u ts us ne _ r.0, r.1)

  module _ (names : List ℕ) (grouped : Grouped n names) (two : 2 ≤ groups names) where
    abbrev lines : List (Line C)
    lines = lines_of amount plus le price names

    counted : groups names ≡ suc (groups names - 1)
    counted = omega arith

    trace : (row : List ℕ) → Side names row → Traced amount le price names lines row
    trace row side =
        let f = separated_first (groups names - 1) names grouped counted row
        (get_or names side.held 0) (get_or names side.lacked 0) (name_stands names grouped.named _) (name_stands names grouped.named _) differ
        (amount (price row)) (ap (λ r. amount (price r)) (sym (side_marks row grouped side))) in
        record { before = f.before; line = f.line; after = f.after; listed = f.listed; earlier = f.earlier; separated = f.separated; cheap = f.cheap }
      where
        own : (p : ℕ) → p < length names → marks row p ≡ marks row (get_or names p 0)
        own p h = marks_alike names row side.whole p (get_or names p 0) h (standing_part grouped _ (name_stands names grouped.named p)) (sym (name_of_name names grouped.named p))

        differ : ¬ (marks row (get_or names side.held 0) ≡ marks row (get_or names side.lacked 0))
        differ e = both_ways _ side.lacks (own _ side.lacked_part ∙ sym e ∙ sym (own _ side.held_part) ∙ side.holds)

    best : Earliest (line_le amount le) lines (best_line amount plus le price names)
    best = earliest_means (line_le amount le) (line_total amount le laws.order) (line_transitive amount le laws.order) lines

    pub best_range : (1 ≤ best_line amount plus le price names) × (best_line amount plus le price names - 1 < groups names - 1)
    best_range =
        let long = length_phases (groups names - 1) names in
        let some = best.some (omega arith) in
        (some.0, omega (arith, some.0, some.1))

    holds : Holds names lines (best_line amount plus le price names - 1)
    holds = sides (groups names - 1) names grouped counted (best_line amount plus le price names - 1) best_range.1

    pub holds_cost : (d : Line C) → price (best_side amount plus le price names) ≡ (get_or lines (best_line amount plus le price names - 1) d).cost
    holds_cost d = holds.1 d

    lower : (row : List ℕ) → Side names row → le (amount (price (best_side amount plus le price names))) (amount (price row)) ≡ true
    lower row side =
        let f = trace row side in
        let at : get_or lines (length f.before) f.line ≡ f.line = ap (λ ls. get_or ls (length f.before) f.line) f.listed ∙ get_or_at f.before f.line f.after f.line (length f.before) refl in
        let within : length f.before < length lines = omega (arith, ap length f.listed, length-append f.before (f.line ∷ f.after)) in
        let small : le (amount (get_or lines (best_line amount plus le price names - 1) f.line).cost) (amount (get_or lines (length f.before) f.line).cost) ≡ true = best.smallest (length f.before) f.line within in
        laws.order.transitive _ _ _
        (subst (λ c. le (amount c) (amount f.line.cost) ≡ true) (sym (holds.1 f.line))
        (subst (λ l. le (amount (get_or lines (best_line amount plus le price names - 1) f.line).cost) (amount l.cost) ≡ true) at small))
        f.cheap

    pub certified : Certified amount le price names (best_side amount plus le price names) lines (price (best_side amount plus le price names))
    certified = record {
      divides = holds.0;
      priced = refl;
      least = record { side = best_side amount plus le price names; side_is = holds.0; reached = refl; least = lower };
      parts = subst (λ m. AllByRecursion (λ l. (l.t < m) × (l.u < m)) lines) (sym grouped.size) (parts (groups names - 1) names grouped counted);
      traced = trace;
    }
