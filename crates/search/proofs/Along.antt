-- The loop that orders the groups of a phase. Assumes nothing.
use Rattle.std.proofs.Common.{◌≡◌, ℕ, suc, ◌-◌, ◌<◌, ◌≤◌, Bool, true, List, [], ◌∷◌, length, get_or, sym, refl, ap, ◌∙◌, ap₂, arith}
use Rattle.std.proofs.lemmas.Bool.{or_right}
use Rattle.cost.specs.Kind.{KindLaws}
use Rattle.cost.specs.declared.line.Line.{Line}
use Rattle.measure.specs.Rows.{marks}
use Rattle.partition.specs.Names.{groups}
use Rattle.partition.proofs.Names.{first_name}
use Rattle.search.specs.Candidates.{candidate}
use Rattle.search.specs.Order.{beats, next, order}
use Rattle.search.specs.Phases.{line_of, whole_order}
use Rattle.search.specs.Rows.{alone, added, left}
use Rattle.search.proofs.Arranged.{beats_rank, fewer, out_left, start}
use Rattle.search.proofs.Choice.{first_found}
use Rattle.search.proofs.Marked.{taken, added_taken, alone_taken, marks_marked}
use Rattle.search.proofs.Names.{Grouped, zero_stands}
use Rattle.search.proofs.Sets.{among}

module _ {C X : Type 0} (amount : C → X) (plus : X → X → X) (le : X → X → Bool) (price : List ℕ → C) {n : ℕ} (names : List ℕ) (grouped : Grouped n names) where
  abbrev whole : List ℕ
  whole = whole_order amount plus le price (groups names - 1) names

  -- the names ordered so far, of which line.u and line.t are the last two, and the order goes on from them with what is left
  pub record Along (row : List ℕ) (line : Line C) : Type 0 where
    pub ordered : List ℕ
    pub row_is : row ≡ taken names ordered
    pub zero : among ordered 0 ≡ true
    pub goes_on : whole ≡ order amount plus le price (length (left names row)) names row ordered
    pub last : line.u ≡ get_or ordered 0 0
    pub before : line.t ≡ get_or ordered 1 0
    pub own : length (left names row) < groups names - 1 → line.cost ≡ price (alone names line.u)

  pub along_none : (row : List ℕ) (cost : C) → row ≡ alone names 0 → Along row (record { t = 0; u = 0; cost = cost })
  along_none row cost e =
      let row_is = e ∙ alone_taken names 0 in
      let count : groups names - 1 ≡ length (left names row) = omega (arith, start grouped 0 (zero_stands grouped), ap (λ r. length (left names r)) row_is) in
      record {
        ordered = 0 ∷ [];
        row_is = row_is;
        zero = refl;
        goes_on =
            ap (λ k. order amount plus le price k names (alone names 0) (0 ∷ [])) count
            ∙ ap (λ r. order amount plus le price (length (left names row)) names r (0 ∷ [])) (sym e);
        last = refl;
        before = refl;
        own = λ l. absurd (omega (arith, count));
      }

  pub along_marks : (row : List ℕ) (line : Line C) → Along row line → marks row 0 ≡ true
  along_marks row line a =
      ap (λ r. marks r 0) a.row_is ∙ marks_marked (among a.ordered) names 0 (omega (arith, grouped.some, grouped.size))
      ∙ ap (among a.ordered) (first_name names grouped.named) ∙ a.zero

  -- one more ordered, one fewer left
  pub along_more : KindLaws plus le → (row next_row : List ℕ) (line v : Line C) → Along row line → ¬ (left names row ≡ []) →
      v ≡ candidate price names (next amount plus le price names row) → next_row ≡ added names row v.u →
      Along next_row (record { t = line.u; u = v.u; cost = v.cost }) × (length (left names next_row) < length (left names row))
  along_more laws row next_row line v a some ev er = (
    record {
      ordered = v.u ∷ a.ordered;
      row_is = next_is;
      zero = or_right _ _ a.zero;
      goes_on =
          a.goes_on
          ∙ ap (λ k. order amount plus le price k names row a.ordered) count
          ∙ sym (ap₂ (λ r x. order amount plus le price (length (left names next_row)) names r (x ∷ a.ordered)) (er ∙ ap (added names row) u) u);
      last = refl;
      before = a.last;
      own = λ _. ap (λ x. x.cost) ev ∙ ap (λ x. price (alone names x)) (sym u);
    },
    omega (arith, count),
  )
    where
      m : ℕ
      m = next amount plus le price names row

      u : v.u ≡ m
      u = ap (λ x. x.u) ev

      next_is : next_row ≡ taken names (v.u ∷ a.ordered)
      next_is = er ∙ ap (λ r. added names r v.u) a.row_is ∙ added_taken names a.ordered v.u

      count : length (left names row) ≡ suc (length (left names next_row))
      count =
          let chosen = (first_found (length names) (beats amount plus le price names row) (beats_rank amount plus le price laws names row) (left names row) some).0 in
          let out = out_left grouped a.ordered v.u (ap (λ r. among (left names r) v.u) (sym a.row_is) ∙ ap (among (left names row)) u ∙ chosen) in
          ap (λ r. length (left names r)) a.row_is ∙ fewer grouped a.ordered v.u out.0 out.1 ∙ ap (λ r. suc (length (left names r))) (sym next_is)

  pub along_all : (row : List ℕ) (line : Line C) → Along row line → left names row ≡ [] → 2 ≤ groups names → line ≡ line_of amount plus le price names whole
  along_all row line a e two =
      let none : length (left names row) ≡ 0 = ap length e in
      let done : whole ≡ a.ordered = a.goes_on ∙ ap (λ k. order amount plus le price k names row a.ordered) none in
      let t : line.t ≡ get_or whole 1 0 = a.before ∙ ap (λ us. get_or us 1 0) (sym done) in
      let u : line.u ≡ get_or whole 0 0 = a.last ∙ ap (λ us. get_or us 0 0) (sym done) in
      let cost : line.cost ≡ price (alone names (get_or whole 0 0)) = a.own (omega arith) ∙ ap (λ x. price (alone names x)) u in
      ap₂ (λ x y. record { t = x; u = y; cost = line.cost }) t u ∙ ap (λ x. record { t = get_or whole 1 0; u = get_or whole 0 0; cost = x }) cost
