-- What the steps of a split come to. Assumes nothing.
use Rattle.std.proofs.Common.{◌≡◌, ℕ, ◌-◌, ◌≤◌, Bool, List, ◌++◌, length, get_or, take, sym, ap, ◌∙◌, subst, ap₂}
use Rattle.std.proofs.lemmas.List.{take_at}
use Rattle.cost.specs.Earliest.{earliest}
use Rattle.cost.specs.Kind.{KindLaws}
use Rattle.cost.specs.Lines.{line_le}
use Rattle.cost.specs.declared.line.Line.{Line}
use Rattle.measure.specs.Laws.{MeasureLaws}
use Rattle.partition.specs.Names.{groups}
use Rattle.search.specs.Certificate.{Certified}
use Rattle.search.specs.Phases.{lines_of, side_at}
use Rattle.search.specs.Split.{best_line, best_side, found}
use Rattle.search.specs.declared.split.Split.{Split}
use Rattle.search.proofs.Certified.{length_phases, holds_cost, certified}
use Rattle.search.proofs.Names.{Grouped}

module _ {C X : Type 0} (amount : C → X) (plus : X → X → X) (le : X → X → Bool) (price : List ℕ → C)
    (laws : KindLaws plus le) {n : ℕ} (top : X) (measure : MeasureLaws plus le n (λ row. amount (price row)) top)
    (names : List ℕ) (grouped : Grouped n names) (two : 2 ≤ groups names) where
  abbrev all : List (Line C)
  all = lines_of amount plus le price names

  -- where the lines are the defined ones, the answer is the defined one, and the certificate holds, whatever follows the lines
  pub record Whole (lines : List (Line C)) (row : List ℕ) (answer : Split C) : Type 0 where
    pub answer_is : answer ≡ found amount plus le price names
    pub row_is : row ≡ best_side amount plus le price names
    pub certificate : (rest : List (Line C)) → Certified amount le price names row (take (answer.groups - 1) (lines ++ rest)) answer.cost

  pub whole_split : (lines : List (Line C)) (standing best : ℕ) (row : List ℕ) (d : Line C) → lines ≡ all → groups names ≡ standing → best ≡ earliest (line_le amount le) lines →
      row ≡ side_at (best - 1) lines names → Whole lines row (record { cost = (get_or lines (best - 1) d).cost; groups = standing; best = best })
  whole_split lines standing best row d el es eb er = record {
    answer_is = let e = cost_is in let f = sym es in let h = best_is in cc;
    row_is = row_is;
    certificate = λ rest.
        subst (λ ls. Certified amount le price names row ls cost) (sym (take_at lines rest (standing - 1) long))
        (subst (λ r. Certified amount le price names r lines cost) (sym row_is)
        (subst (λ ls. Certified amount le price names (best_side amount plus le price names) ls cost) (sym el)
        (subst (Certified amount le price names (best_side amount plus le price names) all) (sym cost_is)
        (certified amount plus le price laws top measure names grouped two))));
  }
    where
      best_is : best ≡ best_line amount plus le price names
      best_is = eb ∙ ap (earliest (line_le amount le)) el

      row_is : row ≡ best_side amount plus le price names
      row_is = er ∙ ap₂ (λ k ls. side_at (k - 1) ls names) best_is el

      long : length lines ≡ standing - 1
      long = ap length el ∙ length_phases amount plus le price laws top measure (groups names - 1) names ∙ ap (λ k. k - 1) es

      cost : C
      cost = (get_or lines (best - 1) d).cost

      cost_is : cost ≡ price (best_side amount plus le price names)
      cost_is =
          ap₂ (λ k ls. (get_or ls (k - 1) d).cost) best_is el
          ∙ sym (holds_cost amount plus le price laws top measure names grouped two d)
