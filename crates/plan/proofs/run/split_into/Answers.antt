use Rattle.std.proofs.Common.{◌≡◌, ℕ, ◌-◌, List, take, IfOk, Ok, Result, sym, ap, ◌∙◌, subst, ap₂, subst₂, arith}
use Rattle.std.proofs.lemmas.List.{with_items_is}
use Rattle.cost.specs.declared.line.Line.{Line}
use Rattle.search.specs.Certificate.{Certified}
use Rattle.search.specs.Split.{split_answer, row_after, lines_after}
use Rattle.search.specs.declared.split.Split.{Split}
use Rattle.search.specs.declared.split.SplitFault.{SplitFault}
use Rattle.plan.specs.declared.call.Answer.{Answer}
use Rattle.plan.specs.declared.call.Answer.TheVariants as answer
use Rattle.plan.proofs.run.split_into.Goals as goal

accepted : {C : Type 0} (r : Result (Split C) SplitFault) (s : Split C) → ◌≡◌ {A = Answer C} (answer.Split r) (answer.Split (Ok s)) → r ≡ Ok s
accepted r s e = cc

pub returns : goal.returns
returns g c =
    let k = g.M.Cost.CostKind in
    let m = c.args.plan.now.measure in
    let n = g.M.Measure.count m in
    let price = g.M.Measure.price m in
    let names = c.args.plan.now.groups in
    let row = c.args.row.now in
    let lines = c.args.lines.now in
    let er = c.as_mut_slice-marks.ensures.value in
    let el = c.as_mut_slice-room.ensures.value in
    let e = c.split.ensures in
    let new_row = with_items_is row c.split.new.row (omega arith) in
    let new-lines = with_items_is lines c.split.new.lines (omega arith) in
    record {
      answer = ap answer.Split (e.answer ∙ ap₂ (λ (v : List ℕ) (w : List (Line g.row.M-Cost.Denot)). split_answer k.amount k.plus k.le price names n v w) er el);
      row = new_row ∙ e.row ∙ ap₂ (λ (v : List ℕ) (w : List (Line g.row.M-Cost.Denot)). row_after k.amount k.plus k.le price names n v w) er el;
      lines = new-lines ∙ e.lines ∙ ap₂ (λ (v : List ℕ) (w : List (Line g.row.M-Cost.Denot)). lines_after k.amount k.plus k.le price names n v w) er el;
      certified = λ s h.
          subst₂ (λ (v : List ℕ) (w : List (Line g.row.M-Cost.Denot)). Certified k.amount k.le price names v (take (s.groups - 1) w) s.cost) (sym new_row) (sym new-lines)
          (subst (λ r. IfOk r (λ s. Certified k.amount k.le price names c.split.new.row (take (s.groups - 1) c.split.new.lines) s.cost)) (accepted c.split.result s h) e.certified);
    }
