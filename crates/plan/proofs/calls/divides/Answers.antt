use Rattle.std.proofs.Common.{◌≡◌, ◌<◌, Bool, true, false, not, length, get_or, sym, ap, ◌∙◌, arith, below_more}
use mathlib.Core.Bool.{beq}
use Rattle.std.proofs.lemmas.Bool.Decides.{nat_tests}
use Rattle.measure.specs.Rows.{marks}
use Rattle.plan.proofs.Lowest.{divides_at, divides_nowhere}
use Rattle.plan.proofs.calls.divides.Goals as goal
use Rattle.plan.proofs.calls.divides.Goals.{in-Ok+else-mark-row, in_default}

apart : (a b : Bool) → not (beq a b) ≡ true → ¬ (a ≡ b)
apart true true h e = grind arith
apart true false h e = grind arith
apart false true h e = grind arith
apart false false h e = grind arith

alike : (a b : Bool) → not (beq a b) ≡ false → a ≡ b
alike true true h = grind arith
alike true false h = grind arith
alike false true h = grind arith
alike false false h = grind arith

pub returns-then-mark-row : goal.returns-then-mark-row
returns-then-mark-row c =
    let names = c.args.groups.now in
    let row = c.args.row.now in
    let answer = c.in-Ok.ensures.answer in
    let lowest = c.from.ensures in
    let within : c.loop-p.p < length names = omega arith in
    let name : c.from.result ≡ get_or names c.loop-p.p 0 = grind (arith, nat_tests, answer, lowest, within) in
    record { answer = sym (divides_at names row c.parts.ensures.named c.loop-p.p within (λ e. apart _ _ c.if-mark-row.true (e ∙ ap (marks row) (sym name)))) }

pub loop-p-preserved : goal.loop-p-preserved
loop-p-preserved c =
    let names = c.args.groups.now in
    let row = c.args.row.now in
    let p = c.loop-p.p in
    let within : p < length names = omega arith in
    below_more (λ k. marks row k ≡ marks row (get_or names k 0)) p c.loop-p.invariant
    (elim c.match-name.branch [
      | in-Ok+else-mark-row w ↦
          let name : w.from.result ≡ get_or names p 0 = let answer = w.in-Ok.ensures.answer in let lowest = w.from.ensures in grind (arith, nat_tests, answer, lowest, within) in
          alike _ _ w.if-mark-row.false ∙ ap (marks row) name
      | in_default w ↦ let answer = w.in_default.ensures.answer in grind (arith, nat_tests, answer, within)
    ])

pub returns : goal.returns
returns c =
    record { answer = sym (divides_nowhere c.args.groups.now c.args.row.now c.parts.ensures.named (λ k l. c.loop-p.invariant k (omega arith))) }
