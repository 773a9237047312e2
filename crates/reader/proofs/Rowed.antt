-- One row of a file. Assumes nothing.
use Rattle.std.proofs.Common.{◌≡◌, ℕ, ◌≤◌, Bool, true, false, cond, ◌&&◌, leb, List, [], length, take, Some, None, Ok, Err, Option, Result, sym, refl, ap, ◌∙◌, arith}
use Rattle.std.proofs.lemmas.Bool.{cond-true}
use Rattle.figure.specs.Cut.{and_then, opened, numbers, pieces}
use Rattle.figure.specs.Rules.{in_place, rule_of, outside, ranged, judged, has_room, roomed, row_of}
use Rattle.figure.specs.declared.fault.RowFault.{RowFault}
use Rattle.figure.specs.declared.fault.RowFault.TheVariants.{Letter, Count}
use Rattle.figure.specs.declared.rule.Rule.{Rule}
use Rattle.figure.specs.declared.stage.Stage.{Stage}
use Rattle.reader.specs.Answers.{Kept, forget}
use Rattle.reader.proofs.SetFrom.{front_kept}

module _ (w top r : ℕ) (s : Stage) (t : List ℕ) where
  -- what follows the letter
  abbrev lettered : ℕ × List ℕ → Result (ℕ × List ℕ) RowFault
  lettered o = cond (in_place s o.0) (and_then (numbers r 1 [] (pieces w o.1)) (λ vs. and_then (judged r (rule_of top s o.0 vs) vs) (roomed r s o.0))) (Err (Letter r))

  module _ (l : ℕ) (rest : List ℕ) (open_is : opened w r t ≡ Ok (l, rest)) where
    -- in place, the numbers decide
    abbrev numbered : Result (List ℕ) RowFault → Result (ℕ × List ℕ) RowFault
    numbered o = and_then o (λ vs. and_then (judged r (rule_of top s l vs) vs) (roomed r s l))

    in_its_place : in_place s l ≡ true → row_of w top r s t ≡ numbered (numbers r 1 [] (pieces w rest))
    in_its_place h = ap (λ o. and_then o lettered) open_is ∙ cond-true (in_place s l) _ _ h

    module _ (placed : in_place s l ≡ true) (vs : List ℕ) (read : numbers r 1 [] (pieces w rest) ≡ Ok vs) where
      decided : row_of w top r s t ≡ and_then (judged r (rule_of top s l vs) vs) (roomed r s l)
      decided = in_its_place placed ∙ ap numbered read

      pub not_met : (e : RowFault) → Err e ≡ forget (and_then (judged r (rule_of top s l vs) vs) (roomed r s l)) → row_of w top r s t ≡ Err e
      not_met e h = decided ∙ forgot (and_then (judged r (rule_of top s l vs) vs) (roomed r s l)) e h
        where
          forgot : {X : Type 0} (x : Result X RowFault) (e : RowFault) → Err e ≡ forget x → x ≡ Err e
          forgot (Ok y) e h = absurd (let z : ◌≡◌ {A = ℕ} 0 1 = cc in omega arith)
          forgot (Err d) e h = (cc)

      pub met : Ok tt ≡ forget (and_then (judged r (rule_of top s l vs) vs) (roomed r s l)) → row_of w top r s t ≡ Ok (l, vs)
      met h = decided ∙ whole (judged r (rule_of top s l vs) vs) refl h
        where
          ranged_same : (k : Option ℕ) (us : List ℕ) → ranged r k vs ≡ Ok us → us ≡ vs
          ranged_same None us h = (cc)
          ranged_same (Some k) us h = absurd (let z : ◌≡◌ {A = ℕ} 0 1 = cc in omega arith)

          judged_same : (rule : Rule) (us : List ℕ) → judged r rule vs ≡ Ok us → us ≡ vs
          judged_same rule us h = counted (leb rule.fewest (length vs) && leb (length vs) rule.most) h
            where
              counted : (b : Bool) → cond b (ranged r (outside rule vs) vs) (Err (Count r)) ≡ Ok us → us ≡ vs
              counted true h = ranged_same (outside rule vs) us h
              counted false h = absurd (let z : ◌≡◌ {A = ℕ} 0 1 = cc in omega arith)

          with_room : (b : Bool) (e : RowFault) → Ok tt ≡ forget {X = ℕ × List ℕ} (cond b (Ok (l, vs)) (Err e)) → cond {A = Result (ℕ × List ℕ) RowFault} b (Ok (l, vs)) (Err e) ≡ Ok (l, vs)
          with_room true e h = refl
          with_room false e h = absurd (let z : ◌≡◌ {A = ℕ} 0 1 = cc in omega arith)

          whole : (x : Result (List ℕ) RowFault) → judged r (rule_of top s l vs) vs ≡ x → Ok tt ≡ forget (and_then x (roomed r s l)) → and_then x (roomed r s l) ≡ Ok (l, vs)
          whole (Ok us) e h =
              let same : us ≡ vs = judged_same (rule_of top s l vs) us e in
              ap (roomed r s l) same ∙ with_room (has_room s l (length vs)) _ (h ∙ ap (λ x. forget (roomed r s l x)) same)
          whole (Err d) e h = absurd (let z : ◌≡◌ {A = ℕ} 0 1 = cc in omega arith)

    -- the numbers as the table keeps them decide
    module _ (placed : in_place s l ≡ true) (m k : ℕ) (before after : List ℕ) (kept : Kept (Ok m) before after (numbers r 1 [] (pieces w rest))) (room : m ≤ length before) (same : k ≡ m) where
      front : take m after ≡ kept.0
      front = ap (λ k. take k after) kept.2 ∙ ap (take (length kept.0)) kept.3 ∙ front_kept kept.0 before (omega (arith, kept.2))

      read : numbers r 1 [] (pieces w rest) ≡ Ok (take k after)
      read = kept.1 ∙ ap Ok (sym front ∙ ap (λ j. take j after) (sym same))

      pub kept_not_met : (e : RowFault) → Err e ≡ forget (and_then (judged r (rule_of top s l (take k after)) (take k after)) (roomed r s l)) → row_of w top r s t ≡ Err e
      kept_not_met = not_met placed (take k after) read

      pub kept_met : (u : Unit {0}) → Ok u ≡ forget (and_then (judged r (rule_of top s l (take k after)) (take k after)) (roomed r s l)) → row_of w top r s t ≡ Ok (l, take m after)
      kept_met u h = met placed (take k after) read h ∙ ap (λ j. Ok (l, take j after)) same
