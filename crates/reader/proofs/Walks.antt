-- The rows of a file, one after another. Assumes nothing.
use Rattle.std.proofs.Common.{◌≡◌, ℕ, ◌+◌, ◌<◌, ◌≤◌, List, ◌∷◌, length, Ok, Err, Result, sym, refl, ap, ◌∙◌, ap₂, arith}
use Rattle.figure.specs.Cut.{and_then, cut}
use Rattle.figure.specs.Reading.{in_file}
use Rattle.figure.specs.Rules.{row_of}
use Rattle.figure.specs.Tables.{Tables}
use Rattle.figure.specs.declared.fault.FileFault.{FileFault}
use Rattle.figure.specs.declared.fault.FileFault.TheVariants.{Row}
use Rattle.figure.specs.declared.fault.RowFault.{RowFault}
use Rattle.figure.specs.declared.stage.Stage.{Stage}
use Rattle.figure.specs.declared.stage.Stage.TheVariants.{Start}
use Rattle.figure.proofs.Cutting.{cut_cons}
use Rattle.reader.specs.Answers.{Few}
use Rattle.reader.specs.Lent.{Same}
use Rattle.reader.specs.declared.tables.Tables.{Tables as Lent}
use Rattle.reader.specs.Laid.{laid_at, laid_rows, moved, on_row, walked}

-- the same lent memory, after two steps
pub same_on : {a b c : Lent} → Same a b → Same b c → Same a c
same_on p q = record { nets = q.nets ∙ p.nets; pins = q.pins ∙ p.pins; closeness = q.closeness ∙ p.closeness; columns = q.columns ∙ p.columns; welds = q.welds ∙ p.welds }

module _ (w top : ℕ) where
  walked_more : (r : ℕ) (s : Stage) (t rest : List ℕ) → walked w top r s (t ∷ cut rest) ≡ and_then (in_file (row_of w top r s t)) (λ o. walked w top (r + 1) (moved s o.0 o.1) (cut rest))
  walked_more r s t rest = let c = cut_cons rest in rw c.2

  laid_more : (r : ℕ) (s : Stage) (p rest : List ℕ) (t : Tables) → laid_rows w top r s (p ∷ cut rest) t ≡ on_row (row_of w top r s p) t (λ o. laid_rows w top (r + 1) (moved s o.0 o.1) (cut rest) (laid_at s o.0 o.1 t))
  laid_more r s p rest t = let c = cut_cons rest in rw c.2

  -- before row r, with so much of the text left
  pub record Walking (bytes left : List ℕ) (r : ℕ) (s : Stage) (start now : Tables) : Type 0 where
    pub answer : walked w top r s (cut left) ≡ walked w top 1 Start (cut bytes)
    pub after : laid_rows w top r s (cut left) now ≡ laid_rows w top 1 Start (cut bytes) start
    pub few : Few s
    pub rows : r + length left ≤ length bytes + 1

  pub record Stopped (bytes : List ℕ) (start now : Tables) (answer : Result Stage FileFault) : Type 0 where
    pub is : answer ≡ walked w top 1 Start (cut bytes)
    pub after : now ≡ laid_rows w top 1 Start (cut bytes) start

  module _ (bytes left : List ℕ) (r : ℕ) (s : Stage) (start now : Tables) (k : Walking bytes left r s start now) where
    module _ (t rest : List ℕ) (first : cut left ≡ t ∷ cut rest) where
      on : walked w top 1 Start (cut bytes) ≡ and_then (in_file (row_of w top r s t)) (λ o. walked w top (r + 1) (moved s o.0 o.1) (cut rest))
      on = sym k.answer ∙ ap (walked w top r s) first ∙ walked_more r s t rest

      on_laid : laid_rows w top 1 Start (cut bytes) start ≡ on_row (row_of w top r s t) now (λ o. laid_rows w top (r + 1) (moved s o.0 o.1) (cut rest) (laid_at s o.0 o.1 now))
      on_laid = sym k.after ∙ ap (λ ps. laid_rows w top r s ps now) first ∙ laid_more r s t rest now

      -- what a row that is taken answers, and what it leaves in the tables
      abbrev stage_after : Result (ℕ × List ℕ) RowFault → Result Stage RowFault
      stage_after x = and_then x (λ o. Ok (moved s o.0 o.1))

      abbrev tables_after : Result (ℕ × List ℕ) RowFault → Tables
      tables_after x = on_row x now (λ o. laid_at s o.0 o.1 now)

      pub walked_stopped : (e : RowFault) (then : Tables) → Err e ≡ stage_after (row_of w top r s t) → then ≡ tables_after (row_of w top r s t) → Stopped bytes start then (Err (Row e))
      walked_stopped e then a b = by (row_of w top r s t) refl a
        where
          by : (x : Result (ℕ × List ℕ) RowFault) → row_of w top r s t ≡ x → Err e ≡ stage_after x → Stopped bytes start then (Err (Row e))
          by (Ok o) is a = absurd (let z : ◌≡◌ {A = ℕ} 0 1 = cc in omega arith)
          by (Err d) is a =
              let same : e ≡ d = (cc) in
              record {
                is = ap (λ (x : RowFault). Err (Row x)) same ∙ sym (on ∙ ap (λ x. and_then (in_file x) (λ o. walked w top (r + 1) (moved s o.0 o.1) (cut rest))) is);
                after = b ∙ ap tables_after is ∙ sym (on_laid ∙ ap (λ x. on_row x now (λ o. laid_rows w top (r + 1) (moved s o.0 o.1) (cut rest) (laid_at s o.0 o.1 now))) is);
              }

      pub walked_on : (g : Stage) (then : Tables) → length rest < length left → Few g → Ok g ≡ stage_after (row_of w top r s t) → then ≡ tables_after (row_of w top r s t) → Walking bytes rest (r + 1) g start then
      walked_on g then less few a b = by (row_of w top r s t) refl a
        where
          by : (x : Result (ℕ × List ℕ) RowFault) → row_of w top r s t ≡ x → Ok g ≡ stage_after x → Walking bytes rest (r + 1) g start then
          by (Ok o) is a =
              let same : g ≡ moved s o.0 o.1 = (cc) in
              record {
                answer = ap (λ x. walked w top (r + 1) x (cut rest)) same ∙ sym (on ∙ ap (λ x. and_then (in_file x) (λ o. walked w top (r + 1) (moved s o.0 o.1) (cut rest))) is);
                after =
                    ap₂ (λ x y. laid_rows w top (r + 1) x (cut rest) y) same (b ∙ ap tables_after is)
                    ∙ sym (on_laid ∙ ap (λ x. on_row x now (λ o. laid_rows w top (r + 1) (moved s o.0 o.1) (cut rest) (laid_at s o.0 o.1 now))) is);
                few = few;
                rows = omega (arith, k.rows);
              }
          by (Err d) is a = absurd (let z : ◌≡◌ {A = ℕ} 0 1 = cc in omega arith)
