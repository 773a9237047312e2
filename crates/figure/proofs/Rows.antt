-- A row is accepted if its letter, its numbers and its room are right. Assumes nothing.
use Rattle.std.proofs.Common.{◌≡◌, ℕ, ◌+◌, ◌<◌, ◌≤◌, true, cond, ◌&&◌, leb, List, [], ◌∷◌, length, Some, None, Ok, Err, Option, refl, ap, ◌∙◌, subst}
use Rattle.std.specs.List.{flat_map, AllByRecursion}
use Rattle.std.proofs.lemmas.Bool.{and_from, and_parts, cond-true, le-leb, leb-true}
use Rattle.columns.specs.Field.{field}
use Rattle.figure.specs.Cut.{and_then, cut, opened, numbers, pieces}
use Rattle.figure.specs.Content.{State, stage_of, advanced}
use Rattle.figure.specs.Reading.{in_file, read_rows}
use Rattle.figure.specs.Rules.{in_place, rule_of, outside, ranged, judged, has_room, roomed, row_of}
use Rattle.figure.specs.declared.fault.RowFault.TheVariants.{Letter, Count, TooMany}
use Rattle.figure.specs.declared.rule.Rule.{Rule}
use Rattle.figure.specs.declared.stage.Stage.{Stage}
use Rattle.figure.proofs.Cutting.{cut_cons}
use Rattle.figure.proofs.Fields.{Small, fields_read, opened_parts, opened_back, fields_back}
use Rattle.figure.proofs.Results.{ok_same, err_ok, and_then_parts, cond_parts}

-- what a row's letter and numbers must be at a stage
pub record Accepted (top : ℕ) (s : Stage) (l : ℕ) (vs : List ℕ) : Type 0 where
  pub place : in_place s l ≡ true
  pub fewest : (rule_of top s l vs).fewest ≤ length vs
  pub most : length vs ≤ (rule_of top s l vs).most
  pub ranges : outside (rule_of top s l vs) vs ≡ None
  pub room : has_room s l (length vs) ≡ true

ranged_parts : (r : ℕ) (o : Option ℕ) (vs us : List ℕ) → ranged r o vs ≡ Ok us → (o ≡ None) × (vs ≡ us)
ranged_parts r None vs us e = (refl, ok_same e)
ranged_parts r (Some k) vs us e = absurd (err_ok e)

judged_parts : (r : ℕ) (rule : Rule) (vs us : List ℕ) → judged r rule vs ≡ Ok us → (rule.fewest ≤ length vs) × (length vs ≤ rule.most) × (outside rule vs ≡ None) × (vs ≡ us)
judged_parts r rule vs us e =
    let a = cond_parts (leb rule.fewest (length vs) && leb (length vs) rule.most) (ranged r (outside rule vs) vs) (Count r) us e in
    let b = and_parts (leb rule.fewest (length vs)) (leb (length vs) rule.most) a.0 in
    let c = ranged_parts r (outside rule vs) vs us a.1 in
    (leb-true rule.fewest (length vs) b.0, leb-true (length vs) rule.most b.1, c.0, c.1)

-- the numbers of a row whose letter is in place are judged, and have room
numbers_accepted : (top r : ℕ) (s : Stage) (l : ℕ) (vs : List ℕ) (o : ℕ × List ℕ) → in_place s l ≡ true → and_then (judged r (rule_of top s l vs) vs) (roomed r s l) ≡ Ok o → Accepted top s l vs × (◌≡◌ {A = ℕ × List ℕ} (l, vs) o)
numbers_accepted top r s l vs o place e =
    let a = and_then_parts (judged r (rule_of top s l vs) vs) (roomed r s l) o e in
    let b = judged_parts r (rule_of top s l vs) vs a.0 a.1 in
    let c = cond_parts (has_room s l (length a.0)) (Ok (l, a.0)) (TooMany r) o a.2 in (
      record { place = place; fewest = b.0; most = b.1; ranges = b.2; room = ap (λ x. has_room s l (length x)) b.3 ∙ c.0 },
      ap (λ x. (l, x)) b.3 ∙ ok_same c.1,
    )

-- an accepted row's text is its letter and its numbers
pub row_parts : (w top r : ℕ) (s : Stage) (text : List ℕ) (o : ℕ × List ℕ) → 0 < w → row_of w top r s text ≡ Ok o → (text ≡ o.0 ∷ flat_map (field w) o.1) × Accepted top s o.0 o.1
row_parts w top r s text o some e =
    let a = and_then_parts (opened w r text) (λ x. cond (in_place s x.0) (and_then (numbers r 1 [] (pieces w x.1)) (λ vs. and_then (judged r (rule_of top s x.0 vs) vs) (roomed r s x.0))) (Err (Letter r))) o e in
    let split = opened_parts w r text a.0 a.1 in
    let b = cond_parts (in_place s a.0.0) (and_then (numbers r 1 [] (pieces w a.0.1)) (λ vs. and_then (judged r (rule_of top s a.0.0 vs) vs) (roomed r s a.0.0))) (Letter r) o a.2 in
    let c = and_then_parts (numbers r 1 [] (pieces w a.0.1)) (λ vs. and_then (judged r (rule_of top s a.0.0 vs) vs) (roomed r s a.0.0)) o b.1 in
    let d = numbers_accepted top r s a.0.0 c.0 o b.0 c.2 in
    subst (λ (x : ℕ × List ℕ). (text ≡ x.0 ∷ flat_map (field w) x.1) × Accepted top s x.0 x.1) d.1
    (split.0 ∙ ap (λ x. a.0.0 ∷ x) (fields_read w r a.0.1 c.0 some split.1 c.1), d.0)

-- the text of an accepted row is read as that row
pub row_back : (w top r : ℕ) (s : Stage) (l : ℕ) (vs : List ℕ) → 2 ≤ w → w ≤ 19 → AllByRecursion (Small w) vs → Accepted top s l vs → row_of w top r s (l ∷ flat_map (field w) vs) ≡ Ok (l, vs)
row_back w top r s l vs low high small a =
    let rule = rule_of top s l vs in
    ap (λ x. and_then x (λ o. cond (in_place s o.0) (and_then (numbers r 1 [] (pieces w o.1)) (λ us. and_then (judged r (rule_of top s o.0 us) us) (roomed r s o.0))) (Err (Letter r)))) (opened_back w low high r l vs small)
    ∙ cond-true (in_place s l) _ _ a.place
    ∙ ap (λ x. and_then x (λ us. and_then (judged r (rule_of top s l us) us) (roomed r s l))) (fields_back w low high r vs small)
    ∙ ap (λ x. and_then x (roomed r s l)) (cond-true (leb rule.fewest (length vs) && leb (length vs) rule.most) (ranged r (outside rule vs) vs) (Err (Count r)) (and_from _ _ (le-leb _ _ a.fewest) (le-leb _ _ a.most)) ∙ ap (λ o. ranged r o vs) a.ranges)
    ∙ cond-true (has_room s l (length vs)) (Ok (l, vs)) (Err (TooMany r)) a.room

-- one row and what follows it
pub read_more : (w top r : ℕ) (s : State) (t rest : List ℕ) → read_rows w top r s (t ∷ cut rest) ≡ and_then (in_file (row_of w top r (stage_of s) t)) (λ o. read_rows w top (r + 1) (advanced s o.0 o.1) (cut rest))
read_more w top r s t rest = let c = cut_cons rest in rw c.2
