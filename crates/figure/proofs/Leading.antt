-- The file of a sound content leads the reader, row by row, to that content. Assumes nothing.
use Rattle.std.proofs.Common.{◌≡◌, ℕ, ◌+◌, ◌-◌, ◌^◌, ◌<◌, ◌≤◌, true, eqb, List, [], ◌∷◌, ◌++◌, get_or, refl, ap, ◌∙◌, subst, append_assoc, arith}
use native.Mathlib.Nat.{pow-le-pow_right}
use Rattle.std.specs.List.{flat_map, AllByRecursion}
use Rattle.std.proofs.ByRecursion.{All-weaker}
use Rattle.std.proofs.lemmas.Bool.{cond_both, false≢true}
use Rattle.columns.specs.Field.{field}
use Rattle.figure.specs.Content.{State, stage_of, advanced}
use Rattle.figure.specs.Cut.{and_then, cut}
use Rattle.figure.specs.Kinds.{kind_of, multipliers}
use Rattle.figure.specs.Reading.{in_file, read_rows}
use Rattle.figure.specs.Rules.{letter_N, letter_C, letter_B, in_place, rule_of}
use Rattle.figure.specs.Writing.{row_text}
use Rattle.figure.specs.declared.header.Kind.{Kind}
use Rattle.figure.specs.declared.header.Kind.TheVariants.{Nets, Closeness, Coder, Sum, Tie}
use Rattle.figure.specs.declared.rule.Rule.{Rule}
use Rattle.figure.specs.declared.stage.Stage.{Stage}
use Rattle.figure.specs.declared.stage.Stage.TheVariants.{Start, Sized, Body}
use Rattle.figure.proofs.Cutting.{Inside}
use Rattle.figure.proofs.Fields.{Small, cut_text}
use Rattle.figure.proofs.Ranges.{In, outside_in}
use Rattle.figure.proofs.Rows.{Accepted, row_back, read_more}

-- after the text the reader, which stood at s, stands at g
abbrev pub Leads : ℕ → ℕ → State → List ℕ → State → Type 0
Leads w top s text g = (r : ℕ) (rest : List ℕ) → (k : ℕ) × (read_rows w top r s (cut (text ++ rest)) ≡ read_rows w top k g (cut rest))

leads_none : (w top : ℕ) (s : State) → Leads w top s [] s
leads_none w top s = λ r rest. (r, refl)

leads_append : (w top : ℕ) (s g z : State) (t u : List ℕ) → Leads w top s t g → Leads w top g u z → Leads w top s (t ++ u) z
leads_append w top s g z t u a b = λ r rest.
    let one = a r (u ++ rest) in
    let two = b one.0 rest in
    (two.0, ap (λ x. read_rows w top r s (cut x)) (append_assoc t u rest) ∙ one.1 ∙ two.1)

leads_to : (w top : ℕ) (s g z : State) (t : List ℕ) → g ≡ z → Leads w top s t g → Leads w top s t z
leads_to w top s g z t e a = subst (Leads w top s t) e a

-- a row's letter is not what ends it
letter_inside : (s : Stage) (l : ℕ) → in_place s l ≡ true → Inside l
letter_inside s l t e = none s (subst (λ x. in_place s x ≡ true) e t)
  where
    none : (s : Stage) → in_place s 10 ≡ true → ⊥
    none Start h = false≢true h
    none (Sized n) h = false≢true h
    none (Body h) t = false≢true t

-- no more than 80 parts
abbrev Few : Stage → Type 0
Few Start = Unit
Few (Sized n) = Unit
Few (Body h) = h.n ≤ 80

multipliers_high : (kind : Kind) → (multipliers kind).high ≤ 1000
multipliers_high Nets = omega arith
multipliers_high Closeness = omega arith
multipliers_high Coder = omega arith
multipliers_high Sum = omega arith
multipliers_high Tie = omega arith

module _ (w top : ℕ) (low : 5 ≤ w) (high : w ≤ 19) (fits : top < 10 ^ (w - 1)) where
  abbrev Highs : Rule → Type 0
  Highs g = (g.first.high < 10 ^ (w - 1)) × (g.rest.high < 10 ^ (w - 1))

  thousand : 1000 < 10 ^ (w - 1)
  thousand = let le : 4 ≤ w - 1 = omega arith in omega (arith, pow-le-pow_right {n = 10} (omega arith) le)

  -- every range ends where a field still has room
  rule_highs : (s : Stage) (l : ℕ) (vs : List ℕ) → Few s → Highs (rule_of top s l vs)
  rule_highs Start l vs few = (omega (arith, thousand), omega (arith, thousand))
  rule_highs (Sized n) l vs few = (omega (arith, thousand), omega (arith, thousand, multipliers_high (kind_of (get_or vs 0 0))))
  rule_highs (Body h) l vs few =
      cond_both (eqb l letter_N) _ _ Highs (λ e. (fits, omega (arith, thousand)))
      (λ e. cond_both (eqb l letter_C) _ _ Highs (λ e. (fits, fits))
      (λ e. cond_both (eqb l letter_B) _ _ Highs (λ e. (omega (arith, thousand), omega (arith, thousand))) (λ e. (omega (arith, thousand), omega (arith, thousand)))))

  row_small : (s : Stage) (l : ℕ) (vs : List ℕ) → Few s → Accepted top s l vs → AllByRecursion (Small w) vs
  row_small s l [] few a = tt
  row_small s l (v ∷ vs) few a =
      let g = rule_of top s l (v ∷ vs) in
      let highs = rule_highs s l (v ∷ vs) few in
      let in_range = outside_in g v vs a.ranges in
      (omega (arith, highs.0, in_range.0.1), All-weaker (In g.rest) (Small w) (λ x h. omega (arith, highs.1, h.1)) vs in_range.1)

  -- the text of an accepted row leads on
  leads_row : (s : State) (l : ℕ) (vs : List ℕ) → Few (stage_of s) → Accepted top (stage_of s) l vs → Leads w top s (row_text w l vs) (advanced s l vs)
  leads_row s l vs few a = λ r rest.
      let small = row_small (stage_of s) l vs few a in (
        r + 1,
        ap (read_rows w top r s) (cut_text w (omega arith) high l vs rest (letter_inside (stage_of s) l a.place) small)
            ∙ read_more w top r s (l ∷ flat_map (field w) vs) rest
            ∙ ap (λ x. and_then (in_file x) (λ o. read_rows w top (r + 1) (advanced s o.0 o.1) (cut rest))) (row_back w top r (stage_of s) l vs (omega arith) high small a),
      )
