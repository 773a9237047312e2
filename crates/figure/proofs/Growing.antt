-- A row that is read stands at the end of the file of what it makes. Assumes nothing.
use Rattle.std.proofs.Common.{◌≡◌, ℕ, zero, suc, ◌+◌, ◌-◌, ◌%◌, ◌^◌, ◌<◌, ◌≤◌, true, ◌&&◌, eqb, ltb, leb, ◌⊎◌, List, [], ◌∷◌, ◌++◌, length, replicate, Ok, sym, refl, ap, ◌∙◌, subst, inl, inr, ⊎_elim, append_assoc, arith, length-append}
use native.Mathlib.Nat.{zero-mod, add-mod_right}
use lib.ListN.{length-replicate}
use Rattle.std.specs.List.{flat_map, AllByRecursion}
use Rattle.std.proofs.ByRecursion.{All-append, All-weaker}
use Rattle.std.proofs.lemmas.List.{append-nil, flat_map_more, length_push, nil_from_length}
use Rattle.std.proofs.lemmas.Bool.{and_parts, cases_Bool, cond-false, eqb-true, leb-true, ltb-true}
use Rattle.std.proofs.lemmas.Bool.Decides.{nat_tests}
use Rattle.columns.specs.Field.{field}
use Rattle.figure.specs.Content.{Content, State, start, sized, body, header_of, net_at, weld_of, with_net, with_entries, with_row, with_weld, placed, stage_of, advanced}
use Rattle.figure.specs.Kinds.{kinds, kind_of, kind_number, multipliers}
use Rattle.figure.specs.Reading.{in_file, read_rows}
use Rattle.figure.specs.Rules.{letter_F, letter_M, letter_N, letter_C, letter_B, letter_W, in_place, range, rule, row_of}
use Rattle.figure.specs.Writing.{row_text, net_rows, entry_rows, matrix_rows, weld_rows, head_rows, file_of, follow}
use Rattle.figure.specs.declared.header.Header.{Header}
use Rattle.figure.specs.declared.header.Weld.{Weld}
use Rattle.figure.specs.declared.stage.Stage.TheVariants.{Start, Sized, Body}
use Rattle.figure.proofs.Cutting.{uncut}
use Rattle.figure.proofs.Entries.{entry_rows_more}
use Rattle.figure.proofs.Matrix.{length_with_bits, columns_more, matrix_rows_more}
use Rattle.figure.proofs.Nets.{Placed, follow_more, net_rows_more}
use Rattle.figure.proofs.Ranges.{In, outside_in, outside_all}
use Rattle.figure.proofs.Results.{ok_same, err_ok, and_then_parts, in_file_ok}
use Rattle.figure.proofs.Rows.{Accepted, row_parts}
use Rattle.figure.proofs.Sound.{Sound}

-- a text that grows at its end, after another text or before nothing
after : (a b c x : List ℕ) → c ≡ b ++ x → a ++ c ≡ (a ++ b) ++ x
after a b c x e = ap (λ t. a ++ t) e ∙ sym (append_assoc a b x)

before_nothing : (a b c x : List ℕ) → c ≡ [] → b ≡ a ++ x → b ++ c ≡ (a ++ c) ++ x
before_nothing a b c x z e = (λ i. e i ++ z i) ∙ append-nil (a ++ x) ∙ ap (λ t. t ++ x) (sym (append-nil a) ∙ ap (λ t. a ++ t) (sym z))

both_nothing : (a b : List ℕ) → a ≡ [] → b ≡ [] → a ++ b ≡ []
both_nothing a b y z = (λ i. y i ++ z i)

no_entries : (w n : ℕ) (entries : List ℕ) → eqb (length entries) 0 ≡ true → entry_rows w n entries ≡ []
no_entries w n entries t = ap (entry_rows w n) (nil_from_length entries (eqb-true (length entries) 0 t))

no_rows : (w rows : ℕ) (columns : List ℕ) → eqb rows 0 ≡ true → matrix_rows w rows columns ≡ []
no_rows w rows columns t = ap (λ r. matrix_rows w r columns) (eqb-true rows 0 t)

no_welds : (w : ℕ) (welds : List Weld) → eqb (length welds) 0 ≡ true → weld_rows w welds ≡ []
no_welds w welds t = ap (weld_rows w) (nil_from_length welds (eqb-true (length welds) 0 t))

-- the row makes g of c
pub record Grown (w top : ℕ) (c g : Content) (row : List ℕ) : Type 0 where
  pub text : file_of w g ≡ file_of w c ++ row
  pub sound : Sound top g

module _ (w top : ℕ) (c : Content) (s : Sound top c) where
  net_grown : (vs : List ℕ) → Accepted top (Body (header_of c)) letter_N vs → Grown w top c (with_net c vs) (row_text w letter_N vs)
  net_grown [] a = absurd (omega (arith, a.fewest))
  net_grown (v ∷ ps) a =
      let net = net_at (length c.pins) (v ∷ ps) in
      let empty = and_parts (eqb (length c.closeness) 0) (eqb c.rows 0 && eqb (length c.welds) 0) a.place in
      let empty' = and_parts (eqb c.rows 0) (eqb (length c.welds) 0) empty.1 in
      let in_range = outside_in (rule 2 81 (range 0 top) (range 0 (c.n - 1))) v ps a.ranges in
      let free = and_parts (ltb (length c.nets) 500) (leb (length c.pins + (length (v ∷ ps) - 1)) 4000) a.room in
      let placed : Placed top (length c.pins) net = record { light = in_range.0.1; at = refl; some = omega (arith, a.fewest); few = omega (arith, a.most) } in
      record {
        text = after (head_rows w c) _ _ _ (before_nothing (net_rows w c.nets c.pins) _ _ _
            (both_nothing _ _ (no_entries w c.n c.closeness empty.0) (both_nothing _ _ (no_rows w c.rows c.columns empty'.0) (no_welds w c.welds empty'.1)))
            (net_rows_more w top 0 c.nets (length c.pins) net c.pins ps s.nets_follow (omega arith) refl));
        sound = record {
          two = s.two;
          eighty = s.eighty;
          p_in = s.p_in;
          q_in = s.q_in;
          nets_few = omega (arith, length_push c.nets net, ltb-true (length c.nets) 500 free.0);
          pins_few = omega (arith, length-append c.pins ps, leb-true (length c.pins + (length (v ∷ ps) - 1)) 4000 free.1);
          rows_few = s.rows_few;
          welds_few = s.welds_few;
          nets_follow = subst (λ m. follow top 0 (c.nets ++ (net ∷ [])) m ≡ true) (sym (length-append c.pins ps)) (follow_more top 0 c.nets (length c.pins) net s.nets_follow placed);
          pins_in = All-append (λ x. x < c.n) c.pins ps s.pins_in (All-weaker (In (range 0 (c.n - 1))) (λ x. x < c.n) (λ x h. omega (arith, h.1, s.two)) ps in_range.1);
          table_rows = s.table_rows;
          table_in = s.table_in;
          columns_all = s.columns_all;
          columns_in = s.columns_in;
          welds_in = s.welds_in;
        };
      }

  entries_grown : (vs : List ℕ) → Accepted top (Body (header_of c)) letter_C vs → Grown w top c (with_entries c vs) (row_text w letter_C vs)
  entries_grown vs a =
      let empty = and_parts (eqb c.rows 0) (eqb (length c.welds) 0) a.place in
      let long : length vs ≡ c.n = omega (arith, a.fewest, a.most) in
      record {
        text = after (head_rows w c) _ _ _ (after (net_rows w c.nets c.pins) _ _ _ (before_nothing (entry_rows w c.n c.closeness) _ _ _
            (both_nothing _ _ (no_rows w c.rows c.columns empty.0) (no_welds w c.welds empty.1))
            (entry_rows_more w c.n c.closeness vs (omega (arith, s.two)) s.table_rows long)));
        sound = record {
          two = s.two;
          eighty = s.eighty;
          p_in = s.p_in;
          q_in = s.q_in;
          nets_few = s.nets_few;
          pins_few = s.pins_few;
          rows_few = s.rows_few;
          welds_few = s.welds_few;
          nets_follow = s.nets_follow;
          pins_in = s.pins_in;
          table_rows = ap (λ m. m % c.n) (length-append c.closeness vs ∙ ap (λ m. length c.closeness + m) long) ∙ add-mod_right (length c.closeness) c.n ∙ s.table_rows;
          table_in = All-append (λ v. v ≤ top) c.closeness vs s.table_in (All-weaker (In (range 0 top)) (λ v. v ≤ top) (λ v h. h.1) vs (outside_all (rule c.n c.n (range 0 top) (range 0 top)) vs refl a.ranges));
          columns_all = s.columns_all;
          columns_in = s.columns_in;
          welds_in = s.welds_in;
        };
      }

  row_grown : (vs : List ℕ) → Accepted top (Body (header_of c)) letter_B vs → Grown w top c (with_row c vs) (row_text w letter_B vs)
  row_grown vs a =
      let long : length c.columns ≡ length vs = omega (arith, a.fewest, a.most, s.columns_all) in
      let bits = All-weaker (In (range 0 1)) (λ v. v ≤ 1) (λ v h. h.1) vs (outside_all (rule c.n c.n (range 0 1) (range 0 1)) vs refl a.ranges) in
      record {
        text = after (head_rows w c) _ _ _ (after (net_rows w c.nets c.pins) _ _ _ (after (entry_rows w c.n c.closeness) _ _ _ (before_nothing (matrix_rows w c.rows c.columns) _ _ _
            (no_welds w c.welds a.place)
            (matrix_rows_more w c.rows c.columns vs long s.columns_in bits))));
        sound = record {
          two = s.two;
          eighty = s.eighty;
          p_in = s.p_in;
          q_in = s.q_in;
          nets_few = s.nets_few;
          pins_few = s.pins_few;
          rows_few = omega (arith, ltb-true c.rows 64 a.room);
          welds_few = s.welds_few;
          nets_follow = s.nets_follow;
          pins_in = s.pins_in;
          table_rows = s.table_rows;
          table_in = s.table_in;
          columns_all = length_with_bits c.rows c.columns vs ∙ s.columns_all;
          columns_in = columns_more c.rows c.columns vs long s.columns_in bits;
          welds_in = s.welds_in;
        };
      }

  weld_grown : (vs : List ℕ) → Accepted top (Body (header_of c)) letter_W vs → Grown w top c (with_weld c vs) (row_text w letter_W vs)
  weld_grown [] a = absurd (omega (arith, a.fewest))
  weld_grown (x ∷ []) a = absurd (omega (arith, a.fewest))
  weld_grown (x ∷ y ∷ z ∷ vs) a = absurd (omega (arith, a.most))
  weld_grown (x ∷ y ∷ []) a =
      let weld = weld_of (x ∷ y ∷ []) in
      let in_range = outside_in (rule 2 2 (range 0 (c.n - 1)) (range 0 (c.n - 1))) x (y ∷ []) a.ranges in
      record {
        text = after (head_rows w c) _ _ _ (after (net_rows w c.nets c.pins) _ _ _ (after (entry_rows w c.n c.closeness) _ _ _ (after (matrix_rows w c.rows c.columns) _ _ _
            (sym (flat_map_more (λ (e : Weld). row_text w letter_W (e.a ∷ e.b ∷ [])) [] c.welds weld)))));
        sound = record {
          two = s.two;
          eighty = s.eighty;
          p_in = s.p_in;
          q_in = s.q_in;
          nets_few = s.nets_few;
          pins_few = s.pins_few;
          rows_few = s.rows_few;
          welds_few = omega (arith, length_push c.welds weld, ltb-true (length c.welds) 200 a.room);
          nets_follow = s.nets_follow;
          pins_in = s.pins_in;
          table_rows = s.table_rows;
          table_in = s.table_in;
          columns_all = s.columns_all;
          columns_in = s.columns_in;
          welds_in = All-append (λ (e : Weld). (e.a < c.n) × (e.b < c.n)) c.welds (weld ∷ []) s.welds_in ((omega (arith, in_range.0.1, s.two), omega (arith, in_range.1.0.1, s.two)), tt);
        };
      }

-- the letters of the rows after the first two
pub letter_cases : (h : Header) (l : ℕ) → in_place (Body h) l ≡ true → (l ≡ letter_N) ⊎ ((l ≡ letter_C) ⊎ ((l ≡ letter_B) ⊎ (l ≡ letter_W)))
letter_cases h l t =
    ⊎_elim (λ e. inl (eqb-true l letter_N e))
    (λ a. inr (⊎_elim (λ e. inl (eqb-true l letter_C e))
    (λ b. inr (⊎_elim (λ e. inl (eqb-true l letter_B e))
    (λ d. inr (eqb-true l letter_W (sym (cond-false (eqb l letter_N) _ _ a ∙ cond-false (eqb l letter_C) _ _ b ∙ cond-false (eqb l letter_B) _ _ d) ∙ t)))
    (cases_Bool (eqb l letter_B))))
    (cases_Bool (eqb l letter_C))))
    (cases_Bool (eqb l letter_N))

-- an accepted row makes more of a sound content
pub body_grown : (w top : ℕ) (c : Content) (l : ℕ) (vs : List ℕ) → Sound top c → Accepted top (Body (header_of c)) l vs → Grown w top c (placed c l vs) (row_text w l vs)
body_grown w top c l vs s a =
    let at = λ (k : ℕ) (e : l ≡ k) (f : Accepted top (Body (header_of c)) k vs → Grown w top c (placed c k vs) (row_text w k vs)).
    subst (λ x. Accepted top (Body (header_of c)) x vs → Grown w top c (placed c x vs) (row_text w x vs)) (sym e) f a in
    ⊎_elim (λ e. at letter_N e (net_grown w top c s vs))
    (⊎_elim (λ e. at letter_C e (entries_grown w top c s vs))
    (⊎_elim (λ e. at letter_B e (row_grown w top c s vs)) (λ e. at letter_W e (weld_grown w top c s vs))))
    (letter_cases (header_of c) l a.place)

zeros_small : (n : ℕ) → AllByRecursion (λ v. v < 2 ^ 0) (replicate n 0)
zeros_small zero = tt
zeros_small (suc n) = (omega arith, zeros_small n)

kind_back : (k : ℕ) → In kinds k → kind_number (kind_of k) ≡ k
kind_back k h = let low = h.0 in let high = h.1 in grind (arith, nat_tests)

-- the text of the rows so far, and what they hold
abbrev pub Holds : ℕ → ℕ → State → List ℕ → Type 0
Holds w top start text = text ≡ []
Holds w top (sized n) text = (text ≡ row_text w letter_F (n ∷ [])) × In (range 2 80) n
Holds w top (body c) text = (text ≡ file_of w c) × Sound top c

sized_holds : (w top : ℕ) (text : List ℕ) (l : ℕ) (vs : List ℕ) → Holds w top start text → Accepted top Start l vs → Holds w top (advanced start l vs) (text ++ row_text w l vs)
sized_holds w top text l [] h a = absurd (omega (arith, a.fewest))
sized_holds w top text l (v ∷ u ∷ vs) h a = absurd (omega (arith, a.most))
sized_holds w top text l (v ∷ []) h a =
    ((λ i. h i ++ row_text w (eqb-true l letter_F a.place i) (v ∷ [])), (outside_in (rule 1 1 (range 2 80) (range 2 80)) v [] a.ranges).0)

opening_holds : (w top n : ℕ) (text : List ℕ) (l : ℕ) (vs : List ℕ) → Holds w top (sized n) text → Accepted top (Sized n) l vs → Holds w top (advanced (sized n) l vs) (text ++ row_text w l vs)
opening_holds w top n text l [] h a = absurd (omega (arith, a.fewest))
opening_holds w top n text l (k ∷ []) h a = absurd (omega (arith, a.fewest))
opening_holds w top n text l (k ∷ p ∷ []) h a = absurd (omega (arith, a.fewest))
opening_holds w top n text l (k ∷ p ∷ q ∷ v ∷ vs) h a = absurd (omega (arith, a.most))
opening_holds w top n text l (k ∷ p ∷ q ∷ []) h a =
    let in_range = outside_in (rule 3 3 kinds (multipliers (kind_of k))) k (p ∷ q ∷ []) a.ranges in (
      (λ i. h.0 i ++ row_text w (eqb-true l letter_M a.place i) (sym (kind_back k in_range.0) i ∷ p ∷ q ∷ [])) ∙ sym (append-nil _),
      record {
        two = h.1.0;
        eighty = h.1.1;
        p_in = in_range.1.0;
        q_in = in_range.1.1.0;
        nets_few = omega arith;
        pins_few = omega arith;
        rows_few = omega arith;
        welds_few = omega arith;
        nets_follow = refl;
        pins_in = tt;
        table_rows = zero-mod n;
        table_in = tt;
        columns_all = length-replicate n 0;
        columns_in = zeros_small n;
        welds_in = tt;
      },
    )

pub row_holds : (w top : ℕ) (s : State) (text : List ℕ) (l : ℕ) (vs : List ℕ) → Holds w top s text → Accepted top (stage_of s) l vs → Holds w top (advanced s l vs) (text ++ row_text w l vs)
row_holds w top start text l vs h a = sized_holds w top text l vs h a
row_holds w top (sized n) text l vs h a = opening_holds w top n text l vs h a
row_holds w top (body c) text l vs h a = let g = body_grown w top c l vs h.1 a in (ap (λ t. t ++ row_text w l vs) h.0 ∙ sym g.text, g.sound)

-- rows that are read are what their state holds
pub rows_hold : (w top r : ℕ) (s g : State) (text : List ℕ) (ps : List (List ℕ)) → 0 < w → Holds w top s text → read_rows w top r s ps ≡ Ok g → Holds w top g (text ++ uncut ps)
rows_hold w top r s g text [] some h e = subst (λ x. Holds w top x (text ++ [])) (ok_same e) (subst (Holds w top s) (sym (append-nil text)) h)
rows_hold w top r s g text ([] ∷ []) some h e = subst (λ x. Holds w top x (text ++ [])) (ok_same e) (subst (Holds w top s) (sym (append-nil text)) h)
rows_hold w top r s g text ((b ∷ t) ∷ []) some h e = absurd (err_ok e)
rows_hold w top r s g text (t ∷ p ∷ ps) some h e =
    let a = and_then_parts (in_file (row_of w top r (stage_of s) t)) (λ o. read_rows w top (r + 1) (advanced s o.0 o.1) (p ∷ ps)) g e in
    let l = a.0.0 in
    let vs = a.0.1 in
    let row = row_parts w top r (stage_of s) t a.0 some (in_file_ok (row_of w top r (stage_of s) t) a.0 a.1) in
    let rest = rows_hold w top (r + 1) (advanced s l vs) g (text ++ row_text w l vs) (p ∷ ps) some (row_holds w top s text l vs h row.1) a.2 in
    subst (Holds w top g)
    (append_assoc text (row_text w l vs) (uncut (p ∷ ps)) ∙ ap (λ x. text ++ x) (append_assoc (l ∷ flat_map (field w) vs) (10 ∷ []) (uncut (p ∷ ps)) ∙ ap (λ x. x ++ (10 ∷ uncut (p ∷ ps))) (sym row.0)))
    rest
