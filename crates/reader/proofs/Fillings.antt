-- Rows laid into tables fill their fronts with the content that the rows make. Assumes nothing.
use Rattle.std.proofs.Common.{◌≡◌, ℕ, ◌+◌, ◌-◌, ◌*◌, ◌%◌, ◌^◌, ◌<◌, ◌≤◌, Bool, true, false, cond, eqb, List, [], ◌∷◌, ◌++◌, length, get_or, drop, set, Ok, Err, Result, sym, refl, ap, ◌∙◌, subst, ap₂, ⊎_elim, mod-eq_of_lt, arith}
use Rattle.std.specs.List.{AllByRecursion}
use Rattle.std.proofs.ByRecursion.{All-weaker}
use Rattle.std.proofs.lemmas.Bool.{ltb-true}
use Rattle.std.proofs.lemmas.List.{append_assoc, drop_at, drop-drop, get_or_at, length-append, length-drop, length_push, set_at, take_at}
use Rattle.figure.specs.Content.{Content, State, start, sized, body, header_of, net_at, weld_of, with_bits, with_net, with_entries, with_row, with_weld, placed, stage_of, advanced}
use Rattle.figure.specs.Cut.{and_then}
use Rattle.figure.specs.Reading.{in_file, read_rows}
use Rattle.figure.specs.Rules.{letter_N, letter_C, letter_B, letter_W, range, rule, row_of}
use Rattle.figure.specs.Tables.{Tables, tables, over, filled}
use Rattle.figure.specs.declared.fault.RowFault.{RowFault}
use Rattle.figure.specs.declared.header.Header.{Header}
use Rattle.figure.specs.declared.stage.Stage.TheVariants.{Body}
use Rattle.figure.proofs.Growing.{letter_cases}
use Rattle.figure.proofs.Matrix.{shifted, column_fits, length_with_bits}
use Rattle.figure.proofs.Ranges.{In, outside_all}
use Rattle.figure.proofs.Rows.{Accepted}
use Rattle.figure.proofs.Sound.{Sound}
use Rattle.reader.specs.Answers.{set_from}
use Rattle.reader.specs.Laid.{add_bits, laid, moved, plus_bit, walked}
use Rattle.reader.proofs.SetFrom.{set_from_is}

-- the stage moves with the state
pub moved_is : (s : State) (l : ℕ) (vs : List ℕ) → moved (stage_of s) l vs ≡ stage_of (advanced s l vs)
moved_is start l vs = refl
moved_is (sized n) l vs = refl
moved_is (body c) l vs = ap Body (by (eqb l letter_N) (eqb l letter_C) (eqb l letter_B))
  where
    pins : length c.pins + (length vs - 1) ≡ length (c.pins ++ drop 1 vs)
    pins = ap (λ m. length c.pins + m) (sym (length-drop 1 vs)) ∙ sym (length-append c.pins (drop 1 vs))

    h : Header
    h = header_of c

    by : (n e b : Bool) → cond n (record h { nets = h.nets + 1; pins = h.pins + (length vs - 1) }) (cond e (record h { closeness = h.closeness + length vs }) (cond b (record h { rows = h.rows + 1 }) (record h { welds = h.welds + 1 })))
        ≡ header_of (cond n (with_net c vs) (cond e (with_entries c vs) (cond b (with_row c vs) (with_weld c vs))))
    by true e b = ap₂ (λ x y. record h { nets = x; pins = y }) (sym (length_push c.nets (net_at (length c.pins) vs))) pins
    by false true b = ap (λ x. record h { closeness = x }) (sym (length-append c.closeness vs))
    by false false true = refl
    by false false false = ap (λ x. record h { welds = x }) (sym (length_push c.welds (weld_of vs)))

-- the stage that the rows give is that of the state that they give
pub walked_is : (w top r : ℕ) (s : State) (ps : List (List ℕ)) → walked w top r (stage_of s) ps ≡ and_then (read_rows w top r s ps) (λ g. Ok (stage_of g))
walked_is w top r s [] = refl
walked_is w top r s ([] ∷ []) = refl
walked_is w top r s ((b ∷ t) ∷ []) = refl
walked_is w top r s (t ∷ p ∷ ps) = by (λ z. walked_is w top (r + 1) z (p ∷ ps)) (row_of w top r (stage_of s) t)
  where
    by : ((z : State) → walked w top (r + 1) (stage_of z) (p ∷ ps) ≡ and_then (read_rows w top (r + 1) z (p ∷ ps)) (λ g. Ok (stage_of g))) → (x : Result (ℕ × List ℕ) RowFault) → and_then (in_file x) (λ o. walked w top (r + 1) (moved (stage_of s) o.0 o.1) (p ∷ ps)) ≡ and_then (and_then (in_file x) (λ o. read_rows w top (r + 1) (advanced s o.0 o.1) (p ∷ ps))) (λ g. Ok (stage_of g))
    by on (Ok o) = ap (λ g. walked w top (r + 1) g (p ∷ ps)) (moved_is s o.0 o.1) ∙ on (advanced s o.0 o.1)
    by on (Err e) = refl

-- more elements over the front of a table
over_more : {X : Type 0} (xs ys t : List X) → length xs + length ys ≤ length t → set_from (length xs) ys (over xs t) ≡ over (xs ++ ys) t
over_more xs ys t room =
    let n = length xs in
    let rest = drop n t in
    let long : n + length ys ≤ length (over xs t) = omega (arith, length-append xs rest, length-drop n t) in
    let past : drop (n + length ys) (over xs t) ≡ drop (n + length ys) t = sym (drop-drop (length ys) n (over xs t)) ∙ ap (drop (length ys)) (drop_at xs rest n refl) ∙ drop-drop (length ys) n t in
    set_from_is n ys (over xs t) long
    ∙ ap₂ (λ a b. a ++ (ys ++ b)) (take_at xs rest n refl) (past ∙ ap (λ m. drop m t) (sym (length-append xs ys)))
    ∙ sym (append_assoc xs ys (drop (length (xs ++ ys)) t))

-- a bit is added without a carry
bit_added : (i c v : ℕ) → i < 64 → v ≤ 1 → c < 2 ^ i → plus_bit i c v ≡ c + v * 2 ^ i
bit_added i c v few one low =
    ap (λ m. (c + m) % 2 ^ 64) (mod-eq_of_lt (shifted i v few one)) ∙ mod-eq_of_lt (column_fits i c v few one low)

bits_laid : (i : ℕ) (front cs vs rest : List ℕ) → i < 64 → length cs ≡ length vs → AllByRecursion (λ c. c < 2 ^ i) cs → AllByRecursion (λ v. v ≤ 1) vs → add_bits i (length front) vs (front ++ (cs ++ rest)) ≡ front ++ (with_bits i cs vs ++ rest)
bits_laid i front [] [] rest few same low ones = refl
bits_laid i front [] (v ∷ vs) rest few same low ones = absurd (omega arith)
bits_laid i front (c ∷ cs) [] rest few same low ones = absurd (omega arith)
bits_laid i front (c ∷ cs) (v ∷ vs) rest few same low ones =
    let word = c + v * 2 ^ i in
    let at : plus_bit i (get_or (front ++ (c ∷ (cs ++ rest))) (length front) 0) v ≡ word = ap (λ x. plus_bit i x v) (get_or_at front c (cs ++ rest) 0 (length front) refl) ∙ bit_added i c v few ones.0 low.0 in
    let put : set (front ++ (c ∷ (cs ++ rest))) (length front) (plus_bit i (get_or (front ++ (c ∷ (cs ++ rest))) (length front) 0) v) ≡ (front ++ (word ∷ [])) ++ (cs ++ rest) =
    ap (set (front ++ (c ∷ (cs ++ rest))) (length front)) at ∙ set_at front c (cs ++ rest) word (length front) refl ∙ sym (append_assoc front (word ∷ []) (cs ++ rest)) in
    ap₂ (λ k x. add_bits i k vs x) (sym (length_push front word)) put
    ∙ bits_laid i (front ++ (word ∷ [])) cs vs rest few (omega arith) low.1 ones.1
    ∙ append_assoc front (word ∷ []) (with_bits i cs vs ++ rest)

-- the tables have room for the content
pub record Room (c : Content) (t : Tables) : Type 0 where
  pub nets : length c.nets ≤ length t.nets
  pub pins : length c.pins ≤ length t.pins
  pub closeness : length c.closeness ≤ length t.closeness
  pub columns : c.n ≤ length t.columns
  pub welds : length c.welds ≤ length t.welds

module _ (top : ℕ) (c : Content) (t : Tables) (s : Sound top c) (vs : List ℕ) where
  net_laid : Room (placed c letter_N vs) t → laid (header_of c) letter_N vs (filled c t) ≡ filled (placed c letter_N vs) t
  net_laid room =
      ap₂ (λ x y. tables x y (over c.closeness t.closeness) (over c.columns t.columns) (over c.welds t.welds))
      (over_more c.nets (net_at (length c.pins) vs ∷ []) t.nets (omega (arith, room.nets, length_push c.nets (net_at (length c.pins) vs))))
      (over_more c.pins (drop 1 vs) t.pins (omega (arith, room.pins, length-append c.pins (drop 1 vs))))

  entries_laid : Room (placed c letter_C vs) t → laid (header_of c) letter_C vs (filled c t) ≡ filled (placed c letter_C vs) t
  entries_laid room =
      ap (λ x. tables (over c.nets t.nets) (over c.pins t.pins) x (over c.columns t.columns) (over c.welds t.welds))
      (over_more c.closeness vs t.closeness (omega (arith, room.closeness, length-append c.closeness vs)))

  row_laid : Accepted top (Body (header_of c)) letter_B vs → laid (header_of c) letter_B vs (filled c t) ≡ filled (placed c letter_B vs) t
  row_laid a =
      let ones : AllByRecursion (λ v. v ≤ 1) vs = All-weaker (In (range 0 1)) (λ v. v ≤ 1) (λ v h. h.1) vs (outside_all (rule c.n c.n (range 0 1) (range 0 1)) vs refl a.ranges) in
      let same : length c.columns ≡ length vs = s.columns_all ∙ omega (arith, a.fewest, a.most) in
      ap (λ x. tables (over c.nets t.nets) (over c.pins t.pins) (over c.closeness t.closeness) x (over c.welds t.welds))
      (bits_laid c.rows [] c.columns vs (drop (length c.columns) t.columns) (ltb-true c.rows 64 a.room) same s.columns_in ones
      ∙ ap (λ m. with_bits c.rows c.columns vs ++ drop m t.columns) (sym (length_with_bits c.rows c.columns vs)))

  weld_laid : Room (placed c letter_W vs) t → laid (header_of c) letter_W vs (filled c t) ≡ filled (placed c letter_W vs) t
  weld_laid room =
      ap (λ x. tables (over c.nets t.nets) (over c.pins t.pins) (over c.closeness t.closeness) (over c.columns t.columns) x)
      (over_more c.welds (weld_of vs ∷ []) t.welds (omega (arith, room.welds, length_push c.welds (weld_of vs))))

  row_filled : (l : ℕ) → Accepted top (Body (header_of c)) l vs → Room (placed c l vs) t → laid (header_of c) l vs (filled c t) ≡ filled (placed c l vs) t
  row_filled l a room =
      ⊎_elim (λ e. at letter_N e (λ a. net_laid)) (⊎_elim (λ e. at letter_C e (λ a. entries_laid)) (⊎_elim (λ e. at letter_B e (λ a _. row_laid a)) (λ e. at letter_W e (λ a. weld_laid)))) (letter_cases (header_of c) l a.place)
    where
      at : (k : ℕ) → l ≡ k → (Accepted top (Body (header_of c)) k vs → Room (placed c k vs) t → laid (header_of c) k vs (filled c t) ≡ filled (placed c k vs) t) → laid (header_of c) l vs (filled c t) ≡ filled (placed c l vs) t
      at k e f = subst (λ x. Accepted top (Body (header_of c)) x vs → Room (placed c x vs) t → laid (header_of c) x vs (filled c t) ≡ filled (placed c x vs) t) (sym e) f a room
