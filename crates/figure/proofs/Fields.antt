-- The numbers in a row's fields: what is read is what is written, and what is written is read back. Assumes nothing.
use Rattle.std.proofs.Common.{◌≡◌, ℕ, zero, suc, ◌+◌, ◌-◌, ◌%◌, ◌^◌, ◌<◌, ◌≤◌, true, eqb, List, [], ◌∷◌, ◌++◌, map, length, take, drop, Ok, Err, sym, refl, ap, ◌∙◌, append_assoc, arith, length-append, length-drop}
use native.Mathlib.Nat.{zero-mod, add-mod_left, pow-le-pow_right}
use Rattle.std.specs.List.{flat_map, AllByRecursion}
use Rattle.std.proofs.lemmas.Fmt.{length-decimal-le}
use Rattle.std.proofs.ByRecursion.{All-append}
use Rattle.std.proofs.lemmas.List.{append-nil, take_at, drop_at, take-append-drop, length-take-le}
use Rattle.std.proofs.lemmas.Bool.{cond-true, eq-eqb}
use Rattle.std.proofs.lemmas.Bool.Decides.{nat_tests}
use Rattle.columns.specs.Field.{field, fits}
use Rattle.columns.specs.Number.{number}
use Rattle.columns.proofs.Laws.{length_field, written_reads_back, read_is_written, clean_field}
use Rattle.figure.specs.Cut.{and_then, cut, opened, in_row, numbers, pieces, pieces_by}
use Rattle.figure.specs.Writing.{row_text}
use Rattle.figure.specs.declared.fault.RowFault.TheVariants.{Length}
use Rattle.figure.proofs.Cutting.{Inside, cut_row, pieces_more, whole_first, whole_rest}
use Rattle.figure.proofs.Results.{ok_same, err_ok, and_then_parts, cond_parts, in_row_ok}

-- whole pieces of a list are as long as they should be, and give the list back
by_parts : (m w : ℕ) (xs : List ℕ) → 0 < w → length xs ≤ m → length xs % w ≡ 0 → AllByRecursion (λ p. length p ≡ w) (pieces_by m w xs) × (flat_map (λ p. p) (pieces_by m w xs) ≡ xs)
by_parts zero w [] some l e = (tt, refl)
by_parts zero w (x ∷ xs) some l e = absurd (omega arith)
by_parts (suc m) w [] some l e = (tt, refl)
by_parts (suc m) w (x ∷ xs) some l e =
    let le : w ≤ length (x ∷ xs) = whole_first (length (x ∷ xs)) w (omega arith) e in
    let d = length-drop w (x ∷ xs) in
    let rest = by_parts m w (drop w (x ∷ xs)) some (omega arith) (ap (λ n. n % w) d ∙ whole_rest (length (x ∷ xs)) w le e) in
    ((length-take-le w (x ∷ xs) le, rest.0), ap (λ y. take w (x ∷ xs) ++ y) rest.1 ∙ take-append-drop w (x ∷ xs))

-- the pieces that are read as numbers are their fields
numbers_parts : (w r k : ℕ) (vs acc : List ℕ) (ps : List (List ℕ)) → AllByRecursion (λ p. length p ≡ w) ps → numbers r k acc ps ≡ Ok vs → (us : List ℕ) × (vs ≡ acc ++ us) × (flat_map (λ p. p) ps ≡ flat_map (field w) us)
numbers_parts w r k vs acc [] long e = ([], sym (ok_same e) ∙ sym (append-nil acc), refl)
numbers_parts w r k vs acc (p ∷ ps) long e =
    let a = and_then_parts (in_row r k (number p)) (λ v. numbers r (k + 1) (acc ++ (v ∷ [])) ps) vs e in
    let one = read_is_written p a.0 (in_row_ok r k (number p) a.0 a.1) in
    let rest = numbers_parts w r (k + 1) vs (acc ++ (a.0 ∷ [])) ps long.1 a.2 in
    (a.0 ∷ rest.0, rest.1 ∙ append_assoc acc (a.0 ∷ []) rest.0, (λ i. (one.1 ∙ ap (λ n. field n a.0) long.0) i ++ rest.2 i))

-- whole fields that are read are the fields that are written
pub fields_read : (w r : ℕ) (rest vs : List ℕ) → 0 < w → length rest % w ≡ 0 → numbers r 1 [] (pieces w rest) ≡ Ok vs → rest ≡ flat_map (field w) vs
fields_read w r rest vs some whole e =
    let cuts = by_parts (length rest) w rest some (omega arith) whole in
    let read = numbers_parts w r 1 vs [] (pieces w rest) cuts.0 e in
    sym cuts.1 ∙ read.2 ∙ ap (flat_map (field w)) (sym read.1)

-- a row that is opened is a letter before whole fields
pub opened_parts : (w r : ℕ) (text : List ℕ) (o : ℕ × List ℕ) → opened w r text ≡ Ok o → (text ≡ o.0 ∷ o.1) × (length o.1 % w ≡ 0)
opened_parts w r [] o e = absurd (err_ok e)
opened_parts w r (l ∷ rest) o e =
    let a = cond_parts (eqb (length rest % w) 0) (Ok (l, rest)) (Length r) o e in
    let t = a.0 in
    let whole : length rest % w ≡ 0 = grind (arith, nat_tests) in
    let same : ◌≡◌ {A = ℕ × List ℕ} (l, rest) o = ok_same a.1 in
    (ap (λ (x : ℕ × List ℕ). x.0 ∷ x.1) same, ap (λ (x : ℕ × List ℕ). length x.1 % w) (sym same) ∙ whole)

-- a number that a field of w columns holds
abbrev pub Small : ℕ → ℕ → Type 0
Small w v = v < 10 ^ (w - 1)

module _ (w : ℕ) (low : 2 ≤ w) (high : w ≤ 19) where
  small_word : (v : ℕ) → Small w v → v < 2 ^ 64
  small_word v s = let le : w - 1 ≤ 18 = omega arith in omega (arith, pow-le-pow_right {n = 10} (omega arith) le)

  small_fits : (v : ℕ) → Small w v → fits w v ≡ true
  small_fits v s = let l = length-decimal-le (w - 1) v (omega arith) s (small_word v s) in grind (arith, nat_tests)

  wide : (v : ℕ) → Small w v → length (field w v) ≡ w
  wide v s = length_field w v (small_word v s) (small_fits v s)

  numbers_back : (r k : ℕ) (acc vs : List ℕ) → AllByRecursion (Small w) vs → numbers r k acc (map (field w) vs) ≡ Ok (acc ++ vs)
  numbers_back r k acc [] s = ap Ok (sym (append-nil acc))
  numbers_back r k acc (v ∷ vs) s =
      ap (λ x. and_then (in_row r k x) (λ u. numbers r (k + 1) (acc ++ (u ∷ [])) (map (field w) vs))) (written_reads_back w v (small_word v s.0) (small_fits v s.0))
      ∙ numbers_back r (k + 1) (acc ++ (v ∷ [])) vs s.1
      ∙ ap Ok (append_assoc acc (v ∷ []) vs)

  pieces_back : (vs : List ℕ) → AllByRecursion (Small w) vs → pieces w (flat_map (field w) vs) ≡ map (field w) vs
  pieces_back [] s = refl
  pieces_back (v ∷ vs) s =
      let l = wide v s.0 in
      pieces_more w (field w v ++ flat_map (field w) vs) (omega arith) (omega (arith, length-append (field w v) (flat_map (field w) vs)))
      ∙ (λ i. take_at (field w v) (flat_map (field w) vs) w l i ∷ (ap (pieces w) (drop_at (field w v) (flat_map (field w) vs) w l) ∙ pieces_back vs s.1) i)

  whole_back : (vs : List ℕ) → AllByRecursion (Small w) vs → length (flat_map (field w) vs) % w ≡ 0
  whole_back [] s = zero-mod w
  whole_back (v ∷ vs) s =
      ap (λ n. n % w) (length-append (field w v) (flat_map (field w) vs) ∙ ap (λ n. n + length (flat_map (field w) vs)) (wide v s.0))
      ∙ add-mod_left w (length (flat_map (field w) vs))
      ∙ whole_back vs s.1

  -- a letter before fields is opened
  pub opened_back : (r l : ℕ) (vs : List ℕ) → AllByRecursion (Small w) vs → opened w r (l ∷ flat_map (field w) vs) ≡ Ok (l, flat_map (field w) vs)
  opened_back r l vs s = cond-true (eqb (length (flat_map (field w) vs) % w) 0) (Ok (l, flat_map (field w) vs)) (Err (Length r)) (eq-eqb _ 0 (whole_back vs s))

  -- the fields that are written are read back
  pub fields_back : (r : ℕ) (vs : List ℕ) → AllByRecursion (Small w) vs → numbers r 1 [] (pieces w (flat_map (field w) vs)) ≡ Ok vs
  fields_back r vs s = ap (numbers r 1 []) (pieces_back vs s) ∙ numbers_back r 1 [] vs s

  fields_inside : (vs : List ℕ) → AllByRecursion (Small w) vs → AllByRecursion Inside (flat_map (field w) vs)
  fields_inside [] s = tt
  fields_inside (v ∷ vs) s = All-append Inside (field w v) (flat_map (field w) vs) (clean_field w v (small_word v s.0)) (fields_inside vs s.1)

  -- a row at the front of a text is its first piece
  pub cut_text : (l : ℕ) (vs rest : List ℕ) → Inside l → AllByRecursion (Small w) vs → cut (row_text w l vs ++ rest) ≡ (l ∷ flat_map (field w) vs) ∷ cut rest
  cut_text l vs rest i s = ap cut (append_assoc (l ∷ flat_map (field w) vs) (10 ∷ []) rest) ∙ cut_row (l ∷ flat_map (field w) vs) rest (i, fields_inside vs s)
