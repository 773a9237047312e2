-- The fields of a row, read from the left. Assumes nothing.
use Rattle.std.proofs.Common.{◌≡◌, ℕ, ◌+◌, ◌-◌, ◌*◌, ◌/◌, ◌%◌, ◌<◌, List, [], ◌∷◌, ◌++◌, length, take, drop, set, Ok, Err, sym, refl, ap, ◌∙◌, mod-eq_of_lt, add-one, suc-mul, zero-mul, arith, length-append}
use Rattle.std.proofs.Math.Nat.{mul-div_cancel}
use Rattle.std.proofs.lemmas.List.{drop_at, length_push, take_at}
use Rattle.columns.specs.Number.{number}
use Rattle.figure.specs.Cut.{and_then, in_row, numbers, pieces}
use Rattle.figure.specs.declared.fault.FieldRefusal.{FieldRefusal}
use Rattle.figure.specs.declared.fault.RowFault.TheVariants.{Field}
use Rattle.figure.proofs.Cutting.{pieces_more, pieces_none, whole_rest}
use Rattle.reader.specs.Answers.{Refuses, Kept, set_from}
use Rattle.reader.proofs.SetFrom.{set_from_push}

-- the numbers so far, and what is left of the fields
pub record Fielded (r w : ℕ) (rest left : List ℕ) (count : ℕ) (before table : List ℕ) : Type 0 where
  pub vs : List ℕ
  pub so_far : count ≡ length vs
  pub goes_on : numbers r (count + 1) vs (pieces w left) ≡ numbers r 1 [] (pieces w rest)
  pub kept : table ≡ set_from 0 vs before
  pub whole : length left % w ≡ 0
  pub passed : count * w + length left ≡ length rest

pub fielded_none : (r w : ℕ) (rest before : List ℕ) → length rest % w ≡ 0 → Fielded r w rest rest 0 before before
fielded_none r w rest before whole = record { vs = []; so_far = refl; goes_on = refl; kept = refl; whole = whole; passed = omega (arith, zero-mul w) }

module _ (r w : ℕ) (rest left : List ℕ) (count : ℕ) (before table piece after : List ℕ) (f : Fielded r w rest left count before table)
    (wide : 0 < w) (parts : left ≡ piece ++ after) (long : length piece ≡ w) where
  front : take w left ≡ piece
  front = ap (take w) parts ∙ take_at piece after w long

  back : drop w left ≡ after
  back = ap (drop w) parts ∙ drop_at piece after w long

  size : length left ≡ w + length after
  size = ap length parts ∙ length-append piece after ∙ ap (λ n. n + length after) long

  -- the next field is read
  pub fielded_more : (v : ℕ) → number piece ≡ Ok v → Fielded r w rest after (count + 1) before (set table count v)
  fielded_more v read =
      let left_long : length after ≡ length left - w = omega (arith, size) in
      let more : (count + 1) * w ≡ count * w + w = ap (λ n. n * w) (add-one count) ∙ suc-mul count w in
      record {
        vs = f.vs ++ (v ∷ []);
        so_far = ap (λ m. m + 1) f.so_far ∙ sym (length_push f.vs v);
        goes_on =
            ap (λ t. numbers r (count + 1 + 1) (f.vs ++ (v ∷ [])) (pieces w t)) (sym back)
            ∙ ap (λ x. and_then (in_row r (count + 1) x) (λ y. numbers r (count + 1 + 1) (f.vs ++ (y ∷ [])) (pieces w (drop w left)))) (sym read ∙ ap number (sym front))
            ∙ sym (ap (numbers r (count + 1) f.vs) (pieces_more w left wide (omega (arith, size))))
            ∙ f.goes_on;
        kept = ap (λ t. set t count v) f.kept ∙ ap (λ j. set (set_from 0 f.vs before) j v) (f.so_far ∙ omega arith) ∙ sym (set_from_push 0 f.vs v before);
        whole = ap (λ m. m % w) left_long ∙ whole_rest (length left) w (omega (arith, size)) f.whole;
        passed = omega (arith, f.passed, size);
      }

  -- the next field is refused
  pub fielded_stops : (e : FieldRefusal) → Refuses r (count + 1) (Err e) (number piece) → numbers r 1 [] (pieces w rest) ≡ Err (Field e)
  fielded_stops e refuses =
      sym f.goes_on
      ∙ ap (numbers r (count + 1) f.vs) (pieces_more w left wide (omega (arith, size)))
      ∙ ap (λ x. and_then (in_row r (count + 1) x) (λ y. numbers r (count + 1 + 1) (f.vs ++ (y ∷ [])) (pieces w (drop w left)))) (ap number front ∙ refuses.0)
      ∙ ap (λ p. Err (Field (record { place = p; cause = e.cause }))) (λ i. record { row = sym refuses.1 i; field = sym refuses.2 i })

-- no field is left
pub fielded_all : (r w : ℕ) (rest left : List ℕ) (count : ℕ) (before table : List ℕ) → Fielded r w rest left count before table → length left < w → Kept (Ok (length rest / w)) before table (numbers r 1 [] (pieces w rest))
fielded_all r w rest left count before table f short =
    let none : length left ≡ 0 = sym (mod-eq_of_lt short) ∙ f.whole in
    let all : length rest ≡ count * w = omega (arith, f.passed) in
    let many : length rest / w ≡ count = ap (λ n. n / w) all ∙ mul-div_cancel count (omega arith) in
    (f.vs, sym f.goes_on ∙ ap (numbers r (count + 1) f.vs) (pieces_none w left none), many ∙ f.so_far, f.kept)
