-- What is written is read back, what is read is what is written, and the bytes of a field. Assumes nothing.
use Rattle.std.proofs.Common.{◌≡◌, ℕ, zero, suc, ◌+◌, ◌-◌, ◌^◌, ◌<◌, ◌≤◌, Bool, true, ◌||◌, eqb, List, [], ◌∷◌, ◌++◌, length, get_or, replicate, Ok, decimal, sym, refl, ap, ◌∙◌, subst, ⊎_elim, arith, length-append, rules}
use lib.ListN.{length-replicate}
use Rattle.std.specs.Char.{is_ascii_digit}
use Rattle.std.specs.List.{AllByRecursion}
use Rattle.std.specs.Str.{all_ascii_digits}
use Rattle.std.proofs.lemmas.Fmt.{digits_decimal, digits_value-decimal, decimal_nonempty, first_decimal, decimal-digits_value, decimal_digit}
use Rattle.std.proofs.ByRecursion.{All-append}
use Rattle.std.proofs.lemmas.Str.Parse.{IsNumeralModel, numerals_by_fold, digits_value_short}
use Rattle.std.proofs.lemmas.Bool.{cases_Bool, cases_eq, cond-true, cond-false}
use Rattle.std.proofs.lemmas.Bool.Decides.{nat_tests}
use Rattle.columns.specs.Field.{field, fits, room}
use Rattle.columns.specs.Number.{judged, number, unblank, value}

own : IsNumeralModel (λ ds. all_ascii_digits ds ≡ true) (value 0)
own = numerals_by_fold _ (search rules) value (search rules)

-- the digits have room, one column stays blank, and no field has more than 19 columns
pub record Room (w n : ℕ) : Type 0 where
  pub blank : n < w
  pub narrow : w ≤ 19

has_room : (w n : ℕ) → 0 < n → n ≤ room w → Room w n
has_room w n some h = record { blank = grind (arith, nat_tests); narrow = grind (arith, nat_tests) }

takes_room : (w n : ℕ) → Room w n → n ≤ room w
takes_room w n h = let a = h.blank in let b = h.narrow in grind (arith, nat_tests)

pub fits_room : (w v : ℕ) → v < 2 ^ 64 → fits w v ≡ true → Room w (length (decimal v))
fits_room w v small h = has_room w (length (decimal v)) (decimal_nonempty v small) (grind (arith, nat_tests))

room_fits : (w v : ℕ) → Room w (length (decimal v)) → fits w v ≡ true
room_fits w v h = let k = takes_room w (length (decimal v)) h in grind (arith, nat_tests)

unblank_digits : (ds : List ℕ) → all_ascii_digits ds ≡ true → unblank ds ≡ ds
unblank_digits [] h = refl
unblank_digits (d ∷ ds) h = grind (arith, nat_tests)

unblank_pad : (k : ℕ) (ds : List ℕ) → unblank ds ≡ ds → unblank (replicate k 32 ++ ds) ≡ ds
unblank_pad zero ds h = h
unblank_pad (suc k) ds h = unblank_pad k ds h

-- the blanks at the front, and what follows them
record Padded (bs : List ℕ) : Type 0 where
  count : ℕ
  is : bs ≡ replicate count 32 ++ unblank bs
  long : length bs ≡ count + length (unblank bs)

padded : (bs : List ℕ) → Padded bs
padded [] = record { count = 0; is = refl; long = refl }
padded (b ∷ bs) =
    ⊎_elim
    (λ e.
    let p = padded bs in
    let u : unblank (b ∷ bs) ≡ unblank bs = cond-true (eqb b 32) (unblank bs) (b ∷ bs) e in
    let s : b ≡ 32 = grind (arith, nat_tests) in
    record { count = suc p.count; is = (λ i. s i ∷ p.is i) ∙ ap (λ x. replicate (suc p.count) 32 ++ x) (sym u); long = omega (arith, p.long, ap length u) })
    (λ e. let u : unblank (b ∷ bs) ≡ b ∷ bs = cond-false (eqb b 32) (unblank bs) (b ∷ bs) e in record { count = 0; is = sym u; long = omega (arith, ap length u) })
    (cases_Bool (eqb b 32))

-- a text that is read as a number
record Accepted (n : ℕ) (ds : List ℕ) (v : ℕ) : Type 0 where
  digits : all_ascii_digits ds ≡ true
  some : 0 < length ds
  first : get_or ds 0 0 ≡ 48 → length ds ≡ 1
  few : length ds ≤ n
  is : value 0 ds ≡ v

judged_ok : (n : ℕ) (ds : List ℕ) (v : ℕ) → Accepted n ds v → judged n ds ≡ Ok v
judged_ok n ds v h =
    let a = h.digits in
    let b = h.some in
    let c = h.first in
    let d = h.few in
    let e = h.is in
    grind (arith, nat_tests)

judged_parts : (n : ℕ) (ds : List ℕ) (v : ℕ) → judged n ds ≡ Ok v → Accepted n ds v
judged_parts n ds v h = record { digits = grind (arith, nat_tests); some = grind (arith, nat_tests); first = λ e. grind (arith, nat_tests); few = grind (arith, nat_tests); is = grind (arith, nat_tests) }

accepted_small : (n : ℕ) (ds : List ℕ) (v : ℕ) → length ds ≤ 18 → Accepted n ds v → v < 10 ^ 18
accepted_small n ds v few a = subst (λ x. x < 10 ^ 18) a.is (digits_value_short own ds 18 a.digits few)

-- a number that is read has at most 18 digits
pub read_small : (bs : List ℕ) (v : ℕ) → number bs ≡ Ok v → v < 10 ^ 18
read_small bs v e =
    let a = judged_parts (room (length bs)) (unblank bs) v e in
    let r = has_room (length bs) (length (unblank bs)) a.some a.few in
    accepted_small (room (length bs)) (unblank bs) v (omega (arith, r.blank, r.narrow)) a

decimal_first : (v : ℕ) → v < 2 ^ 64 → get_or (decimal v) 0 0 ≡ 48 → length (decimal v) ≡ 1
decimal_first v small e = ⊎_elim (λ z. ap length (ap decimal z ∙ decimal_digit 0 (omega arith))) (λ n. absurd (omega (arith, first_decimal v (omega arith) small))) (cases_eq v 0)

-- a field has as many bytes as columns
pub length_field : (w v : ℕ) → v < 2 ^ 64 → fits w v ≡ true → length (field w v) ≡ w
length_field w v small h = simp (length-append, length-replicate) (omega (arith, (fits_room w v small h).blank))

-- what is written is read back as the same number
pub written_reads_back : (w v : ℕ) → v < 2 ^ 64 → fits w v ≡ true → number (field w v) ≡ Ok v
written_reads_back w v small h =
    let r = fits_room w v small h in
    let ds = digits_decimal own v small in
    let u : unblank (field w v) ≡ decimal v = unblank_pad (w - length (decimal v)) (decimal v) (unblank_digits (decimal v) ds) in
    let l : length (field w v) ≡ w = length_field w v small h in
    (λ i. judged (room (l i)) (u i))
    ∙ judged_ok (room w) (decimal v) v (record { digits = ds; some = decimal_nonempty v small; first = decimal_first v small; few = takes_room w (length (decimal v)) r; is = digits_value-decimal own v small })

-- what is read as a number is the field that is written for it
pub read_is_written : (bs : List ℕ) (v : ℕ) → number bs ≡ Ok v → (fits (length bs) v ≡ true) × (bs ≡ field (length bs) v)
read_is_written bs v e =
    let a = judged_parts (room (length bs)) (unblank bs) v e in
    let p = padded bs in
    let r = has_room (length bs) (length (unblank bs)) a.some a.few in
    let small : value 0 (unblank bs) < 2 ^ 64 = omega (arith, accepted_small (room (length bs)) (unblank bs) v (omega (arith, r.blank, r.narrow)) a, a.is) in
    let d : decimal v ≡ unblank bs = subst (λ x. decimal x ≡ unblank bs) a.is (decimal-digits_value own (unblank bs) a.digits a.some a.first small) in
    let n : length bs - length (decimal v) ≡ p.count = omega (arith, p.long, ap length d) in
    (room_fits (length bs) v (subst (λ k. Room (length bs) k) (sym (ap length d)) r), p.is ∙ (λ i. replicate (sym n i) 32 ++ sym d i))

pub read_fits : (bs : List ℕ) (v : ℕ) → number bs ≡ Ok v → fits (length bs) v ≡ true
read_fits bs v e = (read_is_written bs v e).0

pub read_field : (bs : List ℕ) (v : ℕ) → number bs ≡ Ok v → bs ≡ field (length bs) v
read_field bs v e = (read_is_written bs v e).1

-- each byte of a field is a blank or a digit
abbrev pub plain : ℕ → Bool
plain b = eqb b 32 || is_ascii_digit b

plain_digits : (ds : List ℕ) → all_ascii_digits ds ≡ true → AllByRecursion (λ b. plain b ≡ true) ds
plain_digits [] h = tt
plain_digits (d ∷ ds) h = (grind (arith, nat_tests), plain_digits ds (grind (arith, nat_tests)))

plain_blanks : (k : ℕ) → AllByRecursion (λ b. plain b ≡ true) (replicate k 32)
plain_blanks zero = tt
plain_blanks (suc k) = (refl, plain_blanks k)

pub plain_field : (w v : ℕ) → v < 2 ^ 64 → AllByRecursion (λ b. plain b ≡ true) (field w v)
plain_field w v small = All-append (λ b. plain b ≡ true) (replicate (w - length (decimal v)) 32) (decimal v) (plain_blanks (w - length (decimal v))) (plain_digits (decimal v) (digits_decimal own v small))

-- so none of them ends a line
clean : (bs : List ℕ) → AllByRecursion (λ b. plain b ≡ true) bs → AllByRecursion (λ b. b ≡ 10 → ⊥) bs
clean [] h = tt
clean (b ∷ bs) h = let p = h.0 in (λ e. grind (arith, nat_tests), clean bs h.1)

pub clean_field : (w v : ℕ) → v < 2 ^ 64 → AllByRecursion (λ b. b ≡ 10 → ⊥) (field w v)
clean_field w v small = clean (field w v) (plain_field w v small)
