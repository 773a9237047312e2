-- How a field's blanks and digits are read. Assumes nothing.
use Rattle.std.proofs.Common.{◌≡◌, ℕ, suc, ◌+◌, ◌-◌, ◌*◌, ◌^◌, ◌<◌, ◌≤◌, true, false, cond, ◌&&◌, ◌==◌, List, [], ◌∷◌, length, get_or, take, drop, refl, ap, arith}
use native.Mathlib.Nat.{pow-le-pow_right}
use Rattle.std.specs.Char.{is_ascii_digit}
use Rattle.std.specs.List.{list_all, prefix_len, take_while}
use Rattle.std.specs.Str.{all_ascii_digits}
use Rattle.std.proofs.lemmas.List.{at_drop_more, at_drop_all, take_rest}
use Rattle.columns.specs.Number.{unblank, value}
use Rattle.columns.proofs.Laws.{read_fits, read_field}

-- powers of ten, as far as a field's digits reach
pub power_small : (k : ℕ) → k ≤ 17 → 10 ^ k ≤ 100000000000000000
power_small k h = omega (arith, pow-le-pow_right {n = 10} (omega arith) h)

-- how the value goes on from each digit, and where it ends
pub value_more : (v k : ℕ) (ds : List ℕ) → k < length ds → value v (drop k ds) ≡ value (v * 10 + (get_or ds k 0 - 48)) (drop (k + 1) ds)
value_more v k ds within = at_drop_more (value v) ds k 0 within

pub value_ends : (v k : ℕ) (ds : List ℕ) → length ds ≤ k → value v (drop k ds) ≡ v
value_ends v k ds all = at_drop_all (value v) ds k all

-- how the test of the digits goes on
pub digits_more : (k : ℕ) (ds : List ℕ) → k < length ds → all_ascii_digits (drop k ds) ≡ (is_ascii_digit (get_or ds k 0) && all_ascii_digits (drop (k + 1) ds))
digits_more k ds within = at_drop_more all_ascii_digits ds k 0 within

-- what the loop over the digits needs
pub ruleset values = (power_small, value_more, value_ends, digits_more)

-- std's test of each byte in turn
pub all_digits_is : (ds : List ℕ) → list_all is_ascii_digit ds ≡ all_ascii_digits ds
all_digits_is [] = refl
all_digits_is (d ∷ ds) = ap (λ b. is_ascii_digit d && b) (all_digits_is ds)

-- what follows the blanks at the front
pub unblanked : (bs : List ℕ) → drop (length (take_while (λ b. b == 32) bs)) bs ≡ unblank bs
unblanked [] = refl
unblanked (b ∷ bs) =
    let p = prefix_len (λ x. x == 32) bs in
    let s : 1 + p ≡ suc p = omega arith in
    elim (b == 32) as (λ v. drop (length (take (cond v (1 + p) 0) (b ∷ bs))) (b ∷ bs) ≡ cond v (unblank bs) (b ∷ bs)) [ true ↦ rw s (unblanked bs) | false ↦ refl ]

-- what the reader needs: the piece is judged from its first byte on that is no blank, and what is read is what is written
pub ruleset reads = (unblanked, take_rest, read_fits, read_field)
