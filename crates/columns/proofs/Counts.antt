-- How many digits a number has. Assumes nothing.
use Rattle.std.proofs.Common.{◌≡◌, ℕ, zero, suc, ◌+◌, ◌*◌, ◌/◌, ◌^◌, ◌<◌, ◌≤◌, max, length, decimal, ap, ◌∙◌, ⊎_elim, pow-suc, arith}
use Rattle.std.proofs.Math.Nat.{one-le-pow}
use Rattle.std.proofs.lemmas.List.{length_push}
use Rattle.std.proofs.lemmas.Fmt.{decimal_digit, decimal_step, decimal_nonempty, length-decimal-le}
use Rattle.std.proofs.lemmas.Bool.{cases_lt}

pub one_digit : (v : ℕ) → v < 10 → length (decimal v) ≡ 1
one_digit v h = ap length (decimal_digit v h)

pub digit_more : (v : ℕ) → 10 ≤ v → v < 2 ^ 64 → length (decimal v) ≡ length (decimal (v / 10)) + 1
digit_more v h k = ap length (decimal_step v h k) ∙ length_push (decimal (v / 10)) _

-- a number from the k-th power of ten on has more than k digits
more_digits : (k v : ℕ) → 10 ^ k ≤ v → v < 2 ^ 64 → k < length (decimal v)
more_digits zero v h small = decimal_nonempty v small
more_digits (suc k) v h small =
    let p : 10 ^ suc k ≡ 10 ^ k * 10 = rw pow-suc in
    let some = one-le-pow k 10 (omega arith) in
    omega (arith, digit_more v (omega arith) small, more_digits k (v / 10) (omega arith) (omega arith))

-- so the power of ten at or below a number gives how many it has; 0 has one, as 1 has
pub digits_by_power : (k v : ℕ) → 10 ^ k ≤ max v 1 → max v 1 < 10 * 10 ^ k → v < 2 ^ 64 → k + 1 ≡ length (decimal v)
digits_by_power k v low high small =
    let p : 10 ^ suc k ≡ 10 ^ k * 10 = rw pow-suc in
    let more = more_digits k (max v 1) low (omega arith) in
    let most = length-decimal-le (suc k) (max v 1) (omega arith) (omega arith) (omega arith) in
    ⊎_elim
    (λ z. let one : max v 1 ≡ 1 = omega arith in omega (arith, one_digit v (omega arith), ap (λ n. length (decimal n)) one, one_digit 1 (omega arith)))
    (λ n. let same : max v 1 ≡ v = omega arith in omega (arith, ap (λ n. length (decimal n)) same))
    (cases_lt v 1)
