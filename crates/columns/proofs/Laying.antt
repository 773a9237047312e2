-- A field's last column, and what stands before it. Assumes nothing.
use Rattle.std.proofs.Common.{◌≡◌, ℕ, ◌+◌, ◌-◌, ◌/◌, ◌%◌, ◌^◌, ◌<◌, ◌≤◌, List, [], ◌∷◌, ◌++◌, length, take, drop, set, replicate, decimal, sym, ap, ◌∙◌, arith, length-set}
use Rattle.std.proofs.lemmas.Fmt.{decimal_digit, decimal_nonempty, decimal_step}
use Rattle.std.proofs.lemmas.List.{append_assoc, drop_all, drop-set, length-take-le}
use Rattle.columns.specs.Field.{field}
use Rattle.columns.proofs.Counts.{digit_more}

-- before the last digit of a number there is the field of what is left of it, or blanks
field_one : (n v : ℕ) → v < 10 → field n v ≡ replicate (n - 1) 32 ++ ((48 + v % 10) ∷ [])
field_one n v low = let m : v % 10 ≡ v = omega arith in rw (decimal_digit v low, m)

field_more : (n v : ℕ) → 10 ≤ v → v < 2 ^ 64 → field n v ≡ field (n - 1) (v / 10) ++ ((48 + v % 10) ∷ [])
field_more n v high small =
    let front = decimal (v / 10) in
    let d = decimal_step v high small in
    let w : n - length (decimal v) ≡ n - 1 - length front = omega (arith, digit_more v high small) in
    (λ i. replicate (w i) 32 ++ d i) ∙ sym (append_assoc (replicate (n - 1 - length front) 32) front ((48 + v % 10) ∷ []))

-- the columns xs, whose last one is set, and those before it
module _ (xs : List ℕ) (b : ℕ) (some : 0 < length xs) where
  pub front_length : length (take (length xs - 1) (set xs (length xs - 1) b)) ≡ length xs - 1
  front_length = length-take-le (length xs - 1) (set xs (length xs - 1) b) (omega (arith, length-set xs (length xs - 1) b))

  last_set : drop (length xs - 1) (set xs (length xs - 1) b) ≡ b ∷ []
  last_set = drop-set xs (length xs - 1) b (omega arith) ∙ ap (λ bs. b ∷ bs) (drop_all (length xs - 1 + 1) xs (omega arith))

module _ (xs front : List ℕ) (v : ℕ) (some : 0 < length xs) where
  pub laid_one : v < 10 → front ≡ replicate (length (take (length xs - 1) (set xs (length xs - 1) (48 + v % 10)))) 32 → front ++ drop (length xs - 1) (set xs (length xs - 1) (48 + v % 10)) ≡ field (length xs) v
  laid_one low e =
      (λ i. (e ∙ ap (λ n. replicate n 32) (front_length xs (48 + v % 10) some)) i ++ last_set xs (48 + v % 10) some i) ∙ sym (field_one (length xs) v low)

  pub laid_more : 10 ≤ v → v < 2 ^ 64 → front ≡ field (length (take (length xs - 1) (set xs (length xs - 1) (48 + v % 10)))) (v / 10) → front ++ drop (length xs - 1) (set xs (length xs - 1) (48 + v % 10)) ≡ field (length xs) v
  laid_more high small e =
      (λ i. (e ∙ ap (λ n. field n (v / 10)) (front_length xs (48 + v % 10) some)) i ++ last_set xs (48 + v % 10) some i) ∙ sym (field_more (length xs) v high small)

-- what the digit writer needs
pub ruleset lays = (decimal_nonempty, digit_more, front_length, laid_one, laid_more)
