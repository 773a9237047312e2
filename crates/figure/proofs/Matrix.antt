-- The rows of a matrix as the bits of its columns. Assumes nothing.
use Rattle.std.proofs.Common.{◌≡◌, ℕ, zero, suc, ◌+◌, ◌-◌, ◌*◌, ◌/◌, ◌%◌, ◌^◌, ◌<◌, ◌≤◌, List, [], ◌∷◌, ◌++◌, map, length, get_or, replicate, sym, refl, ap, ◌∙◌, map-id, mul-le-mul_right, mod-eq_of_lt, mul_assoc, add_comm, one-mul, arith, pow-add}
use native.Mathlib.Nat.{add-mul-mod_self_right, pow-le-pow_right, mod-one}
use lib.Pow.{pow-lt, high, field, mod-pow-add}
use Rattle.std.specs.List.{range_with_len, flat_map, AllByRecursion}
use Rattle.std.proofs.lemmas.List.FromFn.{map-range_with_len_more}
use Rattle.std.proofs.lemmas.List.{flat_map_more}
use Rattle.figure.specs.Content.{with_bits}
use Rattle.figure.specs.Rules.{letter_B}
use Rattle.figure.specs.Writing.{row_text, bits_of, matrix_rows}

pub length_with_bits : (i : ℕ) (cs vs : List ℕ) → length (with_bits i cs vs) ≡ length cs
length_with_bits i [] vs = refl
length_with_bits i (c ∷ cs) [] = refl
length_with_bits i (c ∷ cs) (v ∷ vs) = ap suc (length_with_bits i cs vs)

-- one column with a row more
pub getD_with_bits : (i : ℕ) (cs vs : List ℕ) (k : ℕ) → length cs ≡ length vs → k < length cs → get_or (with_bits i cs vs) k 0 ≡ get_or cs k 0 + get_or vs k 0 * 2 ^ i
getD_with_bits i [] vs k e h = absurd (omega arith)
getD_with_bits i (c ∷ cs) [] k e h = absurd (omega arith)
getD_with_bits i (c ∷ cs) (v ∷ vs) zero e h = refl
getD_with_bits i (c ∷ cs) (v ∷ vs) (suc k) e h = getD_with_bits i cs vs k (omega arith) (omega arith)

-- an entry in its place is a word
pub shifted : (i v : ℕ) → i < 64 → v ≤ 1 → v * 2 ^ i < 2 ^ 64
shifted i v h b = let p = pow-lt h in let q = mul-le-mul_right (2 ^ i) b in omega (arith, one-mul (2 ^ i))

-- a column with a row more has a bit more
pub bit_more : (i c v : ℕ) → c < 2 ^ i → v ≤ 1 → c + v * 2 ^ i < 2 ^ (i + 1)
bit_more i c v s b = let q = mul-le-mul_right (2 ^ i) b in omega (arith, one-mul (2 ^ i), pow-add 2 i 1)

-- so it is a word
pub column_fits : (i c v : ℕ) → i < 64 → v ≤ 1 → c < 2 ^ i → c + v * 2 ^ i < 2 ^ 64
column_fits i c v h b s = let le : i + 1 ≤ 64 = omega arith in let p = pow-le-pow_right {n = 2} (omega arith) le in omega (arith, bit_more i c v s b)

pub columns_more : (i : ℕ) (cs vs : List ℕ) → length cs ≡ length vs → AllByRecursion (λ c. c < 2 ^ i) cs → AllByRecursion (λ v. v ≤ 1) vs → AllByRecursion (λ c. c < 2 ^ (i + 1)) (with_bits i cs vs)
columns_more i [] vs e s b = tt
columns_more i (c ∷ cs) [] e s b = absurd (omega arith)
columns_more i (c ∷ cs) (v ∷ vs) e s b = (bit_more i c v s.0 b.0, columns_more i cs vs (omega arith) s.1 b.1)

earlier_bit : (i k c v : ℕ) → k < i → (c + v * 2 ^ i) / 2 ^ k % 2 ≡ c / 2 ^ k % 2
earlier_bit i k c v h =
    let e : i ≡ i - (1 + k) + (1 + k) = omega arith in
    let m : v * 2 ^ i ≡ v * 2 ^ (i - (1 + k)) * 2 ^ (1 + k) =
    ap (λ n. v * 2 ^ n) e ∙ ap (λ n. v * n) (pow-add 2 (i - (1 + k)) (1 + k)) ∙ sym (mul_assoc v (2 ^ (i - (1 + k))) (2 ^ (1 + k))) in
    sym (field (c + v * 2 ^ i) 1 k)
    ∙ ap (λ n. n / 2 ^ k) (ap (λ n. (c + n) % 2 ^ (1 + k)) m ∙ add-mul-mod_self_right c (v * 2 ^ (i - (1 + k))) (2 ^ (1 + k)))
    ∙ field c 1 k

newest_bit : (i c v : ℕ) → c < 2 ^ i → v ≤ 1 → (c + v * 2 ^ i) / 2 ^ i % 2 ≡ v
newest_bit i c v s b = ap (λ n. n / 2 ^ i % 2) (add_comm c (v * 2 ^ i)) ∙ ap (λ n. n % 2) (high v i s) ∙ mod-eq_of_lt (omega arith)

-- a row more leaves the earlier rows
earlier_row : (i k : ℕ) (cs vs : List ℕ) → k < i → bits_of k (with_bits i cs vs) ≡ bits_of k cs
earlier_row i k [] vs h = refl
earlier_row i k (c ∷ cs) [] h = refl
earlier_row i k (c ∷ cs) (v ∷ vs) h = (λ j. earlier_bit i k c v h j ∷ earlier_row i k cs vs h j)

-- and is the newest one
newest_row : (i : ℕ) (cs vs : List ℕ) → length cs ≡ length vs → AllByRecursion (λ c. c < 2 ^ i) cs → AllByRecursion (λ v. v ≤ 1) vs → bits_of i (with_bits i cs vs) ≡ vs
newest_row i [] [] e s b = refl
newest_row i [] (v ∷ vs) e s b = absurd (omega arith)
newest_row i (c ∷ cs) [] e s b = absurd (omega arith)
newest_row i (c ∷ cs) (v ∷ vs) e s b = (λ j. newest_bit i c v s.0 b.0 j ∷ newest_row i cs vs (omega arith) s.1 b.1 j)

joined_same : (f g : ℕ → List ℕ) (a n : ℕ) → ((k : ℕ) → k < a + n → f k ≡ g k) → flat_map f (range_with_len a n) ≡ flat_map g (range_with_len a n)
joined_same f g a zero h = refl
joined_same f g a (suc n) h = (λ j. h a (omega arith) j ++ joined_same f g (a + 1) n (λ k l. h k (omega arith)) j)

counting_more : (n : ℕ) → range_with_len 0 (n + 1) ≡ range_with_len 0 n ++ (n ∷ [])
counting_more n = sym (map-id (range_with_len 0 (n + 1))) ∙ map-range_with_len_more (λ x. x) 0 n n (omega arith) ∙ ap (λ xs. xs ++ (n ∷ [])) (map-id (range_with_len 0 n))

-- the text of a matrix with a row more
pub matrix_rows_more : (w i : ℕ) (cs vs : List ℕ) → length cs ≡ length vs → AllByRecursion (λ c. c < 2 ^ i) cs → AllByRecursion (λ v. v ≤ 1) vs → matrix_rows w (i + 1) (with_bits i cs vs) ≡ matrix_rows w i cs ++ row_text w letter_B vs
matrix_rows_more w i cs vs e s b =
    let f = λ (k : ℕ). row_text w letter_B (bits_of k (with_bits i cs vs)) in
    let g = λ (k : ℕ). row_text w letter_B (bits_of k cs) in
    ap (flat_map f) (counting_more i)
    ∙ sym (flat_map_more f [] (range_with_len 0 i) i)
    ∙ (λ j. joined_same f g 0 i (λ k l. ap (row_text w letter_B) (earlier_row i k cs vs (omega arith))) j ++ row_text w letter_B (newest_row i cs vs e s b j))

-- what the columns hold of their first i rows
abbrev pub low_bits : ℕ → List ℕ → List ℕ
low_bits i cs = map (λ c. c % 2 ^ i) cs

pub low_bits_more : (i : ℕ) (cs : List ℕ) → with_bits i (low_bits i cs) (bits_of i cs) ≡ low_bits (i + 1) cs
low_bits_more i [] = refl
low_bits_more i (c ∷ cs) =
    let one : c % 2 ^ i + c / 2 ^ i % 2 * 2 ^ i ≡ c % 2 ^ (i + 1) = add_comm (c % 2 ^ i) (c / 2 ^ i % 2 * 2 ^ i) ∙ sym (mod-pow-add c 1 i) ∙ ap (λ n. c % 2 ^ n) (add_comm 1 i) in
    (λ j. one j ∷ low_bits_more i cs j)

pub low_bits_all : (i : ℕ) (cs : List ℕ) → AllByRecursion (λ c. c < 2 ^ i) cs → low_bits i cs ≡ cs
low_bits_all i [] s = refl
low_bits_all i (c ∷ cs) s = (λ j. mod-eq_of_lt s.0 j ∷ low_bits_all i cs s.1 j)

pub low_bits_none : (cs : List ℕ) → low_bits 0 cs ≡ replicate (length cs) 0
low_bits_none [] = refl
low_bits_none (c ∷ cs) = (λ j. mod-one c j ∷ low_bits_none cs j)

-- the entries of a row are 0 or 1
pub bits_small : (i : ℕ) (cs : List ℕ) → AllByRecursion (λ v. v ≤ 1) (bits_of i cs)
bits_small i [] = tt
bits_small i (c ∷ cs) = (omega arith, bits_small i cs)
