-- Words span a closure with exchange, and words of k bits have a rank of at most k. Assumes nothing.
use Rattle.std.specs.Prelude.{◌≡◌, ℕ, zero, suc, ◌*◌, ◌/◌, ◌^◌, ◌<◌, ◌≤◌, Bool, true, false, ◌||◌, T, ◌⊎◌, List, [], ◌∷◌, length, ◌==◌, bit_xor, slice_index}
use Rattle.std.proofs.Common.{sym, ap, ap₂, ◌∙◌, subst, inl, inr, zero-le, suc-le-suc, le_trans, le_of_eq, one-mul, le-div_iff_mul-le, div-lt_iff_lt-mul, pow-suc, add-one, arith, pow_pos, shr-shr, eqb→eq}
use Rattle.std.proofs.Math.Nat.{div-eq_of_lt, div_self}
use Rattle.std.proofs.Math.Decide.{dec_lt}
use Rattle.std.proofs.Math.Arith.{lt-one}
use Rattle.std.proofs.lemmas.Nat.{xor_comm, xor_shr}
use Rattle.std.specs.Int.Bits.{xor_assoc, xor_self}
use Rattle.coder.specs.lemmas.Closure.{Within, Closure, rank_by, rank_grows, step_suc}

or_l : (a b : Bool) → T a → T (a || b)
or_l true b t = tt
or_l false b t = absurd t

or_r : (a b : Bool) → T b → T (a || b)
or_r true b t = tt
or_r false b t = t

or_e : (a b : Bool) → T (a || b) → T a ⊎ T b
or_e true b t = inl tt
or_e false b t = inr t

-- whether a word is the sum of some of the words of a list
abbrev pub spans : List ℕ → ℕ → Bool
spans [] x = x == 0
spans (c ∷ cs) x = spans cs x || spans cs (bit_xor c x)

-- ---- leading bits: k is the leading bit of x if x / 2 ^ k is 1

pub top : (k x : ℕ) → 2 ^ k ≤ x → x < 2 * 2 ^ k → x / 2 ^ k ≡ 1
top k x l h =
    omega (arith, (le-div_iff_mul-le (pow_pos k)).1 (le_trans (le_of_eq (one-mul (2 ^ k))) l), (div-lt_iff_lt-mul (pow_pos k)).1 h)

pub under : (k x : ℕ) → x < 2 ^ k → x / 2 ^ k ≡ 0
under k x h = div-eq_of_lt h

pub from_under : (k x : ℕ) → x / 2 ^ k ≡ 0 → x < 2 ^ k
from_under k x e = let h : x / 2 ^ k < 1 = omega arith in omega (arith, (div-lt_iff_lt-mul (pow_pos k)).0 h, one-mul (2 ^ k))

pub next : (k x y : ℕ) → x / 2 ^ k ≡ y → x / 2 ^ suc k ≡ y / 2
next k x y e = ap (λ (z : ℕ). x / 2 ^ z) (sym (add-one k)) ∙ sym (shr-shr x k 1) ∙ ap (λ (z : ℕ). z / 2) e

pub xor_at : (k x y p q : ℕ) → x / 2 ^ k ≡ p → y / 2 ^ k ≡ q → bit_xor x y / 2 ^ k ≡ bit_xor p q
xor_at k x y p q e f = xor_shr x y k ∙ ap₂ bit_xor e f

pub xor_cancel : (c x : ℕ) → bit_xor c (bit_xor c x) ≡ x
xor_cancel c x = sym (xor_assoc c c x) ∙ ap (λ (z : ℕ). bit_xor z x) (xor_self c)

pub xor_swap : (x c y : ℕ) → bit_xor x (bit_xor c y) ≡ bit_xor c (bit_xor x y)
xor_swap x c y = sym (xor_assoc x c y) ∙ ap (λ (z : ℕ). bit_xor z y) (xor_comm x c) ∙ xor_assoc c x y

pub spans_at : (xs : List ℕ) (x y : ℕ) → x ≡ y → T (spans xs x) → T (spans xs y)
spans_at xs x y e t = subst (λ (z : ℕ). T (spans xs z)) e t

pub spans_zero : (xs : List ℕ) → T (spans xs 0)
spans_zero [] = tt
spans_zero (x ∷ xs) = or_l (spans xs 0) (spans xs (bit_xor x 0)) (spans_zero xs)

pub spans_more : (c : ℕ) (xs : List ℕ) (x : ℕ) → T (spans xs x) → T (spans (c ∷ xs) x)
spans_more c xs x t = or_l (spans xs x) (spans xs (bit_xor c x)) t

pub spans_with : (c : ℕ) (xs : List ℕ) (x : ℕ) → T (spans xs (bit_xor c x)) → T (spans (c ∷ xs) x)
spans_with c xs x t = or_r (spans xs x) (spans xs (bit_xor c x)) t

pub spans_cases : (c : ℕ) (xs : List ℕ) (x : ℕ) → T (spans (c ∷ xs) x) → T (spans xs x) ⊎ T (spans xs (bit_xor c x))
spans_cases c xs x t = or_e (spans xs x) (spans xs (bit_xor c x)) t

pub spans_sum : (xs : List ℕ) (x y : ℕ) → T (spans xs x) → T (spans xs y) → T (spans xs (bit_xor x y))
spans_sum [] x y s t =
    subst (λ (z : ℕ). T (bit_xor z y == 0)) (sym (eqb→eq x 0 s)) t
spans_sum (c ∷ xs) x y s t = go (spans_cases c xs x s) (spans_cases c xs y t) (spans_sum xs x y) (spans_sum xs x (bit_xor c y)) (spans_sum xs (bit_xor c x) y) (spans_sum xs (bit_xor c x) (bit_xor c y))
  where
    go : T (spans xs x) ⊎ T (spans xs (bit_xor c x)) → T (spans xs y) ⊎ T (spans xs (bit_xor c y))
        → (T (spans xs x) → T (spans xs y) → T (spans xs (bit_xor x y)))
        → (T (spans xs x) → T (spans xs (bit_xor c y)) → T (spans xs (bit_xor x (bit_xor c y))))
        → (T (spans xs (bit_xor c x)) → T (spans xs y) → T (spans xs (bit_xor (bit_xor c x) y)))
        → (T (spans xs (bit_xor c x)) → T (spans xs (bit_xor c y)) → T (spans xs (bit_xor (bit_xor c x) (bit_xor c y))))
        → T (spans (c ∷ xs) (bit_xor x y))
    go (inl a) (inl b) h i j k = spans_more c xs (bit_xor x y) (h a b)
    go (inl a) (inr b) h i j k = spans_with c xs (bit_xor x y) (spans_at xs (bit_xor x (bit_xor c y)) (bit_xor c (bit_xor x y)) (xor_swap x c y) (i a b))
    go (inr a) (inl b) h i j k = spans_with c xs (bit_xor x y) (spans_at xs (bit_xor (bit_xor c x) y) (bit_xor c (bit_xor x y)) (xor_assoc c x y) (j a b))
    go (inr a) (inr b) h i j k =
        spans_more c xs (bit_xor x y) (spans_at xs (bit_xor (bit_xor c x) (bit_xor c y)) (bit_xor x y)
        (xor_assoc c x (bit_xor c y) ∙ ap (bit_xor c) (xor_swap x c y) ∙ xor_cancel c (bit_xor x y)) (k a b))

spans_here : (c : ℕ) (xs : List ℕ) → T (spans (c ∷ xs) c)
spans_here c xs = spans_with c xs c (spans_at xs 0 (bit_xor c c) (sym (xor_self c)) (spans_zero xs))

spans_cut : (ys xs : List ℕ) (z : ℕ) → Within spans ys xs → T (spans ys z) → T (spans xs z)
spans_cut [] xs z w t = spans_at xs 0 z (sym (eqb→eq z 0 t)) (spans_zero xs)
spans_cut (y ∷ ys) xs z w t =
    elim (spans_cases y ys z t) [
      | inl a ↦ spans_cut ys xs z w.1 a
      | inr b ↦ spans_at xs (bit_xor y (bit_xor y z)) z (xor_cancel y z) (spans_sum xs y (bit_xor y z) w.0 (spans_cut ys xs (bit_xor y z) w.1 b))
    ]

spans_exchange : (a b : ℕ) (xs : List ℕ) → T (spans (b ∷ xs) a) → (T (spans xs a) → ⊥) → T (spans (a ∷ xs) b)
spans_exchange a b xs t n =
    elim (spans_cases b xs a t) [
      | inl h ↦ absurd (n h)
      | inr h ↦ spans_with a xs b (spans_at xs (bit_xor b a) (bit_xor a b) (xor_comm b a) h)
    ]

pub span_laws : Closure spans
span_laws = record { here = spans_here; there = λ e y xs t. spans_more e xs y t; cut = spans_cut; exchange = spans_exchange }

-- ---- words of k bits have a rank of at most k

units : ℕ → List ℕ
units zero = []
units (suc k) = 2 ^ k ∷ units k

units_rank : (k : ℕ) → rank_by spans (units k) ≤ k
unfolding units
units_rank zero = zero-le
units_rank (suc k) = le_trans (step_suc (spans (units k) (2 ^ k)) (rank_by spans (units k))) (suc-le-suc (units_rank k))

units_span : (k x : ℕ) → x < 2 ^ k → T (spans (units k) x)
unfolding units
units_span zero x h = subst (λ (z : ℕ). T (z == 0)) (sym (lt-one h)) tt
units_span (suc k) x h =
    elim (dec_lt x (2 ^ k)) [
      | yes l ↦ spans_more (2 ^ k) (units k) x (units_span k x l)
      | no g ↦ spans_with (2 ^ k) (units k) x (units_span k (bit_xor (2 ^ k) x)
          (from_under k (bit_xor (2 ^ k) x) (xor_at k (2 ^ k) x 1 1 (div_self (pow_pos k)) (top k x (omega arith) (omega (arith, pow-suc 2 k))))))
    ]

all_within : (k : ℕ) (xs : List ℕ) → ((i : ℕ) → i < length xs → slice_index xs i < 2 ^ k) → Within spans xs (units k)
all_within k [] h = tt
all_within k (x ∷ xs) h = (units_span k x (h 0 (suc-le-suc zero-le)), all_within k xs (λ i l. h (suc i) (suc-le-suc l)))

pub rank_at_most : (k : ℕ) (xs : List ℕ) → ((i : ℕ) → i < length xs → slice_index xs i < 2 ^ k) → rank_by spans xs ≤ k
rank_at_most k xs h = le_trans (rank_grows spans span_laws xs (units k) (all_within k xs h)) (units_rank k)
