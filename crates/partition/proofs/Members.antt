-- How many parts have a name. Assumes nothing.
use Rattle.std.proofs.Common.{◌≡◌, ℕ, zero, suc, ◌+◌, ◌<◌, ◌≤◌, cond, eqb, ◌≢◌, List, [], ◌∷◌, length, get_or, refl, ap, ap₂, inl, inr, arith}
use Rattle.std.specs.List.{range_with_len}
use Rattle.std.proofs.lemmas.Bool.{cases_eq, ne_eqb}
use Rattle.std.proofs.lemmas.Bool.Decides.{nat_tests}
use Rattle.partition.specs.Names.{members}

-- v in the one list has as many parts as w in the other if the same parts have them
pub members_agree : (v w : ℕ) (xs ys : List ℕ) → length xs ≡ length ys →
    ((p : ℕ) → p < length xs → eqb (get_or xs p 0) v ≡ eqb (get_or ys p 0) w) → members v xs ≡ members w ys
members_agree v w [] [] e h = refl
members_agree v w [] (y ∷ ys) e h = absurd (omega arith)
members_agree v w (x ∷ xs) [] e h = absurd (omega arith)
members_agree v w (x ∷ xs) (y ∷ ys) e h =
    ap₂ ◌+◌ (ap (λ b. cond {A = ℕ} b 1 0) (h 0 (omega arith))) (members_agree v w xs ys (omega arith) (λ p l. h (suc p) (omega arith)))

members_below : (v a k : ℕ) → v < a → members v (range_with_len a k) ≡ 0
members_below v a zero l = refl
members_below v a (suc k) l = let e = ne_eqb a v (λ e. omega arith) in grind (arith, e, members_below v (a + 1) k (omega arith))

pub members_counting : (v a k : ℕ) → a ≤ v → v < a + k → members v (range_with_len a k) ≡ 1
members_counting v a zero l m = absurd (omega arith)
members_counting v a (suc k) l m =
    elim (cases_eq a v) [
      | inl e ↦ grind (arith, nat_tests, members_below v (a + 1) k (omega arith))
      | inr e ↦ grind (arith, nat_tests, members_counting v (a + 1) k (omega arith) (omega arith))
    ]

-- two names have no part in common
pub members_two : (t u : ℕ) → t ≢ u → (names : List ℕ) → members t names + members u names ≤ length names
members_two t u ne [] = omega arith
members_two t u ne (w ∷ ws) = grind (arith, nat_tests, members_two t u ne ws)
