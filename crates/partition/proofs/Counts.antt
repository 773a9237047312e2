-- How many numbers of a run pass a test. Assumes nothing.
use Rattle.std.proofs.Common.{◌≡◌, ℕ, zero, suc, ◌+◌, ◌<◌, ◌≤◌, Bool, true, false, cond, List, ◌∷◌, length, filter, refl, ap, ◌∙◌, inl, inr, arith}
use Rattle.std.specs.List.{range_with_len}
use Rattle.std.proofs.lemmas.Bool.{cases_eq}

pub length_cell : {X : Type 0} (b : Bool) (x : X) (ys : List X) → length (cond b (x ∷ ys) ys) ≡ cond b 1 0 + length ys
length_cell true x ys = omega arith
length_cell false x ys = omega arith

-- tests that agree keep the same numbers
pub kept_same : (q r : ℕ → Bool) (a k : ℕ) → ((p : ℕ) → a ≤ p → q p ≡ r p) → filter q (range_with_len a k) ≡ filter r (range_with_len a k)
kept_same q r a zero h = refl
kept_same q r a (suc k) h =
    let e = h a (omega arith) in
    let ih = kept_same q r (a + 1) k (λ p l. h p (omega arith)) in
    cc

-- tests that agree but for one number keep one fewer
pub kept_less : (q r : ℕ → Bool) (v : ℕ) → q v ≡ true → r v ≡ false → ((p : ℕ) → (p ≡ v → ⊥) → q p ≡ r p) →
    (a k : ℕ) → a ≤ v → v < a + k → length (filter q (range_with_len a k)) ≡ suc (length (filter r (range_with_len a k)))
kept_less q r v qv rv h a zero l m = absurd (omega arith)
kept_less q r v qv rv h a (suc k) l m =
    elim (cases_eq a v) [
      | inl e ↦
          let rest = kept_same q r (a + 1) k (λ p j. h p (λ i. omega arith)) in
          let qa : q a ≡ true = ap q e ∙ qv in
          let ra : r a ≡ false = ap r e ∙ rv in
          cc
      | inr e ↦
          let ih = kept_less q r v qv rv h (a + 1) k (omega arith) (omega arith) in
          let c = length_cell (q a) a (filter q (range_with_len (a + 1) k)) in
          let d = length_cell (r a) a (filter r (range_with_len (a + 1) k)) in
          let same : cond {A = ℕ} (q a) 1 0 ≡ cond (r a) 1 0 = ap (λ b. cond b 1 0) (h a e) in
          omega arith
    ]

cell_most : (b c : Bool) → (b ≡ true → c ≡ true) → cond {A = ℕ} b 1 0 ≤ cond c 1 0
cell_most true c h = let e = h refl in grind arith
cell_most false c h = omega arith

-- a test that passes more keeps at least as many
pub kept_most : (q r : ℕ → Bool) (a k : ℕ) → ((p : ℕ) → a ≤ p → p < a + k → q p ≡ true → r p ≡ true) →
    length (filter q (range_with_len a k)) ≤ length (filter r (range_with_len a k))
kept_most q r a zero h = omega arith
kept_most q r a (suc k) h =
    let ih = kept_most q r (a + 1) k (λ p l m. h p (omega arith) (omega arith)) in
    let c = length_cell (q a) a (filter q (range_with_len (a + 1) k)) in
    let d = length_cell (r a) a (filter r (range_with_len (a + 1) k)) in
    let here = cell_most (q a) (r a) (h a (omega arith) (omega arith)) in
    omega arith

-- a test that passes all keeps all
pub kept_all : (q : ℕ → Bool) (a k : ℕ) → ((p : ℕ) → a ≤ p → p < a + k → q p ≡ true) → length (filter q (range_with_len a k)) ≡ k
kept_all q a zero h = refl
kept_all q a (suc k) h =
    let ih = kept_all q (a + 1) k (λ p l m. h p (omega arith) (omega arith)) in
    let here = h a (omega arith) (omega arith) in
    cc
