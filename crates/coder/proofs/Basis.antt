-- Elimination: a basis of words, each at the place of its leading bit, and what the columns taken up so far have to do with it. Assumes nothing.
use Rattle.std.proofs.Common.{◌≡◌, ℕ, zero, suc, ◌+◌, ◌*◌, ◌/◌, ◌^◌, ◌<◌, ◌≤◌, Bool, true, false, T, ◌⊎◌, List, [], ◌∷◌, ◌++◌, length, get_or, drop, set, replicate, sym, refl, ap, ◌∙◌, subst, ap₂, inl, inr, arith, eqb→eq, length-set}
use native.Mathlib.Nat.{zero-div}
use lib.Bits.{bit_xor, xor_self, xor_zero_r, xor_assoc, xor_comm}
use lib.ListN.{length-replicate}
use Rattle.std.proofs.lemmas.List.{drop_more, drop_all}
use Rattle.std.proofs.lemmas.Nat.{shr-shr, pow_below}
use Rattle.coder.specs.Rank.{side, rank}
use Rattle.coder.specs.lemmas.Closure.{Within, rank_by, step, step_in, rank_grows, rank_same, within_more, within_self, within_right, within_left, within_join, within_trans}
use Rattle.coder.specs.lemmas.Words.{spans, span_laws, spans_at, spans_zero, spans_cases, spans_sum, xor_cancel, next, xor_at, top, from_under, under}
use Rattle.coder.specs.lemmas.Independent.{rank_of_span}

-- each word is 0 or has the leading bit of its place, which at the last place is bit 0
abbrev pub Placed : List ℕ → Type 0
Placed [] = Unit {0}
Placed (b ∷ bs) = ((b ≡ 0) ⊎ (b / 2 ^ length bs ≡ 1)) × Placed bs

not_zero : (k x : ℕ) → x / 2 ^ k ≡ 0 → x / 2 ^ k ≡ 1 → ⊥
not_zero k x z e = omega arith

zero_at : (k x : ℕ) → x ≡ 0 → x / 2 ^ k ≡ 0
zero_at k x z = ap (λ (y : ℕ). y / 2 ^ k) z ∙ zero-div (2 ^ k)

above : (k i x n : ℕ) → k + suc i ≡ n → x / 2 ^ k ≡ 1 → x / 2 ^ n ≡ 0
above k i x n e o =
    ap (λ (y : ℕ). x / 2 ^ y) (sym e) ∙ sym (shr-shr x k (suc i)) ∙ ap (λ (y : ℕ). y / 2 ^ suc i) o
    ∙ under (suc i) 1 (omega (arith, pow_below 0 (suc i) (omega arith)))

-- they span only words that are as short
short : (bs : List ℕ) (x : ℕ) → Placed bs → T (spans bs x) → x / 2 ^ length bs ≡ 0
short [] x h t = zero_at 0 x (eqb→eq x 0 t)
short (b ∷ bs) x h t =
    let k = length bs in
    elim (spans_cases b bs x t) [
      | inl s ↦ next k x 0 (short bs x h.1 s)
      | inr s ↦ with_head h.0 (short bs (bit_xor b x) h.1 s)
    ]
  where
    with_head : (b ≡ 0) ⊎ (b / 2 ^ length bs ≡ 1) → bit_xor b x / 2 ^ length bs ≡ 0 → x / 2 ^ suc (length bs) ≡ 0
    with_head (inl z) e = next (length bs) x 0 (sym (ap (λ (y : ℕ). y / 2 ^ length bs) (ap (λ (y : ℕ). bit_xor y x) z)) ∙ e)
    with_head (inr o) e =
        let back : x / 2 ^ length bs ≡ 1 = ap (λ (y : ℕ). y / 2 ^ length bs) (sym (xor_cancel b x)) ∙ xor_at (length bs) b (bit_xor b x) 1 0 o e in
        next (length bs) x 1 back

-- a word whose leading bit has no word at its place is not spanned
free : (bs : List ℕ) (i k x : ℕ) → i + k + 1 ≡ length bs → Placed bs → get_or bs i 0 ≡ 0 → T (spans bs x) → x / 2 ^ k ≡ 1 → ⊥
free [] i k x n h g t e = omega arith
free (b ∷ bs) zero k x n h g t e =
    let long : k ≡ length bs = omega arith in
    let t' : T (spans bs x) = elim (spans_cases b bs x t) [ inl s ↦ s | inr s ↦ spans_at bs (bit_xor b x) x (ap (λ (y : ℕ). bit_xor y x) g) s ] in
    not_zero k x (rw long (short bs x h.1 t')) e
free (b ∷ bs) (suc i) k x n h g t e =
    let rest = λ (s : T (spans bs x)). free bs i k x (omega arith) h.1 g s e in
    elim (spans_cases b bs x t) [
      | inl s ↦ rest s
      | inr s ↦ elim h.0 [
        | inl z ↦ rest (spans_at bs (bit_xor b x) x (ap (λ (y : ℕ). bit_xor y x) z) s)
        | inr o ↦
            not_zero (length bs) (bit_xor b x) (short bs (bit_xor b x) h.1 s)
            (xor_at (length bs) b x 1 0 o (above k i x (length bs) (omega arith) e))
      ]
    ]

placed_at : (bs : List ℕ) (i k : ℕ) → i + k + 1 ≡ length bs → Placed bs → (get_or bs i 0 ≡ 0 → ⊥) → get_or bs i 0 / 2 ^ k ≡ 1
placed_at [] i k n h f = absurd (f refl)
placed_at (b ∷ bs) zero k n h f =
    let long : k ≡ length bs = omega arith in
    ap (λ (j : ℕ). b / 2 ^ j) long ∙ (elim h.0 [ inl z ↦ absurd (f z) | inr o ↦ o ])
placed_at (b ∷ bs) (suc i) k n h f = placed_at bs i k (omega arith) h.1 f

placed_set : (bs : List ℕ) (i k w : ℕ) → i + k + 1 ≡ length bs → Placed bs → w / 2 ^ k ≡ 1 → Placed (set bs i w)
placed_set [] i k w n h e = tt
placed_set (b ∷ bs) zero k w n h e =
    let long : k ≡ length bs = omega arith in
    (inr (ap (λ (j : ℕ). w / 2 ^ j) (sym long) ∙ e), h.1)
placed_set (b ∷ bs) (suc i) k w n h e = (rw (length-set bs i w) h.0, placed_set bs i k w (omega arith) h.1 e)

placed_zeros : (n : ℕ) → Placed (replicate n 0)
placed_zeros zero = tt
placed_zeros (suc n) = (inl refl, placed_zeros n)

zeros_within : (n : ℕ) (xs : List ℕ) → Within spans (replicate n 0) xs
zeros_within zero xs = tt
zeros_within (suc n) xs = (spans_zero xs, zeros_within n xs)

-- ---- a word put at a place that held 0

member : (bs : List ℕ) (i : ℕ) (xs : List ℕ) → Within spans bs xs → T (spans xs (get_or bs i 0))
member [] i xs v = spans_zero xs
member (b ∷ bs) zero xs v = v.0
member (b ∷ bs) (suc i) xs v = member bs i xs v.1

set_within : (bs : List ℕ) (i w : ℕ) (xs : List ℕ) → Within spans bs xs → T (spans xs w) → Within spans (set bs i w) xs
set_within [] i w xs v t = tt
set_within (b ∷ bs) zero w xs v t = (t, v.1)
set_within (b ∷ bs) (suc i) w xs v t = (v.0, set_within bs i w xs v.1 t)

within_set : (bs : List ℕ) (i w : ℕ) (xs : List ℕ) → get_or bs i 0 ≡ 0 → i < length bs → Within spans (set bs i w) xs → Within spans (w ∷ bs) xs
within_set [] i w xs z l v = absurd (omega arith)
within_set (b ∷ bs) zero w xs z l v = (v.0, (spans_at xs 0 b (sym z) (spans_zero xs), v.1))
within_set (b ∷ bs) (suc i) w xs z l v = let r = within_set bs i w xs z (omega arith) v.1 in (r.0, (v.0, r.1))

step_out : (b : Bool) (n : ℕ) → (T b → ⊥) → step b n ≡ suc n
step_out true n f = absurd (f tt)
step_out false n f = refl

-- ---- the columns that are left

unmarked : (c : ℕ) (cs : List ℕ) (m : ℕ) (row : List ℕ) → m ≡ 0 → side (c ∷ cs) (m ∷ row) ≡ side cs row
unmarked c cs zero row z = refl
unmarked c cs (suc m) row z = absurd (omega arith)

marked : (c : ℕ) (cs : List ℕ) (m : ℕ) (row : List ℕ) → (m ≡ 0 → ⊥) → side (c ∷ cs) (m ∷ row) ≡ c ∷ side cs row
marked c cs zero row n = absurd (n refl)
marked c cs (suc m) row n = refl

side_skips : (cs row : List ℕ) (i : ℕ) → i < length cs → length row ≡ length cs → get_or row i 0 ≡ 0 → side (drop i cs) (drop i row) ≡ side (drop (i + 1) cs) (drop (i + 1) row)
side_skips cs row i l e z =
    let more : i < length row = omega arith in
    ap₂ (λ (a b : List ℕ). side a b) (drop_more cs i 0 l) (drop_more row i 0 more) ∙ unmarked _ _ _ _ z

side_takes : (cs row : List ℕ) (i : ℕ) → i < length cs → length row ≡ length cs → (get_or row i 0 ≡ 0 → ⊥) → side (drop i cs) (drop i row) ≡ get_or cs i 0 ∷ side (drop (i + 1) cs) (drop (i + 1) row)
side_takes cs row i l e z =
    let more : i < length row = omega arith in
    ap₂ (λ (a b : List ℕ). side a b) (drop_more cs i 0 l) (drop_more row i 0 more) ∙ marked _ _ _ _ z

-- ---- what elimination keeps: the basis and the columns that are left have the rank of them all

-- what is left of a column differs from it by a sum of basis words
pub Reduced : List ℕ → ℕ → ℕ → Type 0
Reduced bs c w = T (spans bs (bit_xor c w))

record Kept (cs row : List ℕ) (i : ℕ) (bs : List ℕ) (size : ℕ) : Type 0 where
  pub placed : Placed bs
  pub places : length bs ≡ 64
  pub size_is : size ≡ rank_by spans bs
  pub left : rank_by spans (side (drop i cs) (drop i row) ++ bs) ≡ rank cs row

-- the same, shut, so that a search takes it whole
pub Eliminated : (cs row : List ℕ) (i : ℕ) (bs : List ℕ) (size : ℕ) → Type 0
Eliminated cs row i bs size = Kept cs row i bs size

module _ (cs row : List ℕ) where
  start : (n : ℕ) → n ≡ 64 → Eliminated cs row 0 (replicate n 0) 0
  unfolding Eliminated
  start n e = record {
    placed = placed_zeros n;
    places = length-replicate n 0 ∙ e;
    size_is = omega (arith, rank_grows spans span_laws (replicate n 0) [] (zeros_within n []));
    left = rank_same spans span_laws (side cs row ++ replicate n 0) (side cs row)
        (within_join spans span_laws (side cs row) (replicate n 0) (side cs row) (within_self spans span_laws (side cs row)) (zeros_within n (side cs row)))
        (within_left spans span_laws (side cs row) (replicate n 0))
        ∙ sym (rank_of_span cs row);
  }

  module _ (long : length row ≡ length cs) (i : ℕ) (bs : List ℕ) (size : ℕ) (g : Eliminated cs row i bs size) (l : i < length cs) where
    skipped : get_or row i 0 ≡ 0 → Eliminated cs row (i + 1) bs size
    unfolding Eliminated
    skipped z = record {
      placed = g.placed;
      places = g.places;
      size_is = g.size_is;
      left = ap (λ (xs : List ℕ). rank_by spans (xs ++ bs)) (sym (side_skips cs row i l long z)) ∙ g.left;
    }

    spent : (get_or row i 0 ≡ 0 → ⊥) → Reduced bs (get_or cs i 0) 0 → Eliminated cs row (i + 1) bs size
    unfolding Eliminated Reduced
    spent n t =
        let c = get_or cs i 0 in
        let xs = side (drop (i + 1) cs) (drop (i + 1) row) in
        let c_in : T (spans (xs ++ bs) c) = span_laws.cut bs (xs ++ bs) c (within_right spans span_laws xs bs) (spans_at bs (bit_xor c 0) c (xor_zero_r c) t) in
        record {
          placed = g.placed;
          places = g.places;
          size_is = g.size_is;
          left = sym (step_in (spans (xs ++ bs) c) (rank_by spans (xs ++ bs)) c_in)
              ∙ ap (λ (xs : List ℕ). rank_by spans (xs ++ bs)) (sym (side_takes cs row i l long n)) ∙ g.left;
        }

    joined : (get_or row i 0 ≡ 0 → ⊥) → (w lead place : ℕ) → 2 ^ lead ≤ w → w < 2 * 2 ^ lead → place + lead ≡ 63 → get_or bs place 0 ≡ 0
        → Reduced bs (get_or cs i 0) w → Eliminated cs row (i + 1) (set bs place w) (size + 1)
    unfolding Eliminated Reduced
    joined n w lead place lo hi p z t =
        let c = get_or cs i 0 in
        let xs = side (drop (i + 1) cs) (drop (i + 1) row) in
        let bs' = set bs place w in
        let e : w / 2 ^ lead ≡ 1 = top lead w lo hi in
        let at : place + lead + 1 ≡ length bs = omega (arith, g.places) in
        let out : Within spans (w ∷ bs) bs' = within_set bs place w bs' z (omega (arith, g.places)) (within_self spans span_laws bs') in
        let inn : Within spans bs' (w ∷ bs) = set_within bs place w (w ∷ bs) (within_more spans span_laws w bs bs (within_self spans span_laws bs)) (span_laws.here w bs) in
        let all = c ∷ (xs ++ bs) in
        let bs_all : Within spans bs all = within_more spans span_laws c bs (xs ++ bs) (within_right spans span_laws xs bs) in
        let w_all : T (spans all w) = spans_at all (bit_xor c (bit_xor c w)) w (xor_cancel c w)
        (spans_sum all c (bit_xor c w) (span_laws.here c (xs ++ bs)) (span_laws.cut bs all (bit_xor c w) bs_all t)) in
        let back : Within spans (xs ++ bs') all = within_join spans span_laws xs bs' all
        (within_more spans span_laws c xs (xs ++ bs) (within_left spans span_laws xs bs))
        (set_within bs place w all bs_all w_all) in
        let bs'_in : Within spans bs' (xs ++ bs') = within_right spans span_laws xs bs' in
        let c_in : T (spans bs' c) = spans_at bs' (bit_xor w (bit_xor c w)) c (ap (bit_xor w) (xor_comm c w) ∙ xor_cancel w c)
        (spans_sum bs' w (bit_xor c w) out.0 (span_laws.cut bs bs' (bit_xor c w) out.1 t)) in
        let forth : Within spans all (xs ++ bs') =
        (span_laws.cut bs' (xs ++ bs') c bs'_in c_in, within_join spans span_laws xs bs (xs ++ bs') (within_left spans span_laws xs bs') (within_trans spans span_laws bs bs' (xs ++ bs') out.1 bs'_in)) in
        record {
          placed = placed_set bs place lead w at g.placed e;
          places = length-set bs place w ∙ g.places;
          size_is = omega (
            arith,
            g.size_is,
            rank_same spans span_laws bs' (w ∷ bs) inn out,
            step_out (spans bs w) (rank_by spans bs) (λ s. free bs place lead w at g.placed z s e),
          );
          left = rank_same spans span_laws (xs ++ bs') all back forth
              ∙ ap (λ (xs : List ℕ). rank_by spans (xs ++ bs)) (sym (side_takes cs row i l long n)) ∙ g.left;
        }

    shorter : (w lead place : ℕ) → 2 ^ lead ≤ w → w < 2 * 2 ^ lead → place + lead ≡ 63 → (get_or bs place 0 ≡ 0 → ⊥) → bit_xor w (get_or bs place 0) < w
    unfolding Eliminated
    shorter w lead place lo hi p n =
        let b = get_or bs place 0 in
        let e = placed_at bs place lead (omega (arith, g.places)) g.placed n in
        omega (arith, from_under lead (bit_xor w b) (xor_at lead w b 1 1 (top lead w lo hi) e))

  finished : (bs : List ℕ) (size i : ℕ) → Eliminated cs row i bs size → length cs ≤ i → size ≡ rank cs row
  unfolding Eliminated
  finished bs size i g l =
      g.size_is ∙ ap (λ (xs : List ℕ). rank_by spans (side xs (drop i row) ++ bs)) (sym (drop_all i cs l)) ∙ g.left

begun : (bs : List ℕ) (c : ℕ) → Reduced bs c c
unfolding Reduced
begun bs c = spans_at bs 0 (bit_xor c c) (sym (xor_self c)) (spans_zero bs)

again : (bs : List ℕ) (c w place : ℕ) → Reduced bs c w → Reduced bs c (bit_xor w (get_or bs place 0))
unfolding Reduced
again bs c w place t =
    let b = get_or bs place 0 in
    spans_at bs (bit_xor (bit_xor c w) b) (bit_xor c (bit_xor w b)) (xor_assoc c w b)
    (spans_sum bs (bit_xor c w) b t (member bs place bs (within_self spans span_laws bs)))

-- how the columns are taken up, for a loop over them to carry
pub record Elimination (cs row : List ℕ) : Type 0 where
  pub skips : (i : ℕ) (bs : List ℕ) (size : ℕ) → Eliminated cs row i bs size → i < length cs → get_or row i 0 ≡ 0 → Eliminated cs row (i + 1) bs size
  pub begins : (bs : List ℕ) (c : ℕ) → Reduced bs c c
  pub goes_on : (bs : List ℕ) (c w place : ℕ) → Reduced bs c w → Reduced bs c (bit_xor w (get_or bs place 0))
  pub falls : (i : ℕ) (bs : List ℕ) (size w lead place : ℕ) → Eliminated cs row i bs size → i < length cs → 2 ^ lead ≤ w → w < 2 * 2 ^ lead → place + lead ≡ 63 → (get_or bs place 0 ≡ 0 → ⊥) → bit_xor w (get_or bs place 0) < w
  pub spends : (i : ℕ) (bs : List ℕ) (size w : ℕ) → Eliminated cs row i bs size → i < length cs → (get_or row i 0 ≡ 0 → ⊥) → w ≡ 0 → Reduced bs (get_or cs i 0) w → Eliminated cs row (i + 1) bs size
  pub joins : (i : ℕ) (bs : List ℕ) (size w lead place : ℕ) → Eliminated cs row i bs size → i < length cs → (get_or row i 0 ≡ 0 → ⊥) → 2 ^ lead ≤ w → w < 2 * 2 ^ lead → place + lead ≡ 63 → get_or bs place 0 ≡ 0 → Reduced bs (get_or cs i 0) w → Eliminated cs row (i + 1) (set bs place w) (size + 1)
  pub ends : (i : ℕ) (bs : List ℕ) (size : ℕ) → Eliminated cs row i bs size → length cs ≤ i → size ≡ rank cs row

pub elimination : (cs row : List ℕ) → length row ≡ length cs → Elimination cs row
elimination cs row long = record {
  skips = λ i bs size g l z. skipped cs row long i bs size g l z;
  begins = begun;
  goes_on = again;
  falls = λ i bs size w lead place g l lo hi p n. shorter cs row long i bs size g l w lead place lo hi p n;
  spends = λ i bs size w g l n z t. spent cs row long i bs size g l n (subst (Reduced bs (get_or cs i 0)) z t);
  joins = λ i bs size w lead place g l n lo hi p z t. joined cs row long i bs size g l n w lead place lo hi p z t;
  ends = λ i bs size g l. finished cs row bs size i g l;
}

pub begin : (cs row : List ℕ) → Eliminated cs row 0 (replicate 64 0) 0
begin cs row = start cs row 64 refl
