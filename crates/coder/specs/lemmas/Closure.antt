-- A closure with exchange has a rank: how many of a list's elements lie outside the closure of those after them. Assumes nothing.
use Rattle.std.specs.Prelude.{◌≡◌, ℕ, suc, ◌+◌, ◌≤◌, Bool, true, false, T, List, [], ◌∷◌, ◌++◌, refl}
use Rattle.std.proofs.Common.{sym, ap, ap₂, ◌∙◌, append-nil, le_refl, le_trans, le_of_eq, arith}
use Rattle.std.proofs.Math.Nat.{le-suc}

abbrev pub step : Bool → ℕ → ℕ
step true n = n
step false n = suc n

-- tests that imply each other are one test
same_tests : (a b : Bool) → (T a → T b) → (T b → T a) → a ≡ b
same_tests true true f g = refl
same_tests true false f g = absurd (f tt)
same_tests false true f g = absurd (g tt)
same_tests false false f g = refl

-- p, q: a, b lie in the closure; u: a lies in it with b; v: b lies in it with a
swap_tests : (p q u v : Bool) (r : ℕ) → (T p → T u) → (T q → T v) → (T u → (T p → ⊥) → T v) → (T v → (T q → ⊥) → T u)
    → (T p → T v → T q) → (T q → T u → T p) → step u (step q r) ≡ step v (step p r)
swap_tests true true true true r pu qv uv vu pvq qup = refl
swap_tests true true false v r pu qv uv vu pvq qup = absurd (pu tt)
swap_tests true true true false r pu qv uv vu pvq qup = absurd (qv tt)
swap_tests true false true true r pu qv uv vu pvq qup = absurd (pvq tt tt)
swap_tests true false true false r pu qv uv vu pvq qup = refl
swap_tests true false false v r pu qv uv vu pvq qup = absurd (pu tt)
swap_tests false true u false r pu qv uv vu pvq qup = absurd (qv tt)
swap_tests false true true true r pu qv uv vu pvq qup = absurd (qup tt tt)
swap_tests false true false true r pu qv uv vu pvq qup = refl
swap_tests false false true true r pu qv uv vu pvq qup = refl
swap_tests false false true false r pu qv uv vu pvq qup = absurd (uv tt (λ x. x))
swap_tests false false false true r pu qv uv vu pvq qup = absurd (vu tt (λ x. x))
swap_tests false false false false r pu qv uv vu pvq qup = refl

step_le : (b : Bool) (n : ℕ) → n ≤ step b n
step_le true n = le_refl n
step_le false n = le-suc n

pub step_suc : (b : Bool) (n : ℕ) → step b n ≤ suc n
step_suc true n = le-suc n
step_suc false n = le_refl (suc n)

pub step_in : (b : Bool) (n : ℕ) → T b → step b n ≡ n
step_in true n t = refl
step_in false n t = absurd t

-- the smaller closure grows where the larger one does
step_falls : (p q : Bool) (a b c d : ℕ) → (T p → T q) → a + b ≤ c + d → step q a + b ≤ step p c + d
step_falls true true a b c d f h = h
step_falls true false a b c d f h = absurd (f tt)
step_falls false true a b c d f h = omega arith
step_falls false false a b c d f h = omega arith

module _ {E : Type 0} (cl : List E → E → Bool) where
  abbrev pub Within : List E → List E → Type 0
  Within [] xs = Unit {0}
  Within (y ∷ ys) xs = T (cl xs y) × Within ys xs

  abbrev pub rank_by : List E → ℕ
  rank_by [] = 0
  rank_by (x ∷ xs) = step (cl xs x) (rank_by xs)

  pub record Closure : Type 0 where
    pub here : (e : E) (xs : List E) → T (cl (e ∷ xs) e)
    pub there : (e y : E) (xs : List E) → T (cl xs y) → T (cl (e ∷ xs) y)
    pub cut : (ys xs : List E) (z : E) → Within ys xs → T (cl ys z) → T (cl xs z)
    pub exchange : (a b : E) (xs : List E) → T (cl (b ∷ xs) a) → (T (cl xs a) → ⊥) → T (cl (a ∷ xs) b)

module _ {E : Type 0} (cl : List E → E → Bool) (L : Closure cl) where
  pub within_more : (e : E) (ys xs : List E) → Within cl ys xs → Within cl ys (e ∷ xs)
  within_more e [] xs w = tt
  within_more e (y ∷ ys) xs w = (L.there e y xs w.0, within_more e ys xs w.1)

  pub within_self : (xs : List E) → Within cl xs xs
  within_self [] = tt
  within_self (x ∷ xs) = (L.here x xs, within_more x xs xs (within_self xs))

  pub within_right : (xs ys : List E) → Within cl ys (xs ++ ys)
  within_right [] ys = within_self ys
  within_right (x ∷ xs) ys = within_more x ys (xs ++ ys) (within_right xs ys)

  pub within_left : (xs ys : List E) → Within cl xs (xs ++ ys)
  within_left [] ys = tt
  within_left (x ∷ xs) ys = (L.here x (xs ++ ys), within_more x xs (xs ++ ys) (within_left xs ys))

  pub within_join : (xs ys zs : List E) → Within cl xs zs → Within cl ys zs → Within cl (xs ++ ys) zs
  within_join [] ys zs v w = w
  within_join (x ∷ xs) ys zs v w = (v.0, within_join xs ys zs v.1 w)

  pub within_trans : (xs ys zs : List E) → Within cl xs ys → Within cl ys zs → Within cl xs zs
  within_trans [] ys zs v w = tt
  within_trans (x ∷ xs) ys zs v w = (L.cut ys zs x w v.0, within_trans xs ys zs v.1 w)

  pub same_closure : (xs ys : List E) (z : E) → Within cl xs ys → Within cl ys xs → cl xs z ≡ cl ys z
  same_closure xs ys z v w = same_tests (cl xs z) (cl ys z) (L.cut xs ys z v) (L.cut ys xs z w)

  swap : (a b : E) (xs : List E) → rank_by cl (a ∷ b ∷ xs) ≡ rank_by cl (b ∷ a ∷ xs)
  swap a b xs =
      swap_tests (cl xs a) (cl xs b) (cl (b ∷ xs) a) (cl (a ∷ xs) b) (rank_by cl xs)
      (L.there b a xs) (L.there a b xs) (L.exchange a b xs) (L.exchange b a xs)
      (λ p. L.cut (a ∷ xs) xs b (p, within_self xs)) (λ q. L.cut (b ∷ xs) xs a (q, within_self xs))

  move : (a : E) (xs ys : List E) → rank_by cl (a ∷ (xs ++ ys)) ≡ rank_by cl (xs ++ (a ∷ ys))
  move a [] ys = refl
  move a (x ∷ xs) ys =
      swap a x (xs ++ ys)
      ∙ ap₂ step
      (same_closure (a ∷ (xs ++ ys)) (xs ++ (a ∷ ys)) x
      ((within_right xs (a ∷ ys)).0, within_join xs ys (xs ++ (a ∷ ys)) (within_left xs (a ∷ ys)) (within_right xs (a ∷ ys)).1)
      (within_join xs (a ∷ ys) (a ∷ (xs ++ ys)) (within_more a xs (xs ++ ys) (within_left xs ys))
      (L.here a (xs ++ ys), within_more a ys (xs ++ ys) (within_right xs ys))))
      (move a xs ys)

  pub rank_commutes : (xs ys : List E) → rank_by cl (xs ++ ys) ≡ rank_by cl (ys ++ xs)
  rank_commutes [] ys = ap (rank_by cl) (sym (append-nil ys))
  rank_commutes (x ∷ xs) ys =
      ap₂ step
      (same_closure (xs ++ ys) (ys ++ xs) x
      (within_join xs ys (ys ++ xs) (within_right ys xs) (within_left ys xs)) (within_join ys xs (xs ++ ys) (within_right xs ys) (within_left xs ys)))
      (rank_commutes xs ys)
      ∙ move x ys xs

  pub rank_absorbs : (ys xs : List E) → Within cl ys xs → rank_by cl (ys ++ xs) ≡ rank_by cl xs
  rank_absorbs [] xs w = refl
  rank_absorbs (y ∷ ys) xs w =
      step_in (cl (ys ++ xs) y) (rank_by cl (ys ++ xs)) (L.cut xs (ys ++ xs) y (within_right ys xs) w.0) ∙ rank_absorbs ys xs w.1

  rank_below : (xs ys : List E) → rank_by cl ys ≤ rank_by cl (xs ++ ys)
  rank_below [] ys = le_refl (rank_by cl ys)
  rank_below (x ∷ xs) ys = le_trans (rank_below xs ys) (step_le (cl (xs ++ ys) x) (rank_by cl (xs ++ ys)))

  pub rank_grows : (ys xs : List E) → Within cl ys xs → rank_by cl ys ≤ rank_by cl xs
  rank_grows ys xs w = le_trans (rank_below xs ys) (le_of_eq (rank_commutes xs ys ∙ rank_absorbs ys xs w))

  pub rank_same : (ys xs : List E) → Within cl ys xs → Within cl xs ys → rank_by cl ys ≡ rank_by cl xs
  rank_same ys xs v w = omega (arith, rank_grows ys xs v, rank_grows xs ys w)

  rank_falls : (zs xs ys : List E) → Within cl xs ys → rank_by cl (zs ++ ys) + rank_by cl xs ≤ rank_by cl (zs ++ xs) + rank_by cl ys
  rank_falls [] xs ys w = omega arith
  rank_falls (z ∷ zs) xs ys w =
      step_falls (cl (zs ++ xs) z) (cl (zs ++ ys) z) (rank_by cl (zs ++ ys)) (rank_by cl xs) (rank_by cl (zs ++ xs)) (rank_by cl ys)
      (L.cut (zs ++ xs) (zs ++ ys) z
      (within_join zs xs (zs ++ ys) (within_left zs ys) (within_trans xs ys (zs ++ ys) w (within_right zs ys))))
      (rank_falls zs xs ys w)

  -- us holds no more than xs and ys together span, and vs no more than each of them does
  pub rank_submodular : (xs ys us vs : List E) → Within cl us (ys ++ xs) → Within cl vs xs → Within cl vs ys
      → rank_by cl us + rank_by cl vs ≤ rank_by cl xs + rank_by cl ys
  rank_submodular xs ys us vs e a b =
      omega (arith, rank_grows us (ys ++ xs) e, rank_falls ys vs xs a, rank_commutes ys vs, rank_absorbs vs ys b)
