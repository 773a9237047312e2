-- Texts cut into rows, and lists cut into pieces. Assumes nothing.
use Rattle.std.proofs.Common.{◌≡◌, ℕ, zero, suc, ◌+◌, ◌-◌, ◌%◌, ◌<◌, ◌≤◌, Bool, true, false, cond, eqb, List, [], ◌∷◌, ◌++◌, length, get_or, take, drop, sym, refl, ap, ◌∙◌, ⊎_elim, mod-eq_of_lt, add-one, arith, length-drop}
use native.Mathlib.Nat.{mod-eq-sub-mod}
use Rattle.std.specs.List.{AllByRecursion}
use Rattle.std.proofs.lemmas.Bool.{cond-true, cond-false, eq-eqb, ne_eqb, eqb-true, cases_Bool, cases_lt}
use Rattle.figure.specs.Cut.{onto, cut, pieces_by, pieces}

-- a text without a byte 10 is one piece
pub cut_none : (s : List ℕ) → ((k : ℕ) → k < length s → get_or s k 0 ≡ 10 → ⊥) → cut s ≡ s ∷ []
cut_none [] h = refl
cut_none (b ∷ s) h =
    cond-false (eqb b 10) _ _ (ne_eqb b 10 (h 0 (omega arith))) ∙ ap (onto b) (cut_none s (λ k l. h (suc k) (omega arith)))

-- the first byte 10 ends the first piece
pub cut_some : (s : List ℕ) (i : ℕ) → i < length s → ((k : ℕ) → k < i → get_or s k 0 ≡ 10 → ⊥) → get_or s i 0 ≡ 10 → cut s ≡ take i s ∷ cut (drop (i + 1) s)
cut_some [] i l h e = absurd (omega arith)
cut_some (b ∷ s) zero l h e = cond-true (eqb b 10) _ _ (eq-eqb b 10 e)
cut_some (b ∷ s) (suc i) l h e =
    cond-false (eqb b 10) _ _ (ne_eqb b 10 (h 0 (omega arith)))
    ∙ ap (onto b) (cut_some s i (omega arith) (λ k m. h (suc k) (omega arith)) e)
    ∙ rw (add-one, add-one)

onto_cons : (b : ℕ) (ps : List (List ℕ)) → (t : List ℕ) × (ts : List (List ℕ)) × (onto b ps ≡ t ∷ ts)
onto_cons b [] = (_, _, refl)
onto_cons b (p ∷ ps) = (_, _, refl)

-- there is always a first piece
pub cut_cons : (s : List ℕ) → (t : List ℕ) × (ts : List (List ℕ)) × (cut s ≡ t ∷ ts)
cut_cons [] = (_, _, refl)
cut_cons (b ∷ s) = branch (eqb b 10)
  where
    branch : (is : Bool) → (t : List ℕ) × (ts : List (List ℕ)) × (cond is ([] ∷ cut s) (onto b (cut s)) ≡ t ∷ ts)
    branch true = (_, _, refl)
    branch false = onto_cons b (cut s)

-- a byte that ends no row
abbrev pub Inside : ℕ → Type 0
Inside b = b ≡ 10 → ⊥

-- a row at the front of a text is its first piece
pub cut_row : (t rest : List ℕ) → AllByRecursion Inside t → cut (t ++ (10 ∷ rest)) ≡ t ∷ cut rest
cut_row [] rest h = refl
cut_row (b ∷ t) rest h = cond-false (eqb b 10) _ _ (ne_eqb b 10 h.0) ∙ ap (onto b) (cut_row t rest h.1)

-- the text of the pieces
abbrev pub uncut : List (List ℕ) → List ℕ
uncut [] = []
uncut (t ∷ []) = t
uncut (t ∷ p ∷ ps) = t ++ (10 ∷ uncut (p ∷ ps))

uncut_onto : (b : ℕ) (ps : List (List ℕ)) → uncut (onto b ps) ≡ b ∷ uncut ps
uncut_onto b [] = refl
uncut_onto b (t ∷ []) = refl
uncut_onto b (t ∷ p ∷ ps) = refl

uncut_first : (s : List ℕ) → uncut ([] ∷ cut s) ≡ 10 ∷ uncut (cut s)
uncut_first s = let c = cut_cons s in rw c.2

-- the pieces give the text back
pub uncut_cut : (s : List ℕ) → uncut (cut s) ≡ s
uncut_cut [] = refl
uncut_cut (b ∷ s) =
    ⊎_elim
    (λ e. ap uncut (cond-true (eqb b 10) ([] ∷ cut s) (onto b (cut s)) e) ∙ uncut_first s ∙ (λ i. sym (eqb-true b 10 e) i ∷ uncut_cut s i))
    (λ e. ap uncut (cond-false (eqb b 10) ([] ∷ cut s) (onto b (cut s)) e) ∙ uncut_onto b (cut s) ∙ ap (λ x. b ∷ x) (uncut_cut s))
    (cases_Bool (eqb b 10))

-- as many pieces at most as there are elements is enough
by_enough : (m k w : ℕ) (xs : List ℕ) → 0 < w → length xs ≤ m → length xs ≤ k → pieces_by m w xs ≡ pieces_by k w xs
by_enough zero zero w xs h a b = refl
by_enough zero (suc k) w [] h a b = refl
by_enough zero (suc k) w (x ∷ xs) h a b = absurd (omega arith)
by_enough (suc m) zero w [] h a b = refl
by_enough (suc m) zero w (x ∷ xs) h a b = absurd (omega arith)
by_enough (suc m) (suc k) w [] h a b = refl
by_enough (suc m) (suc k) w (x ∷ xs) h a b =
    let l = length-drop w (x ∷ xs) in
    ap (λ ps. take w (x ∷ xs) ∷ ps) (by_enough m k w (drop w (x ∷ xs)) h (omega arith) (omega arith))

-- a list that is not empty has a first piece
pub pieces_more : (w : ℕ) (xs : List ℕ) → 0 < w → 0 < length xs → pieces w xs ≡ take w xs ∷ pieces w (drop w xs)
pieces_more w [] h l = absurd (omega arith)
pieces_more w (x ∷ xs) h l =
    let d = length-drop w (x ∷ xs) in
    ap (λ ps. take w (x ∷ xs) ∷ ps) (by_enough (length xs) (length (drop w (x ∷ xs))) w (drop w (x ∷ xs)) h (omega arith) (omega arith))

-- an empty list has no piece
pub pieces_none : (w : ℕ) (xs : List ℕ) → length xs ≡ 0 → pieces w xs ≡ []
pieces_none w [] e = refl
pieces_none w (x ∷ xs) e = absurd (omega arith)

-- whole pieces, but not none of them, have a whole first piece
pub whole_first : (m w : ℕ) → 0 < m → m % w ≡ 0 → w ≤ m
whole_first m w h e = ⊎_elim (λ lt. absurd (omega (arith, mod-eq_of_lt lt))) (λ le. le) (cases_lt m w)

-- after the first of whole pieces there are whole pieces
pub whole_rest : (m w : ℕ) → w ≤ m → m % w ≡ 0 → (m - w) % w ≡ 0
whole_rest m w h e = sym (mod-eq-sub-mod h) ∙ e
