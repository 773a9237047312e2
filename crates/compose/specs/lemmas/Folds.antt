-- A fold of a measure is a measure. Assumes nothing.
use Rattle.std.specs.Prelude.{◌≡◌, ℕ, ◌-◌, ◌<◌, ◌≤◌, min, max, Bool, true, false, cond, ltb, List, [], ◌∷◌, length, nat_lt, ◌==◌, slice_index, refl}
use Rattle.std.proofs.Common.{sym, ap, subst, ◌∙◌, arith}
use Rattle.std.proofs.lemmas.List.{get_or-map, length-map}
use Rattle.std.proofs.lemmas.Bool.{and_parts, eqb-true, ltb-true}
use Rattle.std.proofs.lemmas.List.Sums.{AllPass-from_list_all}
use Rattle.measure.specs.Asked.{asked}
use Rattle.measure.specs.Laws.{MeasureLaws}
use Rattle.measure.specs.Rows.{Row, complement, merged}
use Rattle.measure.proofs.Asked.{asked_row}
use Rattle.measure.proofs.Rows.{getD_merged}
use Rattle.compose.specs.Fold.{Sound, all_below, spread}

-- what the laws of a fold need of its boxes
pub record Fits (m : ℕ) (boxes : List ℕ) : Type 0 where
  pub few : (2 ≤ m) × (m ≤ 80)
  pub named : all_below m boxes ≡ true

pub fits_parts : (m : ℕ) (boxes : List ℕ) → Sound m boxes → Fits m boxes
fits_parts m boxes sound = record { few = sound.few; named = sound.named }

same_cons : {x y : ℕ} {xs ys : List ℕ} → x ≡ y → xs ≡ ys → x ∷ xs ≡ y ∷ ys
same_cons e f = cc

module _ (m : ℕ) where
  spread_complement : (row : List ℕ) → length row ≡ m → (boxes : List ℕ) → all_below m boxes ≡ true → spread boxes (complement row) ≡ complement (spread boxes row)
  spread_complement row long [] named = refl
  spread_complement row long (b ∷ boxes) named =
      let parts = and_parts (nat_lt b m) _ named in
      let within : b < length row = omega (arith, ltb-true b m parts.0) in
      same_cons (get_or-map (λ x. 1 - x) row b 0 0 within) (spread_complement row long boxes parts.1)

  spread_merged : (f : ℕ → ℕ → ℕ) (x y : List ℕ) → length x ≡ m → length y ≡ m → (boxes : List ℕ) → all_below m boxes ≡ true → spread boxes (merged f x y) ≡ merged f (spread boxes x) (spread boxes y)
  spread_merged f x y long_x long_y [] named = refl
  spread_merged f x y long_x long_y (b ∷ boxes) named =
      let parts = and_parts (nat_lt b m) _ named in
      let within : b < length x = omega (arith, ltb-true b m parts.0) in
      same_cons (getD_merged f x y b (long_x ∙ sym long_y) within) (spread_merged f x y long_x long_y boxes parts.1)

  spread_row : (row : List ℕ) → Row m row → (boxes : List ℕ) → all_below m boxes ≡ true → Row (length boxes) (spread boxes row)
  spread_row row r boxes named = record {
    long = length-map boxes _;
    bits = λ k h.
        let at = get_or-map (λ b. slice_index row b) boxes k 0 0 h in
        omega (arith, at, r.bits (slice_index boxes k) (ltb-true _ _ (AllPass-from_list_all (λ b. ltb b m) boxes named k 0 h)));
  }

-- a row of boxes and the row of its parts are answered alike
pub asked_spread : {X : Type 0} (f : List ℕ → X) (n m : ℕ) (boxes row : List ℕ) → length boxes ≡ n → all_below m boxes ≡ true → Row m row → asked n f (spread boxes row) ≡ asked m (λ w. f (spread boxes w)) row
asked_spread f n m boxes row long named r =
    let parts : Row n (spread boxes row) = subst (λ (k : ℕ). Row k (spread boxes row)) long (spread_row m row r boxes named) in
    asked_row f n (spread boxes row) parts ∙ sym (asked_row (λ w. f (spread boxes w)) m row r)

module _ {X : Type 0} (plus : X → X → X) (le : X → X → Bool) where
  boxed_laws : (m : ℕ) (boxes : List ℕ) (f : List ℕ → X) (top : X) → Fits m boxes → MeasureLaws plus le (length boxes) f top → MeasureLaws plus le m (λ row. f (spread boxes row)) top
  boxed_laws m boxes f top fit laws = record {
    few = fit.few;
    symmetric = λ row r. ap f (spread_complement m row r.long boxes fit.named) ∙ laws.symmetric _ (spread_row m row r boxes fit.named);
    submodular = λ x y rx ry.
        rw (spread_merged m max x y rx.long ry.long boxes fit.named, spread_merged m min x y rx.long ry.long boxes fit.named)
        (laws.submodular _ _ (spread_row m x rx boxes fit.named) (spread_row m y ry boxes fit.named));
    ceiling = λ row r. laws.ceiling _ (spread_row m row r boxes fit.named);
  }

  -- of the boxes, or of the parts
  pub fold_laws : (long : Bool) (n m : ℕ) (boxes : List ℕ) (f : List ℕ → X) (top : X) → (long ≡ true → length boxes ≡ n) → Fits m boxes → MeasureLaws plus le n f top →
      MeasureLaws plus le (cond long m n) (λ row. f (cond long (spread boxes row) row)) top
  fold_laws true n m boxes f top equal fit laws = boxed_laws m boxes f top fit (subst (λ (k : ℕ). MeasureLaws plus le k f top) (sym (equal refl)) laws)
  fold_laws false n m boxes f top equal fit laws = laws

  -- a measure of n parts, folded where each of them has a box
  pub fold_fair : (n m : ℕ) (boxes : List ℕ) (f : List ℕ → X) (top : X) → Sound m boxes → MeasureLaws plus le n f top →
      MeasureLaws plus le (cond (length boxes == n) m n) (λ row. f (cond (length boxes == n) (spread boxes row) row)) top
  fold_fair n m boxes f top sound laws = fold_laws (length boxes == n) n m boxes f top (eqb-true (length boxes) n) (fits_parts m boxes sound) laws
