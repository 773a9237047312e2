-- The order of a phase. `price` is the measure's cost of a row, `amount` what a cost counts as, `plus` and `le` the cost kind's sum and order. Assumes nothing.
use Rattle.std.specs.Prelude.{ℕ, zero, suc, Bool, true, cond, not, ◌&&◌, List, [], ◌∷◌, length}
use Rattle.search.specs.Rows.{alone, added, left}

-- none of the names beats u
abbrev pub unbeaten : (ℕ → ℕ → Bool) → List ℕ → ℕ → Bool
unbeaten beats [] u = true
unbeaten beats (v ∷ vs) u = not (beats v u) && unbeaten beats vs u

-- the first of the names that none of `all` beats, or else the default
abbrev pub first_unbeaten : ℕ → (ℕ → ℕ → Bool) → List ℕ → List ℕ → ℕ
first_unbeaten none beats all [] = none
first_unbeaten none beats all (u ∷ us) = cond (unbeaten beats all u) u (first_unbeaten none beats all us)

module _ {C X : Type 0} (amount : C → X) (plus : X → X → X) (le : X → X → Bool) (price : List ℕ → C) where
  -- with the row's parts ordered so far, v beats u: cost(those with v) + cost(u) is less than cost(those with u) + cost(v)
  abbrev pub beats : List ℕ → List ℕ → ℕ → ℕ → Bool
  beats names row v u =
      not (le (plus (amount (price (added names row u))) (amount (price (alone names v))))
      (plus (amount (price (added names row v))) (amount (price (alone names u)))))

  -- the lowest name, of those not yet ordered, that no other such name beats; where all are ordered, the number of parts
  abbrev pub next : List ℕ → List ℕ → ℕ
  next names row = first_unbeaten (length names) (beats names row) (left names row) (left names row)

  -- k more names ordered after those given; the latest stands first
  abbrev pub order : ℕ → List ℕ → List ℕ → List ℕ → List ℕ
  order zero names row ordered = ordered
  order (suc k) names row ordered =
      let v = next names row in
      order k names (added names row v) (v ∷ ordered)
