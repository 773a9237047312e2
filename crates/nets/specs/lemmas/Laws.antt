-- The cut of nets is symmetric, submodular and at most the sum of the weights. Assumes nothing.
use Rattle.std.specs.Prelude.{◌≡◌, ℕ, ◌+◌, ◌*◌, ◌≤◌, Bool, true, not, ◌&&◌, ◌||◌, List, [], ◌∷◌, length, nat_le, nat_lt, refl}
use Rattle.std.specs.List.{list_all, list_any}
use Rattle.std.proofs.Common.{get_or, take, drop, ap, arith}
use Rattle.std.proofs.lemmas.Bool.{and_parts, le-leb, ltb-true}
use Rattle.std.proofs.lemmas.Bool.Decides.{nat_tests}
use Rattle.std.proofs.lemmas.List.Elements.{All-take, All-drop}
use Rattle.std.proofs.lemmas.List.Sums.{AllPass-from_list_all, list_all-from_AllPass, sum_by-cons, sum_by-le}
use Rattle.cost.specs.Amounts.{capped}
use Rattle.measure.specs.Laws.{MeasureLaws}
use Rattle.measure.specs.Rows.{Row, marks, complement, either, both}
use Rattle.measure.proofs.Rows.{marks_complement, marks_either, marks_both}
use Rattle.nets.specs.Cut.{pins_of, charge, cut, weights}
use Rattle.nets.specs.Making.{Sound, net_fits, pins_fit}
use Rattle.nets.specs.declared.net.Net.{Net}

-- some of the parts is marked
abbrev marked : List ℕ → List ℕ → Bool
marked row ps = list_any (marks row) ps

-- some of the parts is left unmarked
abbrev unmarked : List ℕ → List ℕ → Bool
unmarked row ps = list_any (λ p. not (marks row p)) ps

-- pins that lie in a row name parts too
pub pins_named : (n m first count : ℕ) (pins : List ℕ) → m ≡ n → pins_fit n pins ≡ true → pins_fit m (take count (drop first pins)) ≡ true
pins_named n m first count pins same named =
    let P : ℕ → Type 0 = λ p. nat_lt p n ≡ true in
    let all = AllPass-from_list_all (λ p. nat_lt p n) pins named in
    rw same (list_all-from_AllPass (λ p. nat_lt p n) _ (All-take P count _ (All-drop P first pins all)))

-- a net's charge, and what the others cost
cut_cons : (pins row : List ℕ) (net : Net) (nets : List Net) → cut (net ∷ nets) pins row ≡ charge row pins net + cut nets pins row
cut_cons pins row net nets = sum_by-cons (charge row pins) net nets

module _ (n : ℕ) (a : List ℕ) (row_a : Row n a) where
  divides_complement : (ps : List ℕ) → pins_fit n ps ≡ true → (marked (complement a) ps ≡ unmarked a ps) × (unmarked (complement a) ps ≡ marked a ps)
  divides_complement [] h = (refl, refl)
  divides_complement (p ∷ ps) h =
      let parts = and_parts (nat_lt p n) _ h in
      let here = marks_complement n a row_a p (ltb-true p n parts.0) in
      let rest = divides_complement ps parts.1 in
      (grind (arith, here, rest.0), grind (arith, here, rest.1))

  pub cut_complement : (nets : List Net) (pins : List ℕ) → pins_fit n pins ≡ true → cut nets pins (complement a) ≡ cut nets pins a
  cut_complement [] pins named = refl
  cut_complement (net ∷ nets) pins named =
      let here = divides_complement (pins_of pins net) (pins_named n n net.first net.count pins refl named) in
      let charged : charge (complement a) pins net ≡ charge a pins net = grind (arith, here.0, here.1) in
      omega (arith, charged, cut_complement nets pins named, cut_cons pins (complement a) net nets, cut_cons pins a net nets)

  module _ (b : List ℕ) (row_b : Row n b) where
    -- what either and both mark among some parts
    record Meets (ps : List ℕ) : Type 0 where
      pub either_marks : marked (either a b) ps ≡ (marked a ps || marked b ps)
      pub either_leaves : unmarked (either a b) ps ≡ true → (unmarked a ps && unmarked b ps) ≡ true
      pub both_leaves : unmarked (both a b) ps ≡ (unmarked a ps || unmarked b ps)
      pub both_marks : marked (both a b) ps ≡ true → (marked a ps && marked b ps) ≡ true

    meets : (ps : List ℕ) → pins_fit n ps ≡ true → Meets ps
    meets [] h = record { either_marks = refl; either_leaves = λ z. z; both_leaves = refl; both_marks = λ z. z }
    meets (p ∷ ps) h =
        let parts = and_parts (nat_lt p n) _ h in
        let below = ltb-true p n parts.0 in
        let e = marks_either n a row_a p below b row_b in
        let f = marks_both n a row_a p below b row_b in
        let rest = meets ps parts.1 in
        record {
          either_marks = grind (arith, e, rest.either_marks);
          either_leaves = λ z. grind (arith, e, z, rest.either_leaves);
          both_leaves = grind (arith, f, rest.both_leaves);
          both_marks = λ z. grind (arith, f, z, rest.both_marks);
        }

    net_submodular : (pins : List ℕ) (net : Net) → pins_fit n pins ≡ true → charge (either a b) pins net + charge (both a b) pins net ≤ charge a pins net + charge b pins net
    net_submodular pins net named =
        let m = meets (pins_of pins net) (pins_named n n net.first net.count pins refl named) in
        grind (arith, m.either_marks, m.either_leaves, m.both_leaves, m.both_marks)

    pub cut_submodular : (nets : List Net) (pins : List ℕ) → pins_fit n pins ≡ true → cut nets pins (either a b) + cut nets pins (both a b) ≤ cut nets pins a + cut nets pins b
    cut_submodular [] pins named = omega arith
    cut_submodular (net ∷ nets) pins named = omega (
      arith,
      net_submodular pins net named,
      cut_submodular nets pins named,
      cut_cons pins (either a b) net nets,
      cut_cons pins (both a b) net nets,
      cut_cons pins a net nets,
      cut_cons pins b net nets,
    )

pub cut_ceiling : (nets : List Net) (pins row : List ℕ) → cut nets pins row ≤ weights nets
cut_ceiling [] pins row = omega arith
cut_ceiling (net ∷ nets) pins row =
    let charged : charge row pins net ≤ net.weight = grind (arith, nat_tests) in
    omega (arith, charged, cut_ceiling nets pins row, cut_cons pins row net nets, sum_by-cons (λ (x : Net). x.weight) net nets)

pub weights_bound : (size : ℕ) (nets : List Net) → list_all (net_fits size) nets ≡ true → weights nets ≤ 999999 * length nets
weights_bound size nets fits =
    let all = AllPass-from_list_all (net_fits size) nets fits in
    omega (arith, sum_by-le (λ (x : Net). x.weight) 999999 nets (λ k d within. light (get_or nets k d) (all k d within)))
  where
    light : (net : Net) → net_fits size net ≡ true → net.weight ≤ 999999
    light net h = grind (arith, nat_tests, h)

-- the cut of sound tables is a measure
pub cut_fair : (n : ℕ) (nets : List Net) (pins : List ℕ) → Sound n nets pins → MeasureLaws ◌+◌ nat_le n (λ row. capped (cut nets pins row)) (capped (weights nets))
cut_fair n nets pins s =
    let low = weights_bound _ nets s.fits in
    record {
      few = s.few;
      symmetric = λ row r. ap capped (cut_complement n row r nets pins s.named);
      submodular = λ a b ra rb. le-leb _ _ (omega (arith, low, s.short.0, cut_submodular n a ra b rb nets pins s.named, cut_ceiling nets pins a, cut_ceiling nets pins b));
      ceiling = λ row r. le-leb _ _ (omega (arith, cut_ceiling nets pins row));
    }
