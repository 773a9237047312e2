-- What an accepted row gives the steps of the reader. Assumes nothing.
use Rattle.std.proofs.Common.{◌≡◌, ℕ, ◌+◌, ◌-◌, ◌*◌, ◌≤◌, ltb, leb, List, [], ◌∷◌, length, get_or, drop, sym, refl, subst, ⊎_elim, mul-le-mul, arith}
use Rattle.std.specs.List.{AllByRecursion}
use Rattle.std.proofs.ByRecursion.{All-get_or}
use Rattle.std.proofs.lemmas.Bool.{and_parts, leb-true, ltb-true}
use Rattle.figure.specs.Rules.{letter_N, letter_C, letter_B, letter_W, range, rule}
use Rattle.figure.specs.declared.header.Header.{Header}
use Rattle.figure.specs.declared.stage.Stage.{Stage}
use Rattle.figure.specs.declared.stage.Stage.TheVariants.{Start, Sized, Body}
use Rattle.figure.proofs.Growing.{letter_cases}
use Rattle.figure.proofs.Ranges.{In, outside_in, outside_all}
use Rattle.figure.proofs.Rows.{Accepted}
use Rattle.reader.specs.Answers.{Bounded, Few, Fit, FitAt}
use Rattle.reader.specs.Laid.{counted, moved}

module _ (top : ℕ) (h : Header) where
  -- what the row's rule says, letter by letter
  net_parts : (vs : List ℕ) → Accepted top (Body h) letter_N vs → (1 ≤ length vs) × (get_or vs 0 0 ≤ top) × AllByRecursion (In (range 0 (h.n - 1))) (drop 1 vs)
  net_parts [] a = absurd (omega (arith, a.fewest))
  net_parts (v ∷ vs) a = let p = outside_in (rule 2 81 (range 0 top) (range 0 (h.n - 1))) v vs a.ranges in (omega arith, p.0.1, p.1)

  entries_in : (vs : List ℕ) → Accepted top (Body h) letter_C vs → AllByRecursion (In (range 0 top)) vs
  entries_in vs a = outside_all (rule h.n h.n (range 0 top) (range 0 top)) vs refl a.ranges

  pub accepted_fits : (l : ℕ) (vs : List ℕ) → top ≤ 4294967295 → Bounded h → Accepted top (Body h) l vs → Fit h l vs
  accepted_fits l vs small few a =
      record {
        net = λ e. let p = net_parts vs (at e) in (p.0, omega (arith, p.1));
        pins = λ e k within. let p = net_parts vs (at e) in let q = All-get_or (In (range 0 (h.n - 1))) (drop 1 vs) k 0 within p.2 in omega (arith, q.1, few.n);
        entries = λ e k within. let q = All-get_or (In (range 0 top)) vs k 0 within (entries_in vs (at e)) in omega (arith, q.1);
        bits = λ e. ltb-true h.rows 64 (at e).room;
      }
    where
      at : {k : ℕ} → l ≡ k → Accepted top (Body h) k vs
      at e = subst (λ x. Accepted top (Body h) x vs) e a

  square : h.n ≤ 80 → h.n * h.n ≤ 6400
  square few = mul-le-mul few few

  pub bounded_more : (l : ℕ) (vs : List ℕ) → Bounded h → Accepted top (Body h) l vs → Bounded (counted h l (length vs))
  bounded_more l vs few a =
      ⊎_elim (λ e. at letter_N e net) (⊎_elim (λ e. at letter_C e entries) (⊎_elim (λ e. at letter_B e row) (λ e. at letter_W e weld))) (letter_cases h l a.place)
    where
      at : (k : ℕ) → l ≡ k → (Accepted top (Body h) k vs → Bounded (counted h k (length vs))) → Bounded (counted h l (length vs))
      at k e f = subst (λ x. Accepted top (Body h) x vs → Bounded (counted h x (length vs))) (sym e) f a

      net : Accepted top (Body h) letter_N vs → Bounded (counted h letter_N (length vs))
      net a =
          let room = and_parts (ltb h.nets 500) (leb (h.pins + (length vs - 1)) 4000) a.room in
          record { n = few.n; nets = omega (arith, ltb-true h.nets 500 room.0); pins = leb-true _ 4000 room.1; closeness = few.closeness; rows = few.rows; welds = few.welds }

      entries : Accepted top (Body h) letter_C vs → Bounded (counted h letter_C (length vs))
      entries a =
          record {
            n = few.n;
            nets = few.nets;
            pins = few.pins;
            closeness = omega (arith, ltb-true h.closeness (h.n * h.n) a.room, a.most, square few.n, few.n);
            rows = few.rows;
            welds = few.welds;
          }

      row : Accepted top (Body h) letter_B vs → Bounded (counted h letter_B (length vs))
      row a = record { n = few.n; nets = few.nets; pins = few.pins; closeness = few.closeness; rows = omega (arith, ltb-true h.rows 64 a.room); welds = few.welds }

      weld : Accepted top (Body h) letter_W vs → Bounded (counted h letter_W (length vs))
      weld a = record { n = few.n; nets = few.nets; pins = few.pins; closeness = few.closeness; rows = few.rows; welds = omega (arith, ltb-true h.welds 200 a.room) }

sized_few : (top l : ℕ) (vs : List ℕ) → Accepted top Start l vs → get_or vs 0 0 ≤ 80
sized_few top l [] a = omega arith
sized_few top l (v ∷ vs) a = (outside_in (rule 1 1 (range 2 80) (range 2 80)) v vs a.ranges).0.1

-- the maxima are kept
pub few_more : (top : ℕ) (s : Stage) (l : ℕ) (vs : List ℕ) → Few s → Accepted top s l vs → Few (moved s l vs)
few_more top Start l vs few a = record { n = sized_few top l vs a; nets = omega arith; pins = omega arith; closeness = omega arith; rows = omega arith; welds = omega arith }
few_more top (Sized n) l vs few a = record { n = few.n; nets = omega arith; pins = omega arith; closeness = omega arith; rows = omega arith; welds = omega arith }
few_more top (Body h) l vs few a = bounded_more top h l vs few a

-- the tables' types hold the numbers
pub fits_at : (top : ℕ) (s : Stage) (l : ℕ) (vs : List ℕ) → top ≤ 4294967295 → Few s → Accepted top s l vs → FitAt s l vs
fits_at top Start l vs small few a = tt
fits_at top (Sized n) l vs small few a = tt
fits_at top (Body h) l vs small few a = accepted_fits top h l vs small few a
