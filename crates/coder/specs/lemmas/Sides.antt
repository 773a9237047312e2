-- What rank obeys: its three facts, that a side and the others together reach the rank of all, and its ceiling. Assumes nothing.
use Rattle.std.specs.Prelude.{◌≡◌, ℕ, zero, suc, ◌+◌, ◌^◌, ◌<◌, ◌≤◌, min, max, true, T, ◌⊎◌, List, [], ◌∷◌, ◌++◌, length, replicate, ◌≢◌, nat_le, slice_index, slice_index_or, slice_set, refl}
use Rattle.std.proofs.Common.{sym, ap, subst, ◌∙◌, inl, inr, arith}
use Rattle.std.proofs.lemmas.List.{get_or-set_same, get_or-set_other, get_or-replicate}
use Rattle.std.proofs.lemmas.Bool.{cases_eq, and_parts, ltb-true}
use Rattle.cost.specs.Amounts.{capped}
use Rattle.measure.specs.Laws.{MeasureLaws}
use Rattle.measure.specs.Rows.{complement, either, both}
use Rattle.measure.proofs.Rows.{getD_merged}
use Rattle.measure.proofs.Complements.{getD_complement}
use Rattle.coder.specs.Rank.{side, rank}
use Rattle.coder.specs.Connectivity.{connectivity, whole}
use Rattle.coder.specs.Making.{Sound, columns_fit}
use Rattle.coder.specs.lemmas.Closure.{Within, rank_by, rank_grows, rank_submodular, step_suc, within_left, within_right, within_self}
use Rattle.coder.specs.lemmas.Words.{spans, span_laws, rank_at_most}
use Rattle.coder.specs.lemmas.Independent.{rank_of_span}
use Rattle.coder.specs.lemmas.Fair.{RankLaws, connectivity_fair}

-- the row marks the part p
abbrev On : List ℕ → ℕ → Type 0
On row p = slice_index row p ≡ 0 → ⊥

has : (cs row : List ℕ) (p : ℕ) (xs : List ℕ) → p < length cs → On row p → Within spans (side cs row) xs → T (spans xs (slice_index cs p))
has [] row p xs l n v = absurd (omega arith)
has (c ∷ cs) [] p xs l n v = absurd (n refl)
has (c ∷ cs) (zero ∷ row) zero xs l n v = absurd (n refl)
has (c ∷ cs) (suc m ∷ row) zero xs l n v = v.0
has (c ∷ cs) (zero ∷ row) (suc p) xs l n v = has cs row p xs (omega arith) n v
has (c ∷ cs) (suc m ∷ row) (suc p) xs l n v = has cs row p xs (omega arith) n v.1

all : (cs row xs : List ℕ) → ((p : ℕ) → p < length cs → On row p → T (spans xs (slice_index cs p))) → Within spans (side cs row) xs
all [] row xs h = tt
all (c ∷ cs) [] xs h = tt
all (c ∷ cs) (zero ∷ row) xs h = all cs row xs (λ p l. h (suc p) (omega arith))
all (c ∷ cs) (suc m ∷ row) xs h = (h 0 (omega arith) (λ z. omega arith), all cs row xs (λ p l. h (suc p) (omega arith)))

module _ (cs : List ℕ) where
  held : (row : List ℕ) (p : ℕ) → p < length cs → On row p → T (spans (side cs row) (slice_index cs p))
  held row p l n = has cs row p (side cs row) l n (within_self spans span_laws (side cs row))

  -- a row that marks only what another marks has at most its rank
  rank_within : (a b : List ℕ) → ((p : ℕ) → p < length cs → On a p → On b p) → rank cs a ≤ rank cs b
  rank_within a b h =
      omega (
        arith,
        rank_of_span cs a,
        rank_of_span cs b,
        rank_grows spans span_laws (side cs a) (side cs b) (all cs a (side cs b) (λ p l n. held b p l (h p l n))),
      )

  -- u marks only what a or b marks, and v only what both mark
  rank_joins : (a b u v : List ℕ) → ((p : ℕ) → p < length cs → On u p → On a p ⊎ On b p)
      → ((p : ℕ) → p < length cs → On v p → On a p × On b p) → rank cs u + rank cs v ≤ rank cs a + rank cs b
  rank_joins a b u v hu hv =
      let xs = side cs a in
      let ys = side cs b in
      let joined = within_right spans span_laws ys xs in
      let joined' = within_left spans span_laws ys xs in
      omega (
        arith,
        rank_of_span cs a,
        rank_of_span cs b,
        rank_of_span cs u,
        rank_of_span cs v,
        rank_submodular spans span_laws xs ys (side cs u) (side cs v)
            (all cs u (ys ++ xs) (λ p l n. elim (hu p l n) [ inl h ↦ has cs a p (ys ++ xs) l h joined | inr h ↦ has cs b p (ys ++ xs) l h joined' ]))
            (all cs v xs (λ p l n. held a p l (hv p l n).0))
            (all cs v ys (λ p l n. held b p l (hv p l n).1)),
      )

  some_on : (a b : List ℕ) (p m : ℕ) → m ≡ max (slice_index a p) (slice_index b p) → (m ≢ 0) → On a p ⊎ On b p
  some_on a b p m e n =
      elim (cases_eq (slice_index a p) 0) [
        | inl z ↦ inr (λ y. n (omega arith))
        | inr h ↦ inl h
      ]

  rank_none : rank cs (replicate (length cs) 0) ≡ 0
  rank_none =
      let zeros : List ℕ = replicate (length cs) 0 in
      omega (
        arith,
        rank_of_span cs zeros,
        rank_grows spans span_laws (side cs zeros) [] (all cs zeros [] (λ p l n. absurd (n (get_or-replicate (length cs) p 0 0 l)))),
      )

  module _ (row : List ℕ) (long : length row ≡ length cs) (k : ℕ) (below : k < length cs) where
    marked : slice_index_or (slice_set row k 1) k 0 ≡ 1
    marked = get_or-set_same row k 1 0 (omega arith)

    rank_more : (rank cs row ≤ rank cs (slice_set row k 1)) × (rank cs (slice_set row k 1) ≤ rank cs row + 1)
    rank_more =
        let c = slice_index_or cs k 0 in
        let xs = side cs row in (
          rank_within row (slice_set row k 1) (λ p l n. elim (cases_eq p k) [
            | inl e ↦ λ z. omega (arith, marked, ap (λ (i : ℕ). slice_index (slice_set row k 1) i) e)
            | inr e ↦ λ z. n (sym (get_or-set_other row k p 1 0 e) ∙ z)
          ]),
          omega (
            arith,
            rank_of_span cs row,
            rank_of_span cs (slice_set row k 1),
            step_suc (spans xs c) (rank_by spans xs),
            rank_grows spans span_laws (side cs (slice_set row k 1)) (c ∷ xs) (all cs (slice_set row k 1) (c ∷ xs) (λ p l n. elim (cases_eq p k) [
              | inl e ↦ let here : T (spans (c ∷ xs) (slice_index cs k)) = span_laws.here c xs in rw e here
              | inr e ↦ span_laws.there c (slice_index cs p) xs (held row p l (λ z. n (get_or-set_other row k p 1 0 e ∙ z)))
            ])),
          ),
        )

  pub rank_laws : RankLaws (length cs) (rank cs)
  rank_laws = record {
    none = rank_none;
    more = λ row r p below. rank_more row r.long p below;
    submodular = λ a b ra rb.
        let even = ra.long ∙ sym rb.long in
        rank_joins a b (either a b) (both a b)
        (λ p l n. some_on a b p (slice_index (either a b) p) (getD_merged max a b p even (omega (arith, ra.long))) n)
        (λ p l n.
        let least = getD_merged min a b p even (omega (arith, ra.long)) in
        ((λ z. n (omega (arith, least))), (λ z. n (omega (arith, least)))));
  }

  pub rank_covers : (row : List ℕ) → length row ≡ length cs → rank cs (whole (length cs)) ≤ rank cs row + rank cs (complement row)
  rank_covers row long =
      omega (
        arith,
        rank_joins row (complement row) (whole (length cs)) (replicate (length cs) 0)
            (λ p l n. elim (cases_eq (slice_index row p) 0) [
              | inl z ↦ inr (λ y. omega (arith, getD_complement row p (omega arith)))
              | inr h ↦ inl h
            ])
            (λ p l n. absurd (n (get_or-replicate (length cs) p 0 0 l))),
      )

side_below : (rows : ℕ) (cs row : List ℕ) → columns_fit rows cs ≡ true → (i : ℕ) → i < length (side cs row) → slice_index (side cs row) i < 2 ^ rows
side_below rows [] row h i l = omega arith
side_below rows (c ∷ cs) [] h i l = omega arith
side_below rows (c ∷ cs) (zero ∷ row) h i l = side_below rows cs row (and_parts _ _ h).1 i l
side_below rows (c ∷ cs) (suc m ∷ row) h zero l = ltb-true c (2 ^ rows) (and_parts _ _ h).0
side_below rows (c ∷ cs) (suc m ∷ row) h (suc i) l = side_below rows cs row (and_parts _ _ h).1 i (omega arith)

pub rank_ceiling : (rows : ℕ) (cs row : List ℕ) → columns_fit rows cs ≡ true → rank cs row ≤ rows
rank_ceiling rows cs row h = omega (arith, rank_of_span cs row, rank_at_most rows (side cs row) (side_below rows cs row h))

-- connectivity by the rank of sound columns is a measure
pub coder_fair : (n rows : ℕ) (cs : List ℕ) → Sound n rows cs → MeasureLaws ◌+◌ nat_le n (λ row. capped (connectivity (rank cs) n row)) (capped rows)
coder_fair n rows cs s =
    let laws = subst (λ (k : ℕ). RankLaws k (rank cs)) s.long (rank_laws cs) in
    connectivity_fair n (rank cs) laws s.few rows (rank_ceiling rows cs (whole n) s.fit)
