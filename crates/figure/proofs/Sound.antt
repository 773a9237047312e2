-- A content that rows have made so far: all that a file must be but whole. Assumes nothing.
use Rattle.std.proofs.Common.{◌≡◌, ℕ, ◌*◌, ◌%◌, ◌^◌, ◌<◌, ◌≤◌, Bool, true, false, cond, not, ◌&&◌, eqb, ltb, leb, List, [], ◌∷◌, length, refl, ap, ◌∙◌}
use native.Mathlib.Nat.{zero-mod, mul-mod_left}
use Rattle.std.specs.List.{AllByRecursion, list_all}
use Rattle.std.proofs.lemmas.Bool.{and_from, and_parts, eqb-true, le-leb, leb-true, lt-ltb, ltb-true}
use Rattle.figure.specs.Content.{Content}
use Rattle.figure.specs.Kinds.{multipliers, needs_closeness}
use Rattle.figure.specs.Reading.{whole_closeness}
use Rattle.figure.specs.Writing.{follow, admits}
use Rattle.figure.specs.declared.header.Kind.{Kind}
use Rattle.figure.specs.declared.header.Weld.{Weld}
use Rattle.figure.proofs.Ranges.{In, within_in, in_within}

pub record Sound (top : ℕ) (c : Content) : Type 0 where
  pub two : 2 ≤ c.n
  pub eighty : c.n ≤ 80
  pub p_in : In (multipliers c.kind) c.p
  pub q_in : In (multipliers c.kind) c.q
  pub nets_few : length c.nets ≤ 500
  pub pins_few : length c.pins ≤ 4000
  pub rows_few : c.rows ≤ 64
  pub welds_few : length c.welds ≤ 200
  pub nets_follow : follow top 0 c.nets (length c.pins) ≡ true
  pub pins_in : AllByRecursion (λ v. v < c.n) c.pins
  pub table_rows : length c.closeness % c.n ≡ 0
  pub table_in : AllByRecursion (λ v. v ≤ top) c.closeness
  pub columns_all : length c.columns ≡ c.n
  pub columns_in : AllByRecursion (λ v. v < 2 ^ c.rows) c.columns
  pub welds_in : AllByRecursion (λ x. (x.a < c.n) × (x.b < c.n)) c.welds

module _ {X : Type 0} (p : X → Bool) (P : X → Type 0) where
  every_all : ((x : X) → p x ≡ true → P x) → (xs : List X) → list_all p xs ≡ true → AllByRecursion P xs
  every_all f [] h = tt
  every_all f (x ∷ xs) h = let a = and_parts (p x) (list_all p xs) h in (f x a.0, every_all f xs a.1)

  all_every : ((x : X) → P x → p x ≡ true) → (xs : List X) → AllByRecursion P xs → list_all p xs ≡ true
  all_every f [] h = refl
  all_every f (x ∷ xs) h = and_from (p x) (list_all p xs) (f x h.0) (all_every f xs h.1)

-- a whole table is whole rows
whole_table : (n : ℕ) (kind : Kind) (m : ℕ) → whole_closeness n kind m ≡ true → m % n ≡ 0
whole_table n kind m h = by (eqb m 0) refl h
  where
    by : (b : Bool) → eqb m 0 ≡ b → cond b (not (needs_closeness kind)) (eqb m (n * n)) ≡ true → m % n ≡ 0
    by true z h = ap (λ k. k % n) (eqb-true m 0 z) ∙ zero-mod n
    by false z h = ap (λ k. k % n) (eqb-true m (n * n) h) ∙ mul-mod_left n n

weld_in : (n : ℕ) (x : Weld) → (ltb x.a n && ltb x.b n) ≡ true → (x.a < n) × (x.b < n)
weld_in n x t = let a = and_parts (ltb x.a n) (ltb x.b n) t in (ltb-true x.a n a.0, ltb-true x.b n a.1)

in_weld : (n : ℕ) (x : Weld) → (x.a < n) × (x.b < n) → (ltb x.a n && ltb x.b n) ≡ true
in_weld n x h = and_from (ltb x.a n) (ltb x.b n) (lt-ltb x.a n h.0) (lt-ltb x.b n h.1)

-- what is admitted is sound, with as many columns as parts
pub admitted_sound : (top : ℕ) (c : Content) → admits top c ≡ true → length c.columns ≡ c.n → Sound top c × (whole_closeness c.n c.kind (length c.closeness) ≡ true)
admitted_sound top c h l =
    let a = and_parts _ _ h in
    let head = and_parts _ _ a.0 in
    let count = and_parts _ _ head.0 in
    let pq = and_parts _ _ head.1 in
    let b = and_parts _ _ a.1 in
    let few = and_parts _ _ b.0 in
    let few2 = and_parts _ _ few.1 in
    let few3 = and_parts _ _ few2.1 in
    let d = and_parts _ _ b.1 in
    let nets = and_parts _ _ d.0 in
    let e = and_parts _ _ d.1 in
    let table = and_parts _ _ e.0 in
    let last = and_parts _ _ e.1 in (
      record {
        two = leb-true 2 c.n count.0;
        eighty = leb-true c.n 80 count.1;
        p_in = within_in (multipliers c.kind) c.p pq.0;
        q_in = within_in (multipliers c.kind) c.q pq.1;
        nets_few = leb-true (length c.nets) 500 few.0;
        pins_few = leb-true (length c.pins) 4000 few2.0;
        rows_few = leb-true c.rows 64 few3.0;
        welds_few = leb-true (length c.welds) 200 few3.1;
        nets_follow = nets.0;
        pins_in = every_all (λ v. ltb v c.n) (λ v. v < c.n) (λ v. ltb-true v c.n) c.pins nets.1;
        table_rows = whole_table c.n c.kind (length c.closeness) table.0;
        table_in = every_all (λ v. leb v top) (λ v. v ≤ top) (λ v. leb-true v top) c.closeness table.1;
        columns_all = l;
        columns_in = every_all (λ v. ltb v (2 ^ c.rows)) (λ v. v < 2 ^ c.rows) (λ v. ltb-true v (2 ^ c.rows)) c.columns last.0;
        welds_in = every_all (λ x. ltb x.a c.n && ltb x.b c.n) (λ x. (x.a < c.n) × (x.b < c.n)) (weld_in c.n) c.welds last.1;
      },
      table.0,
    )

-- what is sound is admitted where its table is whole
pub sound_admitted : (top : ℕ) (c : Content) → Sound top c → whole_closeness c.n c.kind (length c.closeness) ≡ true → admits top c ≡ true
sound_admitted top c s whole =
    and_from _ _
    (and_from _ _
    (and_from _ _ (le-leb 2 c.n s.two) (le-leb c.n 80 s.eighty))
    (and_from _ _ (in_within (multipliers c.kind) c.p s.p_in) (in_within (multipliers c.kind) c.q s.q_in)))
    (and_from _ _
    (and_from _ _ (le-leb (length c.nets) 500 s.nets_few)
    (and_from _ _ (le-leb (length c.pins) 4000 s.pins_few)
    (and_from _ _ (le-leb c.rows 64 s.rows_few) (le-leb (length c.welds) 200 s.welds_few))))
    (and_from _ _
    (and_from _ _ s.nets_follow (all_every (λ v. ltb v c.n) (λ v. v < c.n) (λ v. lt-ltb v c.n) c.pins s.pins_in))
    (and_from _ _
    (and_from _ _ whole (all_every (λ v. leb v top) (λ v. v ≤ top) (λ v. le-leb v top) c.closeness s.table_in))
    (and_from _ _
    (all_every (λ v. ltb v (2 ^ c.rows)) (λ v. v < 2 ^ c.rows) (λ v. lt-ltb v (2 ^ c.rows)) c.columns s.columns_in)
    (all_every (λ x. ltb x.a c.n && ltb x.b c.n) (λ x. (x.a < c.n) × (x.b < c.n)) (in_weld c.n) c.welds s.welds_in)))))
