-- A partition's records, once its groups are joined or made single. Assumes nothing.
use Rattle.std.proofs.Common.{◌≡◌, ℕ, ◌+◌, ◌<◌, ◌≤◌, cond, ◌||◌, eqb, ◌≢◌, List, [], ◌∷◌, length, get_or, map, replicate, sym, refl, ap, ◌∙◌, ap₂, subst, inl, inr, arith}
use Rattle.std.proofs.lemmas.List.FromFn.{length-range_with_len}
use Rattle.std.proofs.lemmas.List.{ext_get_or, get_or_default, get_or-map, get_or-replicate, length-map, length-replicate}
use Rattle.std.proofs.lemmas.Bool.{cases_eq}
use Rattle.std.proofs.lemmas.Bool.Decides.{nat_tests}
use Rattle.partition.specs.Joined.{joined, renamed}
use Rattle.partition.specs.Names.{Named, groups, members, singles}
use Rattle.partition.specs.Records.{IsGroup, IsPartition, blank, merged, names_of, parted, records_of, rewritten, sizes_of}
use Rattle.partition.specs.Single.{single}
use Rattle.partition.specs.declared.table.Record.{Record}
use Rattle.partition.proofs.Joins.{getD_joined, joined_groups, joined_named, length_joined, members_joined}
use Rattle.partition.proofs.Members.{members_counting}
use Rattle.partition.proofs.Names.{name_stands, single_name, singles_groups, singles_named}
use Rattle.partition.proofs.Rewrites.{getD_rewritten, length_rewritten}
use Rattle.partition.proofs.Singles.{getD_single, length_single, members_single, single_groups, single_named}

-- the record of a part with this name
abbrev record_of : List ℕ → ℕ → Record
record_of names name = record { name = name; size = members name names }

names_records : (names : List ℕ) → names_of (records_of names) ≡ names
names_records names = go names
  where
    go : (some : List ℕ) → names_of (map (record_of names) some) ≡ some
    go [] = refl
    go (name ∷ rest) = ap (λ ns. name ∷ ns) (go rest)

-- the size that is kept for a part is the number of its group's members
pub sizes_are : (names : List ℕ) → sizes_of names ≡ map (λ name. members name names) names
sizes_are names = go names
  where
    go : (some : List ℕ) → map (λ r. r.size) (map (record_of names) some) ≡ map (λ name. members name names) some
    go [] = refl
    go (name ∷ rest) = ap (λ ns. members name names ∷ ns) (go rest)

-- records that are rewritten, part by part, to those of some names
rewritten_records : (f : ℕ → Record → Record) (rs : List Record) (names : List ℕ) → length names ≡ length rs →
    ((p : ℕ) → p < length rs → f p (get_or rs p blank) ≡ record_of names (get_or names p 0)) → rewritten f 0 (length rs) rs ≡ records_of names
rewritten_records f rs names long h =
    let same = length_rewritten f 0 (length rs) rs in
    ext_get_or blank _ _ (same ∙ sym long ∙ sym (length-map names (record_of names)))
    (λ p l. let m : p < length rs = omega (arith, same) in
    getD_rewritten f 0 (length rs) rs p blank m m ∙ ap (λ k. f k (get_or rs p blank)) (omega arith) ∙ h p m ∙ sym (get_or-map (record_of names) names p 0 blank (omega arith)))

-- the records of names are a partition's
records_partition : (rs : List Record) (names : List ℕ) → rs ≡ records_of names → 2 ≤ length names → length names ≤ 80 → Named names → 2 ≤ groups names →
    IsPartition rs × (names_of rs ≡ names)
records_partition rs names is low high named two = (
  record {
    kept = is ∙ ap records_of (sym say);
    few = subst (λ (ns : List ℕ). (2 ≤ length ns) × (length ns ≤ 80)) (sym say) (low, high);
    named = subst Named (sym say) named;
    two = subst (λ (ns : List ℕ). 2 ≤ groups ns) (sym say) two;
  },
  say,
)
  where
    say : names_of rs ≡ names
    say = ap names_of is ∙ names_records names

-- each part a group
pub fresh_partition : (n : ℕ) → (2 ≤ n) × (n ≤ 80) → {old new : List Record} →
    old ≡ replicate n blank → new ≡ rewritten (parted 0) 0 (length old) old → IsPartition new × (names_of new ≡ singles n)
fresh_partition n few {old} {new} blanks e =
    let from : length old ≡ n = ap length blanks ∙ length-replicate n blank in
    let to = length-range_with_len 0 n in
    records_partition new (singles n)
    (e ∙ rewritten_records (parted 0) old (singles n) (to ∙ sym from)
    (λ p l. let m : p < n = omega (arith, from) in
    let name = single_name n p m in
    ap (λ (rs : List Record). parted 0 p (get_or rs p blank)) blanks
    ∙ ap (parted 0 p) (get_or-replicate n p blank blank m)
    ∙ ap₂ (λ v k. record { name = v; size = k }) (sym name) (sym (ap (λ v. members v (singles n)) name ∙ members_counting p 0 n (omega arith) (omega arith)))))
    (omega (arith, to, few)) (omega (arith, to, few)) (singles_named n) (omega (arith, few, singles_groups n))

name_merged : (x y r : Record) → (merged x y r).name ≡ renamed x.name y.name r.name
name_merged x y r =
    elim (cases_eq r.name x.name) [
      | inl e ↦ grind (arith, nat_tests)
      | inr ne ↦ grind (arith, nat_tests)
    ]

size_merged : (x y r : Record) → (merged x y r).size ≡ cond (eqb r.name x.name || eqb r.name y.name) (x.size + y.size) r.size
size_merged x y r = grind (arith, nat_tests)

name_parted : (g k : ℕ) (r : Record) → (parted g k r).name ≡ cond (eqb r.name g) k r.name
name_parted g k r = grind (arith, nat_tests)

size_parted : (g k : ℕ) (r : Record) → (parted g k r).size ≡ cond (eqb r.name g) 1 r.size
size_parted g k r = grind (arith, nat_tests)

-- what a partition's records say of its parts
module _ {rs : List Record} {names : List ℕ} (whole : IsPartition rs) (is : names_of rs ≡ names) where
  kept_length : length rs ≡ length names
  kept_length = sym (length-map rs _) ∙ ap length is

  kept_record : (p : ℕ) → p < length names → get_or rs p blank ≡ record_of names (get_or names p 0)
  kept_record p l =
      ap (λ (ss : List Record). get_or ss p blank) (whole.kept ∙ ap records_of is) ∙ get_or-map (record_of names) names p 0 blank l

  -- each part's record is that of its group
  pub kept_group : (p : ℕ) (r : Record) → p < length names → r ≡ get_or rs p r → (r.name ≡ get_or names p 0) × IsGroup names r
  kept_group p r l e =
      let same = e ∙ get_or_default rs p r blank (omega (arith, kept_length)) ∙ kept_record p l in (
        ap (λ r. r.name) same,
        subst (IsGroup names) (sym same) (name_stands names (subst Named is whole.named) p, refl),
      )

  -- the groups of two records joined
  pub joined_partition : (x y : Record) → x.name ≢ y.name → IsGroup names x × IsGroup names y → 3 ≤ groups names → {new : List Record} →
      new ≡ rewritten (λ _. merged x y) 0 (length rs) rs → IsPartition new × (names_of new ≡ joined x.name y.name names)
  joined_partition x y apart both three {new} e =
      let named : Named names = subst Named is whole.named in
      let few = subst (λ (ns : List ℕ). (2 ≤ length ns) × (length ns ≤ 80)) is whole.few in
      let long = length_joined x.name y.name names in
      let fewer = joined_groups names named x.name y.name both.0.0 both.1.0 apart in
      records_partition new (joined x.name y.name names)
      (e ∙ rewritten_records (λ _. merged x y) rs (joined x.name y.name names) (long ∙ sym kept_length)
      (λ p l. ap (merged x y) (kept_record p (omega (arith, kept_length))) ∙ ap₂ (λ v k. record { name = v; size = k })
      (name_merged x y _ ∙ sym (getD_joined x.name y.name apart names p))
      (size_merged x y _
      ∙ ap (λ k. cond (eqb (get_or names p 0) x.name || eqb (get_or names p 0) y.name) k (members (get_or names p 0) names)) (ap₂ ◌+◌ both.0.1 both.1.1)
      ∙ sym (members_joined x.name y.name apart names p))))
      (omega (arith, few, long)) (omega (arith, few, long)) (joined_named names named x.name y.name both.0.0 both.1.0 apart) (omega arith)

  -- every part of a group made single
  pub parted_partition : (g : ℕ) {new : List Record} → new ≡ rewritten (parted g) 0 (length rs) rs → IsPartition new × (names_of new ≡ single g names)
  parted_partition g {new} e =
      let named : Named names = subst Named is whole.named in
      let few = subst (λ (ns : List ℕ). (2 ≤ length ns) × (length ns ≤ 80)) is whole.few in
      let two = subst (λ (ns : List ℕ). 2 ≤ groups ns) is whole.two in
      let long = length_single g names in
      records_partition new (single g names)
      (e ∙ rewritten_records (parted g) rs (single g names) (long ∙ sym kept_length)
      (λ p l. let m : p < length names = omega (arith, kept_length) in
      ap (parted g p) (kept_record p m) ∙ ap₂ (λ v k. record { name = v; size = k })
      (name_parted g p _ ∙ sym (getD_single g names p m))
      (size_parted g p _ ∙ sym (members_single g names named p m))))
      (omega (arith, few, long)) (omega (arith, few, long)) (single_named g names named) (omega (arith, two, single_groups g names named))
