-- The records of a figure's parts, and how the steps rewrite them. Assumes nothing.
use Rattle.std.specs.Prelude.{◌≡◌, ℕ, zero, suc, ◌+◌, ◌≤◌, min, true, cond, ◌||◌, List, [], ◌∷◌, map, length, ◌==◌}
use Rattle.partition.specs.Names.{Named, groups, members, stands}
use Rattle.partition.specs.declared.table.Record.{Record}

-- what records say: part by part, the name of its group
abbrev pub names_of : List Record → List ℕ
names_of rs = map (λ r. r.name) rs

-- the records of parts with these names: each has its group's name, and the number of the group's members
abbrev pub records_of : List ℕ → List Record
records_of names = map (λ name. record { name = name; size = members name names }) names

-- the sizes that a partition with these names keeps, part by part
abbrev pub sizes_of : List ℕ → List ℕ
sizes_of names = map (λ r. r.size) (records_of names)

-- what holds of a partition's records
pub record IsPartition (rs : List Record) : Type 0 where
  -- the size that is kept for a part is that of its group
  pub kept : rs ≡ records_of (names_of rs)
  pub few : (2 ≤ length (names_of rs)) × (length (names_of rs) ≤ 80)
  pub named : Named (names_of rs)
  pub two : 2 ≤ groups (names_of rs)

-- a record is that of a group that stands
abbrev pub IsGroup : List ℕ → Record → Type 0
IsGroup names r = (stands names r.name ≡ true) × (r.size ≡ members r.name names)

-- the record beyond the last part, and of each part before the first step
abbrev pub blank : Record
blank = record { name = 0; size = 1 }

-- a record, once the groups of the records x and y are joined
abbrev pub merged : Record → Record → Record → Record
merged x y r =
    cond (r.name == x.name || r.name == y.name)
    (record { name = min x.name y.name; size = x.size + y.size })
    r

-- the record of part k, once every part of the group g is single
abbrev pub parted : ℕ → ℕ → Record → Record
parted g k r = cond (r.name == g) (record { name = k; size = 1 }) r

-- the first n records rewritten, by their numbers from k on
abbrev pub rewritten : (ℕ → Record → Record) → ℕ → ℕ → List Record → List Record
rewritten f k zero rs = rs
rewritten f k (suc n) [] = []
rewritten f k (suc n) (r ∷ rs) = f k r ∷ rewritten f (suc k) n rs
