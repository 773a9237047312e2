-- What a phase orders after the group of part 0. While it runs, the lines that are not written yet hold its candidates. Assumes nothing.
use Rattle.std.specs.Prelude.{ℕ, ◌-◌, List, map, length, filter}
use Rattle.std.specs.List.{range_with_len}
use Rattle.cost.specs.declared.line.Line.{Line}
use Rattle.partition.specs.Names.{stands}
use Rattle.search.specs.Rows.{alone}

-- the standing names but that of part 0, below `end`
abbrev pub others_below : ℕ → List ℕ → List ℕ
others_below end names = filter (stands names) (range_with_len 1 (end - 1))

-- a group as a candidate: its name, and what it costs alone
abbrev pub candidate : {C : Type 0} → (List ℕ → C) → List ℕ → ℕ → Line C
candidate price names u = record { t = 0; u = u; cost = price (alone names u) }

abbrev pub candidates : {C : Type 0} → (List ℕ → C) → List ℕ → List (Line C)
candidates price names = map (candidate price names) (others_below (length names) names)
