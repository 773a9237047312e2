-- The phases of a search: each orders its groups, writes a line and joins the last two. Assumes nothing.
use Rattle.std.specs.Prelude.{ℕ, zero, suc, ◌-◌, Bool, List, [], ◌∷◌, slice_index}
use Rattle.cost.specs.declared.line.Line.{Line}
use Rattle.partition.specs.Joined.{joined}
use Rattle.partition.specs.Names.{groups}
use Rattle.search.specs.Order.{order}
use Rattle.search.specs.Rows.{alone}

module _ {C X : Type 0} (amount : C → X) (plus : X → X → X) (le : X → X → Bool) (price : List ℕ → C) where
  -- the order of a phase with k + 1 groups: that of part 0 first, and so last in the list
  abbrev pub whole_order : ℕ → List ℕ → List ℕ
  whole_order k names = order amount plus le price k names (alone names 0) (0 ∷ [])

  -- the last two of an order, t and u, and the cost of u
  abbrev pub line_of : List ℕ → List ℕ → Line C
  line_of names ordered = record { t = slice_index ordered 1; u = slice_index ordered 0; cost = price (alone names (slice_index ordered 0)) }

  -- the line of a phase with k + 1 groups
  abbrev pub first_line : ℕ → List ℕ → Line C
  first_line k names = line_of names (whole_order k names)

  -- the lines of k phases, beginning with k + 1 groups
  abbrev pub phases : ℕ → List ℕ → List (Line C)
  phases zero names = []
  phases (suc k) names =
      let line = line_of names (whole_order (suc k) names) in
      line ∷ phases k (joined line.t line.u names)

  abbrev pub lines_of : List ℕ → List (Line C)
  lines_of names = phases (groups names - 1) names

-- the parts of the group u of the line at place b, in the groups as the lines before it joined them
abbrev pub side_at : {C : Type 0} → ℕ → List (Line C) → List ℕ → List ℕ
side_at b [] names = alone names 0
side_at zero (line ∷ lines) names = alone names line.u
side_at (suc b) (line ∷ lines) names = side_at b lines (joined line.t line.u names)
