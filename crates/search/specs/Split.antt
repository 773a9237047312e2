-- What a split answers, and what it leaves in the row and in the lines. Assumes nothing.
use Rattle.std.specs.Prelude.{ℕ, ◌-◌, Bool, cond, ◌&&◌, List, ◌++◌, length, drop, Ok, Err, Result, ◌==◌, nat_le}
use Rattle.cost.specs.Earliest.{earliest}
use Rattle.cost.specs.Lines.{line_le}
use Rattle.cost.specs.declared.line.Line.{Line}
use Rattle.partition.specs.Names.{groups}
use Rattle.search.specs.Phases.{lines_of, side_at}
use Rattle.search.specs.declared.split.Split.{Split}
use Rattle.search.specs.declared.split.SplitFault.{SplitFault}
use Rattle.search.specs.declared.split.SplitFault.TheVariants.{Length, Lines}

module _ {C X : Type 0} (amount : C → X) (plus : X → X → X) (le : X → X → Bool) (price : List ℕ → C) (names : List ℕ) where
  -- the number of the best line, from 1
  abbrev pub best_line : ℕ
  best_line = earliest (line_le amount le) (lines_of amount plus le price names)

  -- the marked side
  abbrev pub best_side : List ℕ
  best_side = side_at (best_line - 1) (lines_of amount plus le price names) names

  abbrev pub found : Split C
  found = record { cost = price best_side; groups = groups names; best = best_line }

  module _ (n : ℕ) (row : List ℕ) (lines : List (Line C)) where
    -- the names and the row are of n parts
    abbrev pub row_fits : Bool
    row_fits = length names == n && length row == n

    abbrev pub lines_fit : Bool
    lines_fit = nat_le (groups names - 1) (length lines)

    abbrev pub split_answer : Result (Split C) SplitFault
    split_answer = cond row_fits (cond lines_fit (Ok found) (Err Lines)) (Err Length)

    abbrev pub row_after : List ℕ
    row_after = cond (row_fits && lines_fit) best_side row

    -- one line for each phase in front; later lines stay
    abbrev pub lines_after : List (Line C)
    lines_after = cond (row_fits && lines_fit) (lines_of amount plus le price names ++ drop (groups names - 1) lines) lines
