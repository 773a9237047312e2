-- What a figure file holds, or why it is refused: fields of w columns, weights and entries up to `top`. Assumes nothing.
use Rattle.std.specs.Prelude.{ℕ, ◌+◌, ◌*◌, Bool, cond, not, List, [], ◌∷◌, length, Ok, Err, Result, ◌==◌}
use Rattle.figure.specs.Content.{Content, State, start, sized, body, stage_of, advanced}
use Rattle.figure.specs.Cut.{and_then, cut}
use Rattle.figure.specs.Kinds.{needs_closeness}
use Rattle.figure.specs.Rules.{row_of}
use Rattle.figure.specs.declared.fault.FileFault.{FileFault}
use Rattle.figure.specs.declared.fault.FileFault.TheVariants.{Row, Missing}
use Rattle.figure.specs.declared.fault.RowFault.{RowFault}
use Rattle.figure.specs.declared.fault.RowFault.TheVariants.{Unended}
use Rattle.figure.specs.declared.header.Kind.{Kind}

-- a row's answer in the file
abbrev pub in_file : {X : Type 0} → Result X RowFault → Result X FileFault
in_file (Ok x) = Ok x
in_file (Err e) = Err (Row e)

-- x where nothing follows the last byte 10
abbrev pub ended : {X : Type 0} → ℕ → List ℕ → X → Result X FileFault
ended r [] x = Ok x
ended r (b ∷ bs) x = Err (Row (Unended r))

-- the rows from row r on, after those of the state
abbrev pub read_rows : ℕ → ℕ → ℕ → State → List (List ℕ) → Result State FileFault
read_rows w top r s [] = Ok s
read_rows w top r s (t ∷ []) = ended r t s
read_rows w top r s (t ∷ l ∷ ls) =
    and_then (in_file (row_of w top r (stage_of s) t)) (λ o. read_rows w top (r + 1) (advanced s o.0 o.1) (l ∷ ls))

-- of n parts, so many entries are a whole closeness table, or none where the kind wants none
abbrev pub whole_closeness : ℕ → Kind → ℕ → Bool
whole_closeness n kind m = cond (m == 0) (not (needs_closeness kind)) (m == n * n)

-- the rows that must be there are there
abbrev pub finished : State → Result Content FileFault
finished start = Err Missing
finished (sized n) = Err Missing
finished (body c) = cond (whole_closeness c.n c.kind (length c.closeness)) (Ok c) (Err Missing)

abbrev pub file_read : ℕ → ℕ → List ℕ → Result Content FileFault
file_read w top bytes = and_then (read_rows w top 1 start (cut bytes)) finished
