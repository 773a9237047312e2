-- How the rows of a file move the stage, and what they lay into the tables. Assumes nothing.
use Rattle.std.specs.Prelude.{ℕ, ◌+◌, ◌-◌, ◌*◌, ◌%◌, ◌^◌, cond, List, [], ◌∷◌, length, drop, Ok, Err, Result, ◌==◌, slice_index, slice_set}
use Rattle.figure.specs.Content.{header_of, net_at, opening, weld_of}
use Rattle.figure.specs.Cut.{and_then}
use Rattle.figure.specs.Kinds.{kind_of}
use Rattle.figure.specs.Reading.{ended, in_file}
use Rattle.figure.specs.Rules.{letter_B, letter_C, letter_N, row_of}
use Rattle.figure.specs.Tables.{Tables}
use Rattle.figure.specs.declared.fault.FileFault.{FileFault}
use Rattle.figure.specs.declared.fault.RowFault.{RowFault}
use Rattle.figure.specs.declared.header.Header.{Header}
use Rattle.figure.specs.declared.stage.Stage.{Stage}
use Rattle.figure.specs.declared.stage.Stage.TheVariants.{Body, Sized, Start}
use Rattle.reader.specs.Answers.{set_from}

-- one row more, with m numbers
abbrev pub counted : Header → ℕ → ℕ → Header
counted h l m =
    cond (l == letter_N) (record h { nets = h.nets + 1; pins = h.pins + (m - 1) })
    (cond (l == letter_C) (record h { closeness = h.closeness + m })
    (cond (l == letter_B) (record h { rows = h.rows + 1 }) (record h { welds = h.welds + 1 })))

-- the stage after a row with this letter and these numbers
abbrev pub moved : Stage → ℕ → List ℕ → Stage
moved Start l vs = Sized (slice_index vs 0)
moved (Sized n) l vs = Body (header_of (opening n (kind_of (slice_index vs 0)) (slice_index vs 1) (slice_index vs 2)))
moved (Body h) l vs = Body (counted h l (length vs))

-- a word with bit i added, as 64 bits hold it
abbrev pub plus_bit : ℕ → ℕ → ℕ → ℕ
plus_bit i word v = (word + v * 2 ^ i % 2 ^ 64) % 2 ^ 64

-- bit i of one column after another, from column j on
abbrev pub add_bits : ℕ → ℕ → List ℕ → List ℕ → List ℕ
add_bits i j [] columns = columns
add_bits i j (v ∷ vs) columns = add_bits i (j + 1) vs (slice_set columns j (plus_bit i (slice_index columns j) v))

-- a row laid into the tables, at the places that the header counts; past a table's end nothing is set
abbrev pub laid : Header → ℕ → List ℕ → Tables → Tables
laid h l vs t =
    cond (l == letter_N) (record t { nets = slice_set t.nets h.nets (net_at h.pins vs); pins = set_from h.pins (drop 1 vs) t.pins })
    (cond (l == letter_C) (record t { closeness = set_from h.closeness vs t.closeness })
    (cond (l == letter_B) (record t { columns = add_bits h.rows 0 vs t.columns }) (record t { welds = slice_set t.welds h.welds (weld_of vs) })))

abbrev pub laid_at : Stage → ℕ → List ℕ → Tables → Tables
laid_at Start l vs t = t
laid_at (Sized n) l vs t = t
laid_at (Body h) l vs t = laid h l vs t

-- the stage after the rows from row r on
abbrev pub walked : ℕ → ℕ → ℕ → Stage → List (List ℕ) → Result Stage FileFault
walked w top r s [] = Ok s
walked w top r s (t ∷ []) = ended r t s
walked w top r s (t ∷ l ∷ ls) = and_then (in_file (row_of w top r s t)) (λ o. walked w top (r + 1) (moved s o.0 o.1) (l ∷ ls))

abbrev pub on_row : Result (ℕ × List ℕ) RowFault → Tables → (ℕ × List ℕ → Tables) → Tables
on_row (Ok o) t f = f o
on_row (Err e) t f = t

-- those rows laid into the tables, as far as they are read
abbrev pub laid_rows : ℕ → ℕ → ℕ → Stage → List (List ℕ) → Tables → Tables
laid_rows w top r s [] t = t
laid_rows w top r s (p ∷ []) t = t
laid_rows w top r s (p ∷ q ∷ ps) t = on_row (row_of w top r s p) t (λ o. laid_rows w top (r + 1) (moved s o.0 o.1) (q ∷ ps) (laid_at s o.0 o.1 t))
