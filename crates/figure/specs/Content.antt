-- The content of a figure file, row by row. Assumes nothing.
use Rattle.std.specs.Prelude.{ℕ, ◌+◌, ◌*◌, ◌^◌, cond, List, [], ◌∷◌, ◌++◌, length, drop, replicate, ◌==◌, slice_index}
use Rattle.nets.specs.declared.net.Net.{Net}
use Rattle.figure.specs.Kinds.{kind_of}
use Rattle.figure.specs.Rules.{letter_N, letter_C, letter_B}
use Rattle.figure.specs.declared.header.Header.{Header}
use Rattle.figure.specs.declared.header.Kind.{Kind}
use Rattle.figure.specs.declared.header.Weld.{Weld}
use Rattle.figure.specs.declared.stage.Stage.{Stage}
use Rattle.figure.specs.declared.stage.Stage.TheVariants.{Start, Sized, Body}

-- n parts; the kind and its multipliers; nets, whose pins follow on from place 0 of the pins; the closeness table, row by row; so many matrix rows, bit i of a column being its entry in row i; the welds
pub record Content : Type 0 where
  pub n : ℕ
  pub kind : Kind
  pub p : ℕ
  pub q : ℕ
  pub nets : List Net
  pub pins : List ℕ
  pub closeness : List ℕ
  pub rows : ℕ
  pub columns : List ℕ
  pub welds : List Weld

abbrev pub header_of : Content → Header
header_of c =
    record {
      n = c.n;
      kind = c.kind;
      p = c.p;
      q = c.q;
      nets = length c.nets;
      pins = length c.pins;
      closeness = length c.closeness;
      rows = c.rows;
      welds = length c.welds;
    }

-- no rows yet: every column is 0
abbrev pub opening : ℕ → Kind → ℕ → ℕ → Content
opening n kind p q =
    record { n = n; kind = kind; p = p; q = q; nets = []; pins = []; closeness = []; rows = 0; columns = replicate n 0; welds = [] }

-- the net of a row: its weight, and its pins from place k on
abbrev pub net_at : ℕ → List ℕ → Net
net_at k vs = record { weight = slice_index vs 0; first = k; count = length (drop 1 vs) }

abbrev pub weld_of : List ℕ → Weld
weld_of vs = record { a = slice_index vs 0; b = slice_index vs 1 }

-- the columns with one row more, whose entries are bit i
abbrev pub with_bits : ℕ → List ℕ → List ℕ → List ℕ
with_bits i [] vs = []
with_bits i (c ∷ cs) [] = c ∷ cs
with_bits i (c ∷ cs) (v ∷ vs) = (c + v * 2 ^ i) ∷ with_bits i cs vs

module _ (c : Content) (vs : List ℕ) where
  abbrev pub with_net : Content
  with_net = record c { nets = c.nets ++ (net_at (length c.pins) vs ∷ []); pins = c.pins ++ drop 1 vs }

  abbrev pub with_entries : Content
  with_entries = record c { closeness = c.closeness ++ vs }

  abbrev pub with_row : Content
  with_row = record c { rows = c.rows + 1; columns = with_bits c.rows c.columns vs }

  abbrev pub with_weld : Content
  with_weld = record c { welds = c.welds ++ (weld_of vs ∷ []) }

-- the content with a row more
abbrev pub placed : Content → ℕ → List ℕ → Content
placed c l vs = cond (l == letter_N) (with_net c vs) (cond (l == letter_C) (with_entries c vs) (cond (l == letter_B) (with_row c vs) (with_weld c vs)))

-- what the rows so far hold
pub data State : Type 0 where
  start : State
  sized : ℕ → State
  body : Content → State

abbrev pub stage_of : State → Stage
stage_of start = Start
stage_of (sized n) = Sized n
stage_of (body c) = Body (header_of c)

-- the state after a row with this letter and these numbers
abbrev pub advanced : State → ℕ → List ℕ → State
advanced start l vs = sized (slice_index vs 0)
advanced (sized n) l vs = body (opening n (kind_of (slice_index vs 0)) (slice_index vs 1) (slice_index vs 2))
advanced (body c) l vs = body (placed c l vs)
