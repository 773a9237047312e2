-- What the functions of the reader answer, beside what the definitions say. Assumes nothing.
use Rattle.std.specs.Prelude.{◌≡◌, ℕ, ◌+◌, ◌<◌, ◌≤◌, List, [], ◌∷◌, length, drop, Ok, Err, Result, slice_index, slice_set}
use Rattle.columns.specs.declared.fault.FieldFault.{FieldFault}
use Rattle.figure.specs.Content.{header_of, opening}
use Rattle.figure.specs.Rules.{letter_B, letter_C, letter_N}
use Rattle.figure.specs.declared.fault.FieldRefusal.{FieldRefusal}
use Rattle.figure.specs.declared.fault.RowFault.{RowFault}
use Rattle.figure.specs.declared.header.Header.{Header}
use Rattle.figure.specs.declared.header.Kind.TheVariants.{Nets}
use Rattle.figure.specs.declared.stage.Stage.{Stage}
use Rattle.figure.specs.declared.stage.Stage.TheVariants.{Start, Sized, Body}

-- the definition s says what is answered, the good answers read by f
abbrev pub Gives : {E X Y : Type 0} → (X → Y) → Result X E → Result Y E → Type 0
Gives f (Ok x) s = s ≡ Ok (f x)
Gives f (Err e) s = s ≡ Err e

-- whether it is good, and why not
abbrev pub forget : {E X : Type 0} → Result X E → Result Unit E
forget (Ok x) = Ok tt
forget (Err e) = Err e

-- a field's number, or its refusal with the place k of row r
abbrev pub Refuses : ℕ → ℕ → Result ℕ FieldRefusal → Result ℕ FieldFault → Type 0
Refuses r k (Ok v) s = s ≡ Ok v
Refuses r k (Err e) s = (s ≡ Err e.cause) × (e.place.row ≡ r) × (e.place.field ≡ k)

-- the elements set one after another from place k on; past the table's end nothing is set
abbrev pub set_from : {X : Type 0} → ℕ → List X → List X → List X
set_from k [] table = table
set_from k (x ∷ xs) table = set_from (k + 1) xs (slice_set table k x)

-- so many numbers were read, and the table keeps them from its front on
abbrev pub Kept : Result ℕ RowFault → List ℕ → List ℕ → Result (List ℕ) RowFault → Type 0
Kept (Ok m) before after s = (vs : List ℕ) × (s ≡ Ok vs) × (m ≡ length vs) × (after ≡ set_from 0 vs before)
Kept (Err e) before after s = s ≡ Err e

-- what the rows' maxima allow
pub record Bounded (h : Header) : Type 0 where
  pub n : h.n ≤ 80
  pub nets : h.nets ≤ 500
  pub pins : h.pins ≤ 4000
  pub closeness : h.closeness ≤ 6480
  pub rows : h.rows ≤ 64
  pub welds : h.welds ≤ 200

-- what the rows so far count: of the first one its parts alone, and before it nothing
abbrev pub counts : Stage → Header
counts Start = header_of (opening 0 Nets 0 0)
counts (Sized n) = header_of (opening n Nets 0 0)
counts (Body h) = h

abbrev pub Few : Stage → Type 0
Few s = Bounded (counts s)

-- what laying a row after the first two asks of its numbers, so that the tables' types hold them
pub record Fit (h : Header) (l : ℕ) (vs : List ℕ) : Type 0 where
  pub net : l ≡ letter_N → (1 ≤ length vs) × (slice_index vs 0 ≤ 4294967295)
  pub pins : l ≡ letter_N → (k : ℕ) → k < length (drop 1 vs) → slice_index (drop 1 vs) k ≤ 255
  pub entries : l ≡ letter_C → (k : ℕ) → k < length vs → slice_index vs k ≤ 4294967295
  pub bits : l ≡ letter_B → h.rows < 64

abbrev pub FitAt : Stage → ℕ → List ℕ → Type 0
FitAt Start l vs = Unit {0}
FitAt (Sized n) l vs = Unit {0}
FitAt (Body h) l vs = Fit h l vs
