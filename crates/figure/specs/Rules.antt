-- The rule of each row. A row is its letter and its numbers; `top` is the largest weight or entry. Assumes nothing.
use Rattle.std.specs.Prelude.{ℕ, ◌+◌, ◌-◌, ◌*◌, Bool, true, cond, ◌&&◌, List, [], ◌∷◌, length, Some, None, Ok, Err, Option, Result, ◌==◌, nat_le, nat_lt, slice_index}
use Rattle.figure.specs.Cut.{and_then, opened, numbers, pieces}
use Rattle.figure.specs.Kinds.{kinds, kind_of, multipliers}
use Rattle.figure.specs.declared.fault.RowFault.{RowFault}
use Rattle.figure.specs.declared.fault.RowFault.TheVariants.{Letter, Count, Range as OutOfRange, TooMany}
use Rattle.figure.specs.declared.rule.Range.{Range}
use Rattle.figure.specs.declared.rule.Rule.{Rule}
use Rattle.figure.specs.declared.stage.Stage.{Stage}
use Rattle.figure.specs.declared.stage.Stage.TheVariants.{Start, Sized, Body}

-- the letters F, M, N, C, B and W
abbrev pub letter_F : ℕ
letter_F = 70

abbrev pub letter_M : ℕ
letter_M = 77

abbrev pub letter_N : ℕ
letter_N = 78

abbrev pub letter_C : ℕ
letter_C = 67

abbrev pub letter_B : ℕ
letter_B = 66

abbrev pub letter_W : ℕ
letter_W = 87

-- may a row with this letter come now? F, then M, then N, C, B and W in this order
abbrev pub in_place : Stage → ℕ → Bool
in_place Start l = l == letter_F
in_place (Sized n) l = l == letter_M
in_place (Body h) l =
    cond (l == letter_N) (h.closeness == 0 && (h.rows == 0 && h.welds == 0))
    (cond (l == letter_C) (h.rows == 0 && h.welds == 0)
    (cond (l == letter_B) (h.welds == 0) (l == letter_W)))

abbrev pub range : ℕ → ℕ → Range
range low high = record { low = low; high = high }

abbrev pub rule : ℕ → ℕ → Range → Range → Rule
rule fewest most first rest = record { fewest = fewest; most = most; first = first; rest = rest }

-- of a figure with n parts: a net has a weight and 1 to 80 pins; a row of the closeness table or of the matrix an entry for each part; a weld two parts
abbrev pub body_rule : ℕ → ℕ → ℕ → Rule
body_rule top n l =
    cond (l == letter_N) (rule 2 81 (range 0 top) (range 0 (n - 1)))
    (cond (l == letter_C) (rule n n (range 0 top) (range 0 top))
    (cond (l == letter_B) (rule n n (range 0 1) (range 0 1)) (rule 2 2 (range 0 (n - 1)) (range 0 (n - 1)))))

-- the second row has the kind and the two multipliers, whose range the kind gives
abbrev pub rule_of : ℕ → Stage → ℕ → List ℕ → Rule
rule_of top Start l vs = rule 1 1 (range 2 80) (range 2 80)
rule_of top (Sized n) l vs = rule 3 3 kinds (multipliers (kind_of (slice_index vs 0)))
rule_of top (Body h) l vs = body_rule top h.n l

abbrev pub within : Range → ℕ → Bool
within g v = nat_le g.low v && nat_le v g.high

-- the first of the numbers outside the range, counted from k
abbrev pub stray : Range → ℕ → List ℕ → Option ℕ
stray g k [] = None
stray g k (v ∷ vs) = cond (within g v) (stray g (k + 1) vs) (Some k)

-- the first of a row's numbers outside its range
abbrev pub outside : Rule → List ℕ → Option ℕ
outside rule [] = None
outside rule (v ∷ vs) = cond (within rule.first v) (stray rule.rest 2 vs) (Some 1)

abbrev pub ranged : ℕ → Option ℕ → List ℕ → Result (List ℕ) RowFault
ranged r None vs = Ok vs
ranged r (Some k) vs = Err (OutOfRange (record { row = r; field = k }))

-- the numbers of row r, if they meet the rule
abbrev pub judged : ℕ → Rule → List ℕ → Result (List ℕ) RowFault
judged r rule vs = cond (nat_le rule.fewest (length vs) && nat_le (length vs) rule.most) (ranged r (outside rule vs) vs) (Err (Count r))

-- is there room for one more row with this letter and m numbers?
abbrev pub has_room : Stage → ℕ → ℕ → Bool
has_room Start l m = true
has_room (Sized n) l m = true
has_room (Body h) l m =
    cond (l == letter_N) (nat_lt h.nets 500 && nat_le (h.pins + (m - 1)) 4000)
    (cond (l == letter_C) (nat_lt h.closeness (h.n * h.n))
    (cond (l == letter_B) (nat_lt h.rows 64) (nat_lt h.welds 200)))

abbrev pub roomed : ℕ → Stage → ℕ → List ℕ → Result (ℕ × List ℕ) RowFault
roomed r s l vs = cond (has_room s l (length vs)) (Ok (l, vs)) (Err (TooMany r))

-- row r: its length, its letter, its fields, their number and ranges, and its room, in this order
abbrev pub row_of : ℕ → ℕ → ℕ → Stage → List ℕ → Result (ℕ × List ℕ) RowFault
row_of w top r s text =
    and_then (opened w r text) (λ o.
    cond (in_place s o.0)
    (and_then (numbers r 1 [] (pieces w o.1)) (λ vs.
    and_then (judged r (rule_of top s o.0 vs) vs) (roomed r s o.0)))
    (Err (Letter r)))
