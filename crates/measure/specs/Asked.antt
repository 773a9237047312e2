-- What a question about a mark row answers. Assumes nothing.
use Rattle.std.specs.Prelude.{ℕ, cond, List, length, Ok, Err, Result, ◌==◌, nat_lt}
use Rattle.std.specs.List.{position_or_len}
use Rattle.measure.specs.declared.fault.RowFault.{RowFault}
use Rattle.measure.specs.declared.fault.RowFault.TheVariants.{Length, Mark}

-- how many marks stand before the first byte above 1
abbrev pub leading_marks : List ℕ → ℕ
leading_marks row = position_or_len (λ x. nat_lt 1 x) row

-- of a figure with n parts: the length first, then the first byte that is no mark, then the answer f
abbrev pub asked : {X : Type 0} → ℕ → (List ℕ → X) → List ℕ → Result X RowFault
asked n f row =
    cond (length row == n)
    (cond (nat_lt (leading_marks row) n) (Err (Mark (leading_marks row))) (Ok (f row)))
    (Err Length)
