-- Records filled up with blank ones to 80. Assumes nothing.
use Rattle.std.specs.Prelude.{◌≡◌, ℕ, ◌-◌, ◌≤◌, List, ◌++◌, length, take, drop, replicate}
use Rattle.std.proofs.Common.{◌∙◌, ap, arith, length-take-le, take-append-drop, sym}
use Rattle.partition.specs.Records.{blank}
use Rattle.partition.specs.declared.table.Record.{Record}

abbrev pub padded : List Record → List Record
padded rs = rs ++ replicate (80 - length rs) blank

-- of 80 records those from number n on are blank
abbrev pub IsPadded : ℕ → List Record → Type 0
IsPadded n rs = (n ≤ 80) × (length rs ≡ 80) × (drop n rs ≡ replicate (80 - n) blank)

-- so the first n give all of them back
pub padded_back : (n : ℕ) (rs : List Record) → IsPadded n rs → (padded (take n rs) ≡ rs) × (length (take n rs) ≡ n)
padded_back n rs h = (
  ap (λ k. take n rs ++ replicate (80 - k) blank) long ∙ ap (λ bs. take n rs ++ bs) (sym h.2) ∙ take-append-drop n rs,
  long,
)
  where
    long : length (take n rs) ≡ n
    long = length-take-le n rs (omega (arith, h.0, h.1))
