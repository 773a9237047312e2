use Rattle.std.proofs.Common.{◌≡◌, ◌^◌, ◌<◌, true, drop}
use Rattle.std.specs.Str.{all_ascii_digits}
use Rattle.columns.specs.Number.{value}
use Rattle.columns.proofs.read.value.Given as goal

-- the number so far, and the digits from here on
abbrev pub invariant-loop-digit : goal.invariant-loop-digit
invariant-loop-digit l =
    let rest = drop l.digit-index l.digits in
    (value l.v rest ≡ value 0 l.digits) × (all_ascii_digits rest ≡ true) × (l.v < 10 ^ l.digit-index)
