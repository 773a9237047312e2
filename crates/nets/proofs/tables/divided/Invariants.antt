use Rattle.std.proofs.Common.{◌≡◌, not, take}
use Rattle.std.specs.List.{list_any}
use Rattle.measure.specs.Rows.{marks}
use Rattle.nets.proofs.tables.divided.Given as goal

-- what was seen of the pins so far
abbrev pub invariant-loop-pin : goal.invariant-loop-pin
invariant-loop-pin l =
    let pins = take l.pin-index l.pins in
    (l.some ≡ list_any (marks l.row) pins) × (not l.all ≡ list_any (λ p. not (marks l.row p)) pins)
