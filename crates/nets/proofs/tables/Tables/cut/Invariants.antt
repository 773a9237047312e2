use Rattle.std.proofs.Common.{◌≡◌, ◌*◌, ◌≤◌, take}
use Rattle.std.specs.List.{sum_by}
use Rattle.nets.specs.Cut.{charge}
use Rattle.nets.proofs.tables.Tables.cut.Given as goal

-- what the nets so far are charged
abbrev pub invariant-loop-net : goal.invariant-loop-net
invariant-loop-net l =
    (l.sum ≡ sum_by (charge l.row l.self.pins.items) (take l.net-index l.self.nets.items)) × (l.sum ≤ 999999 * l.net-index)
