use Rattle.std.proofs.Common.{◌≡◌, ◌*◌, ◌^◌, ◌≤◌, take}
use Rattle.nets.specs.Cut.{weights}
use Rattle.nets.proofs.tables.Tables.total_weight.Given as goal

-- the weights so far
abbrev pub invariant-loop-net : goal.invariant-loop-net
invariant-loop-net l = (l.sum ≡ weights (take l.net-index l.self.nets.items)) × (l.sum ≤ 2 ^ 32 * l.net-index)
