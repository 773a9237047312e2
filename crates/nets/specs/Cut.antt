-- What nets cost. Assumes nothing.
use Rattle.std.specs.Prelude.{ℕ, Bool, cond, not, ◌&&◌, List, take, drop}
use Rattle.std.specs.List.{list_any, sum_by}
use Rattle.measure.specs.Rows.{marks}
use Rattle.nets.specs.declared.net.Net.{Net}

-- the parts that a net's pins name
abbrev pub pins_of : List ℕ → Net → List ℕ
pins_of pins net = take net.count (drop net.first pins)

-- the row marks one of the parts and leaves another unmarked
abbrev pub divides : List ℕ → List ℕ → Bool
divides row parts = list_any (marks row) parts && list_any (λ p. not (marks row p)) parts

-- a net's weight if the row divides it
abbrev pub charge : List ℕ → List ℕ → Net → ℕ
charge row pins net = cond (divides row (pins_of pins net)) net.weight 0

abbrev pub cut : List Net → List ℕ → List ℕ → ℕ
cut nets pins row = sum_by (charge row pins) nets

-- the ceiling
abbrev pub weights : List Net → ℕ
weights nets = sum_by (λ net. net.weight) nets
