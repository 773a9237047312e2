-- What a whole cost and a pair of whole costs count as, and how pairs are added and ordered. Assumes nothing.
use Rattle.std.specs.Prelude.{ℕ, ◌+◌, min, Bool, ◌&&◌, ◌||◌, ◌==◌, nat_le, nat_lt}
use Rattle.cost.specs.declared.whole.Whole.{Whole}
use Rattle.cost.specs.declared.pair.Pair.{Pair}

-- the highest whole cost
abbrev pub highest : ℕ
highest = 99999999999

-- a record of more counts as the highest
abbrev pub capped : ℕ → ℕ
capped n = min n highest

abbrev pub whole_amount : Whole → ℕ
whole_amount w = capped w.value

pub record Amounts : Type 0 where
  pub first : ℕ
  pub second : ℕ

abbrev pub pair_amount : Pair → Amounts
pair_amount p = record { first = whole_amount p.first; second = whole_amount p.second }

abbrev pub pair_plus : Amounts → Amounts → Amounts
pair_plus a b = record { first = a.first + b.first; second = a.second + b.second }

-- by the first number, then by the second
abbrev pub pair_le : Amounts → Amounts → Bool
pair_le a b = nat_lt a.first b.first || (a.first == b.first && nat_le a.second b.second)
