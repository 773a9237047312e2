-- The kinds of measure, and the range of the multipliers p and q of each. Assumes nothing.
use Rattle.std.specs.Prelude.{ℕ, ◌≤◌, Bool, true, false, cond, ◌==◌}
use Rattle.figure.specs.declared.header.Kind.{Kind}
use Rattle.figure.specs.declared.header.Kind.TheVariants.{Nets, Closeness, Coder, Sum, Tie}
use Rattle.figure.specs.declared.rule.Range.{Range}

abbrev pub kind_number : Kind → ℕ
kind_number Nets = 1
kind_number Closeness = 2
kind_number Coder = 3
kind_number Sum = 4
kind_number Tie = 5

-- the numbers of the kinds
abbrev pub kinds : Range
kinds = record { low = 1; high = 5 }

-- is it the number of a kind?
abbrev pub IsKindNumber : ℕ → Type 0
IsKindNumber k = (1 ≤ k) × (k ≤ 5)

-- the kind with one of these numbers
abbrev pub kind_of : ℕ → Kind
kind_of k = cond (k == 1) Nets (cond (k == 2) Closeness (cond (k == 3) Coder (cond (k == 4) Sum Tie)))

-- a sum's multipliers; any other kind has none, and 0 stands for them
abbrev pub multipliers : Kind → Range
multipliers Nets = record { low = 0; high = 0 }
multipliers Closeness = record { low = 0; high = 0 }
multipliers Coder = record { low = 0; high = 0 }
multipliers Sum = record { low = 1; high = 1000 }
multipliers Tie = record { low = 0; high = 0 }

-- the kind's measure wants a closeness table
abbrev pub needs_closeness : Kind → Bool
needs_closeness Nets = false
needs_closeness Closeness = true
needs_closeness Coder = false
needs_closeness Sum = true
needs_closeness Tie = true
