use Rattle.std.proofs.Common.{◌≡◌, ℕ, length}
use Rattle.partition.specs.Records.{merged, rewritten}
use Rattle.partition.specs.declared.table.Record.{Record}
use Rattle.partition.proofs.Rewrites.{Rewrites}
use Rattle.partition.proofs.table.Table.join.Given as goal

-- the records below i are rewritten
abbrev pub invariant-loop-i : goal.invariant-loop-i
invariant-loop-i l =
    let old = l.initial.self in
    let new : ℕ → Record → Record = λ _. merged l.x l.y in
    (l.self ≡ rewritten new 0 l.i old) × (length l.self ≡ length old) × Rewrites new old
