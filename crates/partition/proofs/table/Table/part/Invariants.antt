use Rattle.std.proofs.Common.{◌≡◌, ℕ, length}
use Rattle.partition.specs.Records.{parted, rewritten}
use Rattle.partition.specs.declared.table.Record.{Record}
use Rattle.partition.proofs.Rewrites.{Rewrites}
use Rattle.partition.proofs.table.Table.part.Given as goal

-- the records below i are rewritten
abbrev pub invariant-loop-i : goal.invariant-loop-i
invariant-loop-i l =
    let old = l.initial.self in
    let new : ℕ → Record → Record = parted l.g in
    (l.self ≡ rewritten new 0 l.i old) × (length l.self ≡ length old) × Rewrites new old
