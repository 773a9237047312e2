use Rattle.std.proofs.Common.{◌≡◌, ℕ, ◌<◌, length, get_or}
use Rattle.search.proofs.find.write_names.Given as goal

-- the names before p are written
abbrev pub invariant-loop-p : goal.invariant-loop-p
invariant-loop-p l = (length l.names ≡ length l.groups) × ((k : ℕ) → k < l.p → get_or l.names k 0 ≡ get_or l.groups k 0)
