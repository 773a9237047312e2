-- The numbers of the refusals. Assumes nothing.
use Rattle.std.specs.Prelude.{ℕ}
use Rattle.search.specs.declared.split.SplitFault.{SplitFault}
use Rattle.search.specs.declared.split.SplitFault.TheVariants.{Length, Lines}

abbrev pub split_number : SplitFault → ℕ
split_number Length = 61
split_number Lines = 44
