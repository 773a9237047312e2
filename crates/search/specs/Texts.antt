-- The texts of the refusals. Assumes nothing.
use Rattle.std.specs.Prelude.{ℕ, List, codes}
use Rattle.search.specs.declared.split.SplitFault.{SplitFault}
use Rattle.search.specs.declared.split.SplitFault.TheVariants.{Length, Lines}

abbrev pub split_text : SplitFault → List ℕ
split_text Length = codes "61: the row has not one mark for each part"
split_text Lines = codes "44: there are fewer lines than groups less one"
