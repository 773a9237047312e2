-- Columns are sound just where a making finds no fault. Assumes nothing.
use Rattle.std.specs.Prelude.{◌≡◌, ℕ, List, Ok}
use Rattle.std.proofs.Common.{arith}
use Rattle.std.proofs.lemmas.Bool.Decides.{nat_tests}
use Rattle.coder.specs.Making.{Sound, verdict}

pub sound_parts : (n rows : ℕ) (columns : List ℕ) → verdict n rows columns ≡ Ok tt → Sound n rows columns
sound_parts n rows columns h = record { few = grind (arith, nat_tests, h); short = grind (arith, nat_tests, h); long = grind (arith, nat_tests, h); fit = grind (arith, nat_tests, h) }

pub sound_passes : (n rows : ℕ) (columns : List ℕ) → Sound n rows columns → verdict n rows columns ≡ Ok tt
sound_passes n rows columns s = grind (arith, nat_tests, s.few, s.short, s.long, s.fit)
