-- A table is sound just where a making finds no fault. Assumes nothing.
use Rattle.std.specs.Prelude.{◌≡◌, ℕ, List, Ok}
use Rattle.std.proofs.Common.{arith}
use Rattle.std.proofs.lemmas.Bool.Decides.{nat_tests}
use Rattle.closeness.specs.Making.{Sound, verdict}

pub sound_parts : (n : ℕ) (table : List ℕ) → verdict n table ≡ Ok tt → Sound n table
sound_parts n table h = record { few = grind (arith, nat_tests, h); long = grind (arith, nat_tests, h); fits = grind (arith, nat_tests, h) }

pub sound_passes : (n : ℕ) (table : List ℕ) → Sound n table → verdict n table ≡ Ok tt
sound_passes n table s = grind (arith, nat_tests, s.few, s.long, s.fits)
