-- Tables are sound just where a making finds no fault. Assumes nothing.
use Rattle.std.specs.Prelude.{◌≡◌, ℕ, List, Ok}
use Rattle.std.proofs.Common.{arith}
use Rattle.std.proofs.lemmas.Bool.Decides.{nat_tests}
use Rattle.nets.specs.Making.{Sound, verdict}
use Rattle.nets.specs.declared.net.Net.{Net}

pub sound_parts : (n : ℕ) (nets : List Net) (pins : List ℕ) → verdict n nets pins ≡ Ok tt → Sound n nets pins
sound_parts n nets pins h = record { few = grind (arith, nat_tests, h); short = grind (arith, nat_tests, h); fits = grind (arith, nat_tests, h); named = grind (arith, nat_tests, h) }

pub sound_passes : (n : ℕ) (nets : List Net) (pins : List ℕ) → Sound n nets pins → verdict n nets pins ≡ Ok tt
sound_passes n nets pins s = grind (arith, nat_tests, s.few, s.short, s.fits, s.named)
