-- A table with a box for each of n parts is sound just where a making finds no fault. Assumes nothing.
use Rattle.std.specs.Prelude.{◌≡◌, ℕ, List, length, Ok}
use Rattle.std.proofs.Common.{arith}
use Rattle.std.proofs.lemmas.Bool.Decides.{nat_tests}
use Rattle.compose.specs.Fold.{Sound, verdict}

pub sound_parts : (n : ℕ) (boxes : List ℕ) (m : ℕ) → verdict n boxes m ≡ Ok tt → (length boxes ≡ n) × Sound m boxes
sound_parts n boxes m h = (grind (arith, nat_tests, h), record { few = grind (arith, nat_tests, h); named = grind (arith, nat_tests, h); full = grind (arith, nat_tests, h) })

pub sound_passes : (n : ℕ) (boxes : List ℕ) (m : ℕ) → length boxes ≡ n → Sound m boxes → verdict n boxes m ≡ Ok tt
sound_passes n boxes m long s = grind (arith, nat_tests, long, s.few, s.named, s.full)
