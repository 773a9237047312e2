-- The first byte 10 of a text ends its first row. Assumes nothing.
use Rattle.std.proofs.Common.{◌≡◌, ℕ, ◌+◌, ◌≤◌, ◌==◌, not, List, [], ◌∷◌, length, take, drop, Some, None, arith}
use Rattle.std.specs.List.{position, prefix_len}
use Rattle.std.proofs.lemmas.Bool.Decides.{nat_tests}
use Rattle.std.proofs.lemmas.Grind.{common_steps}
use Rattle.std.proofs.lemmas.List.{take_rest}
use Rattle.std.proofs.lemmas.List.Quantifiers.{position-Some}
use Rattle.std.proofs.lemmas.List.Sums.{prefix_len_passes}
use Rattle.figure.specs.Cut.{cut}
use Rattle.figure.proofs.Cutting.{cut_none, cut_some}

pub cut_at : (s : List ℕ) (i : ℕ) → position (λ b. b == 10) s ≡ Some i → cut s ≡ take i s ∷ cut (drop (i + 1) s)
cut_at s i h = let a = position-Some (λ b. b == 10) s i 0 h in cut_some s i a.0 (λ k m e. let f = a.2 k m in grind (arith, nat_tests)) (let f = a.1 in grind (arith, nat_tests))

pub cut_whole : (s : List ℕ) → position (λ b. b == 10) s ≡ None → cut s ≡ s ∷ []
cut_whole s h =
    let all : length s ≤ prefix_len (λ b. not (b == 10)) s = grind (arith, common_steps) in
    cut_none s (λ k l e. let f = prefix_len_passes (λ b. not (b == 10)) s k 0 (omega arith) in grind (arith, nat_tests))

-- what the cut into rows needs
pub ruleset cuts = (cut_at, cut_whole, take_rest)
