-- A row divides no group exactly if it marks each part as it marks the lowest part of its group. Assumes nothing.
use Rattle.std.proofs.Common.{◌≡◌, ℕ, ◌<◌, true, false, List, length, get_or, sym, ap, ◌∙◌, inl, inr, arith}
use Rattle.std.proofs.lemmas.Bool.{cases_Bool}
use Rattle.measure.specs.Rows.{marks}
use Rattle.partition.specs.Names.{Named}
use Rattle.search.specs.Certificate.{divides}
use Rattle.search.proofs.Divided.{marks_alike, divides_none}

module _ (names row : List ℕ) (named : Named names) where
  pub divides_at : (p : ℕ) → p < length names → ¬ (marks row p ≡ marks row (get_or names p 0)) → divides names row ≡ true
  divides_at p h differ =
      elim (cases_Bool (divides names row)) [
        | inl e ↦ e
        | inr e ↦ absurd (differ (marks_alike names row e p (get_or names p 0) h (omega (arith, named.0 p h)) (sym (named.1 p h))))
      ]

  pub divides_nowhere : ((p : ℕ) → p < length names → marks row p ≡ marks row (get_or names p 0)) → divides names row ≡ false
  divides_nowhere same = divides_none names row (λ p q hp hq e. same p hp ∙ ap (marks row) e ∙ sym (same q hq))
