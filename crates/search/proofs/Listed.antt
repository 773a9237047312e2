-- The loop over the phases. Assumes nothing.
use Rattle.std.proofs.Common.{◌≡◌, ℕ, suc, ◌+◌, ◌-◌, ◌<◌, Bool, ◌∷◌, [], List, ◌++◌, length, get_or, take, sym, ap, ◌∙◌, subst, ap₂, append_assoc, arith}
use Rattle.std.proofs.lemmas.List.{append-nil, take_more, take_all}
use Rattle.cost.specs.Kind.{KindLaws}
use Rattle.cost.specs.declared.line.Line.{Line}
use Rattle.partition.specs.Joined.{joined}
use Rattle.partition.specs.Names.{groups}
use Rattle.partition.proofs.Joins.{joined_groups}
use Rattle.search.specs.Phases.{first_line, phases}
use Rattle.search.proofs.Arranged.{Ends, order_ends}
use Rattle.search.proofs.Names.{Grouped, joined_grouped}

module _ {C X : Type 0} (amount : C → X) (plus : X → X → X) (le : X → X → Bool) (price : List ℕ → C) (n count : ℕ) (names : List ℕ) where
  -- after i turns: the first i lines are those of the first i phases, and the others go on from the names as they now are
  pub record Listed (i : ℕ) (now_names : List ℕ) (lines : List (Line C)) : Type 0 where
    pub goes_on : phases amount plus le price count names ≡ take i lines ++ phases amount plus le price (count - i) now_names
    pub grouped : Grouped n now_names
    pub standing : groups now_names ≡ suc (count - i)

  pub listed_none : (lines : List (Line C)) → Grouped n names → groups names ≡ count + 1 → Listed 0 names lines
  listed_none lines grouped standing = record { goes_on = let z : count ≡ count - 0 = omega arith in ap (λ k. phases amount plus le price k names) z; grouped = grouped; standing = omega arith }

  pub listed_more : KindLaws plus le → (i k : ℕ) (now_names next_names : List ℕ) (lines next_lines : List (Line C)) (line : Line C) →
      Listed i now_names lines → i < count → k ≡ count - i → line ≡ first_line amount plus le price k now_names → i < length next_lines →
      ((d : Line C) → get_or next_lines i d ≡ line) → take i next_lines ≡ take i lines → next_names ≡ joined line.t line.u now_names → Listed (i + 1) next_names next_lines
  listed_more laws i k now_names next_names lines next_lines line f within ek el room written kept ej = record {
    goes_on =
        f.goes_on ∙ ap (λ ls. take i lines ++ ls) one_more
        ∙ sym (append_assoc (take i lines) (line ∷ []) rest)
        ∙ ap (λ ls. ls ++ rest) (sym (take_more next_lines i line room ∙ ap₂ (λ ls l. ls ++ (l ∷ [])) kept (written line)));
    grouped = subst (Grouped n) (sym ej) (joined_grouped f.grouped line.t line.u ends.0 ends.1 ends.2);
    standing = ap groups ej ∙ omega (arith, f.standing, joined_groups now_names f.grouped.named line.t line.u ends.0 ends.1 ends.2);
  }
    where
      more : count - i ≡ suc (count - (i + 1))
      more = omega arith

      rest : List (Line C)
      rest = phases amount plus le price (count - (i + 1)) next_names

      first : ℕ → Line C
      first k = first_line amount plus le price k now_names

      line_is : line ≡ first (suc (count - (i + 1)))
      line_is = el ∙ ap first (ek ∙ more)

      one_more : phases amount plus le price (count - i) now_names ≡ line ∷ rest
      one_more =
          ap (λ k. phases amount plus le price k now_names) more
          ∙ sym (ap₂ (λ x y. x ∷ phases amount plus le price (count - (i + 1)) y) line_is (ej ∙ ap (λ x. joined x.t x.u now_names) line_is))

      ends : Ends f.grouped amount plus le price laws line.t line.u
      ends =
          subst (λ x. Ends f.grouped amount plus le price laws x.t x.u) (sym line_is)
          (order_ends f.grouped amount plus le price laws (count - (i + 1)) (omega (arith, f.standing)))

  pub listed_all : (i : ℕ) (now_names : List ℕ) (lines : List (Line C)) → Listed i now_names lines → i ≡ count → length lines ≡ count →
      lines ≡ phases amount plus le price count names
  listed_all i now_names lines f e long =
      let z : count - i ≡ 0 = omega arith in
      sym (take_all i lines (omega arith))
      ∙ sym (append-nil (take i lines))
      ∙ sym (f.goes_on ∙ ap (λ k. take i lines ++ phases amount plus le price k now_names) z)
