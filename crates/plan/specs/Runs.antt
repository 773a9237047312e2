-- A run of calls on a new plan, carried out in place. Assumes nothing.
use Rattle.std.specs.Prelude.{◌≡◌, ℕ, ◌-◌, ◌<◌, Bool, List, map, length, take, Ok, vec_items, slice_index_or}
use Rattle.partition.specs.Names.{members}
use Rattle.search.specs.Certificate.{Certified}
use Rattle.search.specs.declared.split.Split.{Split}
use Rattle.plan.specs.Replies.{reply, row_left, lines_left}
use Rattle.plan.specs.Standing.{standing_after}
use Rattle.plan.specs.declared.call.Answer.TheVariants as answer
use Rattle.plan.specs.declared.call.Call.{Call}
use Rattle.plan.specs.declared.call.Step.{Step}

abbrev pub calls_of : {C : Type 0} → List (Step C) → List Call
calls_of steps = map (λ step. step.call) steps

-- each part's group's size
abbrev pub sizes : List ℕ → List ℕ
sizes names = map (λ name. members name names) names

module _ {C X : Type 0} (amount : C → X) (plus : X → X → X) (le : X → X → Bool) (price : List ℕ → C) (n : ℕ) where
  -- a step as it was given and as it is given back, where `names` stand: the call stays, the answer and the buffers are those of the call
  pub record Done (names : List ℕ) (old new : Step C) : Type 0 where
    pub call : new.call ≡ old.call
    pub answer : new.answer ≡ reply amount plus le price n names (vec_items old.row) (vec_items old.lines) old.call
    pub row : vec_items new.row ≡ row_left amount plus le price n names (vec_items old.row) (vec_items old.lines) old.call
    pub lines : vec_items new.lines ≡ lines_left amount plus le price n names (vec_items old.row) (vec_items old.lines) old.call

  -- a step that is an accepted split has the whole certificate, for the groups that `names` give
  abbrev pub Certain : List ℕ → Step C → Type 0
  Certain names step =
      (split : Split C) → step.answer ≡ answer.Split (Ok split) →
      Certified amount le price names (vec_items step.row) (take (split.groups - 1) (vec_items step.lines)) split.cost

-- at each place of a run, for the groups that stand after the calls before it: of the step as it was given and as it is given back
abbrev pub Each : {C : Type 0} → ℕ → (List ℕ → Step C → Step C → Type 0) → List (Step C) → List (Step C) → Type 0
Each {C} n P given back =
    (k : ℕ) (d : Step C) → k < length given → P (standing_after n (calls_of (take k given))) (slice_index_or given k d) (slice_index_or back k d)
