-- The loop that carries out the calls of a run. Assumes nothing.
use Rattle.std.proofs.Common.{◌≡◌, ℕ, ◌+◌, ◌<◌, ◌≤◌, Bool, ◌≢◌, List, [], ◌∷◌, ◌++◌, length, get_or, take, drop, set, sym, refl, ap, ◌∙◌, subst, subst₂, arith, below_more}
use Rattle.std.proofs.lemmas.List.{take_more, take_all, get_or_default, get_or-drop, drop-set-lt, drop-drop, get_or-set_same, get_or-set_other, map_push}
use Rattle.partition.specs.Names.{singles}
use Rattle.plan.specs.Runs.{Certain, Done, Each, calls_of}
use Rattle.plan.specs.Standing.{after, stepped}
use Rattle.plan.specs.declared.call.Call.{Call}
use Rattle.plan.specs.declared.call.Step.{Step}

after_push : (names : List ℕ) (calls : List Call) (call : Call) → after names (calls ++ (call ∷ [])) ≡ stepped (after names calls) call
after_push names [] call = refl
after_push names (c ∷ calls) call = after_push (stepped names c) calls call

-- one call more
pub after_more : {C : Type 0} (names : List ℕ) (steps : List (Step C)) (i : ℕ) (d : Step C) → i < length steps →
    after names (calls_of (take (i + 1) steps)) ≡ stepped (after names (calls_of (take i steps))) (get_or steps i d).call
after_more names steps i d within =
    ap (λ ss. after names (calls_of ss)) (take_more steps i d within)
    ∙ ap (after names) (map_push (λ s. s.call) (take i steps) (get_or steps i d))
    ∙ after_push names (calls_of (take i steps)) (get_or steps i d).call

-- a list that is changed from the front: what lies from i on is still as it was
module _ {X : Type 0} (old new : List X) (i : ℕ) (rest : drop i new ≡ drop i old) where
  same_at : (d : X) → get_or new i d ≡ get_or old i d
  same_at d =
      let z : i + 0 ≡ i = omega arith in
      ap (λ (k : ℕ). get_or new k d) (sym z) ∙ sym (get_or-drop i new 0 d) ∙ ap (λ (v : List X). get_or v 0 d) rest ∙ get_or-drop i old 0 d ∙ ap (λ (k : ℕ). get_or old k d) z

  rest_more : (y : X) → drop (i + 1) (set new i y) ≡ drop (i + 1) old
  rest_more y = drop-set-lt (i + 1) new i y (omega arith) ∙ sym (drop-drop 1 i new) ∙ ap (drop 1) rest ∙ drop-drop 1 i old

  each_more : (K : ℕ → X → X → Type 0) (y : X) → i < length new → ((k : ℕ) (d : X) → k < i → K k (get_or old k d) (get_or new k d)) → ((d : X) → K i (get_or old i d) y) →
      (k : ℕ) (d : X) → k < i + 1 → K k (get_or old k d) (get_or (set new i y) k d)
  each_more K y here before at k d =
      below_more (λ k. K k (get_or old k d) (get_or (set new i y) k d)) i
      (λ k h. let ne : k ≢ i = omega arith in rw get_or-set_other (before k d h))
      (rw get_or-set_same (at d)) k

module _ {C X P M : Type 0} (amount : C → X) (plus : X → X → X) (le : X → X → Bool) (count : M → ℕ) (price : M → List ℕ → C) (measure : P → M) (groups : P → List ℕ)
    (plan : P) (steps : List (Step C)) where
  -- the groups that stand after the first k calls
  abbrev pub stood : ℕ → List ℕ
  stood k = after (groups plan) (calls_of (take k steps))

  -- what holds of a step that was carried out on a plan with this measure and these groups
  abbrev pub Both : M → List ℕ → Step C → Step C → Type 0
  Both m names x y = Done amount plus le (price m) (count m) names x y × Certain amount plus le (price m) (count m) names y

  -- the first i calls are carried out, and the steps behind are as they were
  pub record Carried (i : ℕ) (now_plan : P) (now_steps : List (Step C)) : Type 0 where
    pub same : measure now_plan ≡ measure plan
    pub standing : groups now_plan ≡ stood i
    pub each : (k : ℕ) (d : Step C) → k < i → Both (measure plan) (stood k) (get_or steps k d) (get_or now_steps k d)
    pub rest : drop i now_steps ≡ drop i steps

  pub carried_none : Carried 0 plan steps
  carried_none = record { same = refl; standing = refl; each = λ k d l. absurd (omega arith); rest = refl }

  pub carried_more : (i : ℕ) (now_plan next_plan : P) (now_steps : List (Step C)) (item new : Step C) → Carried i now_plan now_steps → i < length steps → length now_steps ≡ length steps →
      item ≡ get_or now_steps i item →
      Both (measure now_plan) (groups now_plan) item new →
      groups next_plan ≡ stepped (groups now_plan) item.call →
      measure next_plan ≡ measure now_plan →
      Carried (i + 1) next_plan (set now_steps i new)
  carried_more i now_plan next_plan now_steps item new f within long read did standing same = record {
    same = same ∙ f.same;
    standing =
        standing
        ∙ ap (λ ns. stepped ns item.call) f.standing
        ∙ ap (λ s. stepped (stood i) s.call) here
        ∙ sym (after_more (groups plan) steps i item within);
    each = each_more steps now_steps i f.rest (λ k. Both (measure plan) (stood k)) new (omega arith) f.each at;
    rest = rest_more steps now_steps i f.rest new;
  }
    where
      here : item ≡ get_or steps i item
      here = read ∙ same_at steps now_steps i f.rest item

      at : (d : Step C) → Both (measure plan) (stood i) (get_or steps i d) new
      at d = subst (λ x. Both (measure plan) (stood i) x new) (here ∙ get_or_default steps i item d within) (subst₂ (λ m ns. Both m ns item new) f.same f.standing did)

  pub stood_all : (i : ℕ) → length steps ≤ i → stood i ≡ after (groups plan) (calls_of steps)
  stood_all i done = ap (λ ss. after (groups plan) (calls_of ss)) (take_all i steps done)

-- a run on a plan that is new: it holds the measure that was given, and each part is a group
module _ {C X M : Type 0} (amount : C → X) (plus : X → X → X) (le : X → X → Bool) (count : M → ℕ) (price : M → List ℕ → C) (measure held : M) (groups : List ℕ)
    (same : held ≡ measure) (new : groups ≡ singles (count measure)) (given back : List (Step C)) where
  pub each_done : ((k : ℕ) (d : Step C) → k < length given → Done amount plus le (price held) (count held) (after groups (calls_of (take k given))) (get_or given k d) (get_or back k d)) →
      Each (count measure) (Done amount plus le (price measure) (count measure)) given back
  each_done did k d h = subst₂ (λ m ns. Done amount plus le (price m) (count m) (after ns (calls_of (take k given))) (get_or given k d) (get_or back k d)) same new (did k d h)

  pub each_certain : ((k : ℕ) (d : Step C) → k < length given → Certain amount plus le (price held) (count held) (after groups (calls_of (take k given))) (get_or back k d)) →
      Each (count measure) (λ names _ step. Certain amount plus le (price measure) (count measure) names step) given back
  each_certain did k d h = subst₂ (λ m ns. Certain amount plus le (price m) (count m) (after ns (calls_of (take k given))) (get_or back k d)) same new (did k d h)
