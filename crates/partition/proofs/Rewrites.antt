-- Records rewritten one by one. Assumes nothing.
use Rattle.std.proofs.Common.{◌≡◌, ℕ, zero, suc, ◌+◌, ◌<◌, List, [], ◌∷◌, length, get_or, set, sym, refl, ap, ◌∙◌, ap₂, arith}
use Rattle.std.proofs.lemmas.List.{set-get_or}
use Rattle.partition.specs.Records.{rewritten}
use Rattle.partition.specs.declared.table.Record.{Record}

pub length_rewritten : (f : ℕ → Record → Record) (k n : ℕ) (rs : List Record) → length (rewritten f k n rs) ≡ length rs
length_rewritten f k zero rs = refl
length_rewritten f k (suc n) [] = refl
length_rewritten f k (suc n) (r ∷ rs) = ap suc (length_rewritten f (suc k) n rs)

pub getD_rewritten : (f : ℕ → Record → Record) (k n : ℕ) (rs : List Record) (i : ℕ) (d : Record) → i < n → i < length rs →
    get_or (rewritten f k n rs) i d ≡ f (k + i) (get_or rs i d)
getD_rewritten f k zero rs i d l m = absurd (omega arith)
getD_rewritten f k (suc n) [] i d l m = absurd (omega arith)
getD_rewritten f k (suc n) (r ∷ rs) zero d l m = let e : k ≡ k + 0 = omega arith in ap (λ v. f v r) e
getD_rewritten f k (suc n) (r ∷ rs) (suc i) d l m =
    let e : suc k + i ≡ k + suc i = omega arith in
    getD_rewritten f (suc k) n rs i d (omega arith) (omega arith) ∙ ap (λ v. f v (get_or rs i d)) e

rewritten_more : (f : ℕ → Record → Record) (k n : ℕ) (rs : List Record) (r : Record) → n < length rs →
    r ≡ get_or (rewritten f k n rs) n r → set (rewritten f k n rs) n (f (k + n) r) ≡ rewritten f k (suc n) rs
rewritten_more f k zero [] r l e = absurd (omega arith)
rewritten_more f k (suc n) [] r l e = absurd (omega arith)
rewritten_more f k zero (s ∷ rs) r l e =
    let h : k + 0 ≡ k = omega arith in
    ap (λ v. v ∷ rs) (ap (λ v. f v r) h ∙ ap (f k) e)
rewritten_more f k (suc n) (s ∷ rs) r l e =
    let h : k + suc n ≡ suc k + n = omega arith in
    ap (λ v. f k s ∷ set (rewritten f (suc k) n rs) n (f v r)) h ∙ ap (λ v. f k s ∷ v) (rewritten_more f (suc k) n rs r (omega arith) e)

-- what a loop that rewrites the records one by one needs: a record is changed, or is as it should be
pub record Rewrites (f : ℕ → Record → Record) (old : List Record) : Type 0 where
  pub next : (k : ℕ) (rs : List Record) (r v : Record) → k < length old → rs ≡ rewritten f 0 k old → r ≡ get_or rs k r → v ≡ f k r →
      set rs k v ≡ rewritten f 0 (k + 1) old
  pub keep : (k : ℕ) (rs : List Record) (r : Record) → k < length old → rs ≡ rewritten f 0 k old → r ≡ get_or rs k r → r ≡ f k r →
      rs ≡ rewritten f 0 (k + 1) old

pub rewrites : (f : ℕ → Record → Record) (old : List Record) → Rewrites f old
rewrites f old = record {
  next = step;
  keep = λ k rs r l e h j. sym (set-get_or rs k r) ∙ ap (set rs k) (sym h) ∙ step k rs r r l e h j;
}
  where
    step : (k : ℕ) (rs : List Record) (r v : Record) → k < length old → rs ≡ rewritten f 0 k old → r ≡ get_or rs k r → v ≡ f k r →
        set rs k v ≡ rewritten f 0 (k + 1) old
    step k rs r v l e h j =
        let one : suc k ≡ k + 1 = omega arith in
        let here : k ≡ 0 + k = omega arith in
        let more = rewritten_more f 0 k old r l (h ∙ ap (λ s. get_or s k r) e) in
        ap₂ (λ s w. set s k w) e (j ∙ ap (λ i. f i r) here) ∙ more ∙ ap (λ m. rewritten f 0 m old) one
