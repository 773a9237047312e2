-- Rows that are filled place by place. Assumes nothing.
use Rattle.std.proofs.Common.{◌≡◌, ℕ, ◌<◌, ◌≤◌, ◌||◌, eqb, List, length, get_or, sym, ◌∙◌, subst, arith}
use Rattle.std.proofs.lemmas.List.{ext_get_or}
use Rattle.measure.specs.Rows.{Row}
use Rattle.measure.proofs.Rows.{length_merged, getD_merged}
use Rattle.search.specs.Rows.{bit, alone, added}
use Rattle.search.proofs.Marked.{marked_row, bit_low}

pub added_from : (names row out : List ℕ) (u : ℕ) → length row ≡ length names → length out ≡ length names →
    ((k : ℕ) → k < length names → get_or out k 0 ≡ bit (eqb (get_or names k 0) u || eqb (get_or row k 0) 1)) → out ≡ added names row u
added_from names row out u size out_size h =
    ext_get_or 0 out (added names row u) (out_size ∙ sym (length_merged _ names row (sym size)))
    (λ k l. let i : k < length names = omega arith in h k i ∙ sym (getD_merged _ names row k (sym size) i))

pub row_alone : (n u : ℕ) (names out : List ℕ) → length names ≡ n → out ≡ alone names u → Row n out
row_alone n u names out size e = subst (Row n) (sym e) (subst (λ k. Row k (alone names u)) size (marked_row _ names))

pub row_added : (n u : ℕ) (names row out : List ℕ) → length names ≡ n → length row ≡ length names → out ≡ added names row u → Row n out
row_added n u names row out size same e =
    subst (Row n) (sym e)
    (record {
      long = length_merged _ names row (sym same) ∙ size;
      bits = λ k h. subst (λ x. x ≤ 1) (sym (getD_merged _ names row k (sym same) (omega arith))) (bit_low _);
    })
