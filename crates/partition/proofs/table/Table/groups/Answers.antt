use Rattle.std.proofs.Common.{◌≡◌, ℕ, ◌-◌, cond, length, ap, ◌∙◌, rules, tests, arith, refl}
use Rattle.std.specs.List.{range_with_len, sum_by}
use Rattle.std.proofs.lemmas.Iterator.{YieldsList-from_map, YieldsList-from_range}
use Rattle.std.proofs.lemmas.Iterator.Adapters.{fits_from_length, at_most_from_yields_List}
use Rattle.std.proofs.lemmas.Iterator.Consumers.{sum_by_from_yields_List}
use Rattle.std.proofs.lemmas.List.FromFn.{length-range_with_len}
use Rattle.partition.specs.Names.{stands}
use Rattle.partition.specs.Records.{names_of}
use Rattle.partition.proofs.Counted.{count_groups}
use Rattle.partition.proofs.table.Table.groups.Goals as goal

pub sum-requires-clause-fits : goal.sum-requires-clause-fits
sum-requires-clause-fits c =
    let n = c.len.result in
    fits_from_length _ _ 80 _ (at_most_from_yields_List (YieldsList-from_range 0 n (n - 0) c.map.ensures.source refl) (omega (arith, c.len.ensures.answer, c.len.ensures.few, length-range_with_len 0 (n - 0)))) c.map.ensures.closure (omega arith) (λ x r q k. search (rules, tests))

pub returns : goal.returns
returns c =
    let n = c.len.result in
    let rs = c.args.self.now in
    let one = λ (i : ℕ). cond (stands (names_of rs) i) 1 0 in
    let all : n - 0 ≡ length rs = omega (arith, c.len.ensures.answer) in
    record {
      answer =
          sum_by_from_yields_List one (range_with_len 0 (n - 0)) c.map.result c.sum.result c.sum.ensures.ran
          (YieldsList-from_map _ one (YieldsList-from_range 0 n (n - 0) c.map.ensures.source refl) c.map.ensures.closure (λ x r q k. search (rules, tests)))
          ∙ ap (λ k. sum_by one (range_with_len 0 k)) all
          ∙ count_groups rs;
    }
