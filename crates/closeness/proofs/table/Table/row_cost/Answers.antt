use Rattle.std.proofs.Common.{◌+◌, ◌-◌, rules, tests, arith, refl}
use Rattle.std.proofs.lemmas.Iterator.{YieldsList-from_range}
use Rattle.std.proofs.lemmas.Iterator.Adapters.{fits_from_length, at_most_from_yields_List}
use Rattle.std.proofs.lemmas.List.FromFn.{length-range_with_len}
use Rattle.closeness.proofs.table.Table.row_cost.Goals as goal

pub sum-requires-clause-fits : goal.sum-requires-clause-fits
sum-requires-clause-fits c =
    let n = c.args.self.now.parts in
    let few = c.args.self.now.sound.few.1 in
    let a = c.args.a + 1 in
    fits_from_length _ _ 80 _ (at_most_from_yields_List (YieldsList-from_range a n (n - a) c.map.ensures.source refl) (omega (arith, length-range_with_len a (n - a)))) c.map.ensures.closure (omega arith) (λ x r q k. search (rules, tests))
