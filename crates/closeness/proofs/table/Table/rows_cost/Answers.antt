use Rattle.std.proofs.Common.{◌≡◌, ◌-◌, get_or, rules, tests, arith, refl}
use Rattle.std.proofs.lemmas.Iterator.{YieldsList-from_range}
use Rattle.std.proofs.lemmas.Iterator.Adapters.{fits_from_length, at_most_from_yields_List}
use Rattle.std.proofs.lemmas.List.FromFn.{length-range_with_len}
use Rattle.closeness.specs.Cut.{differs, row_cost}
use Rattle.closeness.specs.lemmas.Laws.{row_bound}
use Rattle.closeness.proofs.table.Table.rows_cost.Goals as goal

pub sum-requires-clause-fits : goal.sum-requires-clause-fits
sum-requires-clause-fits c =
    let t = c.args.self.now in
    let n = t.parts in
    let few = t.sound.few.1 in
    fits_from_length _ _ 80 _ (at_most_from_yields_List (YieldsList-from_range 0 n (n - 0) c.map.ensures.source refl) (omega (arith, length-range_with_len 0 (n - 0)))) c.map.ensures.closure (omega arith) (λ x r q k.
    let e : r ≡ row_cost n t.entries.items (differs c.args.row.now (get_or c.args.marks.now x 0)) x = search (rules, tests) in
    (search (rules, tests), omega (arith, e, row_bound n t.entries.items few t.sound.fits (differs c.args.row.now (get_or c.args.marks.now x 0)) x)))
