use Rattle.std.proofs.Common.{ap, ◌∙◌, length}
use Rattle.std.proofs.lemmas.List.FromFn.{length-range_with_len}
use Rattle.partition.proofs.Kept.{fresh_partition}
use Rattle.partition.proofs.partition.Partition.fresh.Goals as goal

pub invariant_of-result : goal.invariant_of-result
invariant_of-result c = (fresh_partition c.args.len c.requires.few c.blank-table.ensures.answer c.part.ensures.after).0

pub returns : goal.returns
returns c =
    let answer = (fresh_partition c.args.len c.requires.few c.blank-table.ensures.answer c.part.ensures.after).1 in
    record { answer = answer; parts = ap length answer ∙ length-range_with_len 0 c.args.len }
