use Rattle.std.proofs.Common.{refl}
use Rattle.std.proofs.lemmas.List.{drop-replicate, take-replicate}
use Rattle.partition.specs.Records.{blank}
use Rattle.partition.proofs.table.Table.blank.Goals as goal

pub invariant_of-result : goal.invariant_of-result
invariant_of-result c = (c.requires.few, refl, drop-replicate c.args.len 80 blank)

pub returns : goal.returns
returns c = record { answer = take-replicate c.args.len 80 blank c.requires.few }
