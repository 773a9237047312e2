use Rattle.std.proofs.Common.{arith}
use Rattle.search.proofs.Filled.{added_from}
use Rattle.search.proofs.rows.mark_added.Goals as goal

pub returns : goal.returns
returns c = record { after = added_from c.args.names.now c.args.row.now c.loop-p.row c.args.u (omega arith) (omega arith) (λ k l. c.loop-p.invariant.0 k (omega arith)) }
