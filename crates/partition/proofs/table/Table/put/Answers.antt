use Rattle.std.proofs.Common.{ap, ◌∙◌, arith, length, set}
use Rattle.std.proofs.Math.Seq.{take-set-lt}
use Rattle.partition.specs.Padded.{padded_back}
use Rattle.partition.proofs.table.Table.put.Goals as goal

pub returns : goal.returns
returns c =
    let table = c.self.inside in
    let long = ap length c.self.view_is in
    record {
      after =
          take-set-lt table.len table.records c.args.i c.args.r (omega (arith, long, (padded_back table.len table.records c.self.invariant).1))
          ∙ ap (λ rs. set rs c.args.i c.args.r) c.self.view_is;
    }
