use Rattle.std.proofs.Common.{rules}
use Rattle.nets.specs.lemmas.Laws.{pins_named}
use Rattle.nets.proofs.tables.Tables.charge.Goals as goal

pub divided-requires : goal.divided-requires
divided-requires c = search (rules, pins_named)
