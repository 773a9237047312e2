-- The lent tables. Assumes nothing.
use Rattle.std.specs.Prelude.{◌≡◌}
use Rattle.figure.specs.Tables.{Tables as Held, tables}
use Rattle.reader.specs.declared.tables.Tables.{Tables}

-- what the tables hold
abbrev pub held : Tables → Held
held t = tables t.nets.now t.pins.now t.closeness.now t.columns.now t.welds.now

-- they are the same lent memory
pub record Same (old new : Tables) : Type 0 where
  pub nets : new.nets.ghost_name ≡ old.nets.ghost_name
  pub pins : new.pins.ghost_name ≡ old.pins.ghost_name
  pub closeness : new.closeness.ghost_name ≡ old.closeness.ghost_name
  pub columns : new.columns.ghost_name ≡ old.columns.ghost_name
  pub welds : new.welds.ghost_name ≡ old.welds.ghost_name
