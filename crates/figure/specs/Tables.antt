-- The lent tables: what reading answers and leaves in them, and the content that they hold with a header. Assumes nothing.
use Rattle.std.specs.Prelude.{ℕ, Bool, cond, ◌&&◌, List, ◌++◌, length, take, drop, Ok, Err, Result, nat_le}
use Rattle.nets.specs.declared.net.Net.{Net}
use Rattle.figure.specs.Content.{Content, header_of}
use Rattle.figure.specs.Cut.{and_then}
use Rattle.figure.specs.declared.fault.FileFault.{FileFault}
use Rattle.figure.specs.declared.fault.FileFault.TheVariants.{TableShort}
use Rattle.figure.specs.declared.header.Header.{Header}
use Rattle.figure.specs.declared.header.Weld.{Weld}

pub record Tables : Type 0 where
  pub nets : List Net
  pub pins : List ℕ
  pub closeness : List ℕ
  pub columns : List ℕ
  pub welds : List Weld

abbrev pub tables : List Net → List ℕ → List ℕ → List ℕ → List Weld → Tables
tables nets pins closeness columns welds = record { nets = nets; pins = pins; closeness = closeness; columns = columns; welds = welds }

-- xs over the front of ys; what lies beyond stays
abbrev pub over : {X : Type 0} → List X → List X → List X
over xs ys = xs ++ drop (length xs) ys

-- every table is long enough for what the header counts
abbrev pub roomy : Header → Tables → Bool
roomy h t =
    nat_le h.nets (length t.nets) && (nat_le h.pins (length t.pins) && (nat_le h.closeness (length t.closeness)
    && (nat_le h.n (length t.columns) && nat_le h.welds (length t.welds))))

-- the content over the fronts of the tables
abbrev pub filled : Content → Tables → Tables
filled c t = tables (over c.nets t.nets) (over c.pins t.pins) (over c.closeness t.closeness) (over c.columns t.columns) (over c.welds t.welds)

-- the content, if the tables have room for it
abbrev pub lodged : Tables → Content → Result Content FileFault
lodged t c = cond (roomy (header_of c) t) (Ok c) (Err TableShort)

-- what reading answers, where the file holds what `file` says
abbrev pub read_answer : Result Content FileFault → Tables → Result Header FileFault
read_answer file t = and_then (and_then file (lodged t)) (λ c. Ok (header_of c))

abbrev pub filled_by : Result Content FileFault → Tables → Tables
filled_by (Ok c) t = filled c t
filled_by (Err e) t = t

-- what the tables hold then
abbrev pub tables_after : Result Content FileFault → Tables → Tables
tables_after file t = filled_by (and_then file (lodged t)) t

-- the content that a header and tables give
abbrev pub content_in : Header → Tables → Content
content_in h t =
    record {
      n = h.n;
      kind = h.kind;
      p = h.p;
      q = h.q;
      nets = take h.nets t.nets;
      pins = take h.pins t.pins;
      closeness = take h.closeness t.closeness;
      rows = h.rows;
      columns = take h.n t.columns;
      welds = take h.welds t.welds;
    }
