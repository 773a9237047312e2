-- The file of a content, and what the writer answers and leaves. Assumes nothing.
use Rattle.std.specs.Prelude.{ℕ, ◌+◌, ◌/◌, ◌%◌, ◌^◌, Bool, cond, ◌&&◌, ltb, leb, List, [], ◌∷◌, ◌++◌, map, length, take, drop, Ok, Err, Result, ◌==◌, nat_le, nat_lt}
use Rattle.std.specs.List.{range_with_len, flat_map, list_all}
use Rattle.columns.specs.Field.{field}
use Rattle.measure.specs.Limits.{count_fits}
use Rattle.nets.specs.declared.net.Net.{Net}
use Rattle.figure.specs.Content.{Content}
use Rattle.figure.specs.Cut.{pieces}
use Rattle.figure.specs.Kinds.{kind_number, multipliers}
use Rattle.figure.specs.Reading.{whole_closeness}
use Rattle.figure.specs.Rules.{letter_F, letter_M, letter_N, letter_C, letter_B, letter_W, within}
use Rattle.figure.specs.Tables.{Tables, over, roomy, content_in}
use Rattle.figure.specs.declared.fault.WriteFault.{WriteFault}
use Rattle.figure.specs.declared.fault.WriteFault.TheVariants.{Short, Content as Unheld}
use Rattle.figure.specs.declared.header.Header.{Header}
use Rattle.figure.specs.declared.header.Weld.{Weld}

-- a row of text: its letter, its numbers in fields of w columns, and byte 10
abbrev pub row_text : ℕ → ℕ → List ℕ → List ℕ
row_text w l vs = (l ∷ flat_map (field w) vs) ++ (10 ∷ [])

-- the rows N of the nets, whose pins follow on from one another
abbrev pub net_rows : ℕ → List Net → List ℕ → List ℕ
net_rows w [] pins = []
net_rows w (net ∷ nets) pins = row_text w letter_N (net.weight ∷ take net.count pins) ++ net_rows w nets (drop net.count pins)

-- the rows C of a closeness table of n parts
abbrev pub entry_rows : ℕ → ℕ → List ℕ → List ℕ
entry_rows w n entries = flat_map (row_text w letter_C) (pieces n entries)

-- entry i of each column
abbrev pub bits_of : ℕ → List ℕ → List ℕ
bits_of i columns = map (λ c. c / 2 ^ i % 2) columns

-- the rows B of the matrix
abbrev pub matrix_rows : ℕ → ℕ → List ℕ → List ℕ
matrix_rows w rows columns = flat_map (λ i. row_text w letter_B (bits_of i columns)) (range_with_len 0 rows)

-- the rows W of the welds
abbrev pub weld_rows : ℕ → List Weld → List ℕ
weld_rows w welds = flat_map (λ x. row_text w letter_W (x.a ∷ x.b ∷ [])) welds

-- the rows F and M
abbrev pub head_rows : ℕ → Content → List ℕ
head_rows w c = row_text w letter_F (c.n ∷ []) ++ row_text w letter_M (kind_number c.kind ∷ c.p ∷ c.q ∷ [])

abbrev pub file_of : ℕ → Content → List ℕ
file_of w c =
    head_rows w c ++ (net_rows w c.nets c.pins ++ (entry_rows w c.n c.closeness ++ (matrix_rows w c.rows c.columns ++ weld_rows w c.welds)))

-- the nets' pins follow on from place k to place m, 1 to 80 for each net, whose weight is at most `top`
abbrev pub follow : ℕ → ℕ → List Net → ℕ → Bool
follow top k [] m = k == m
follow top k (net ∷ nets) m =
    (nat_le net.weight top && (net.first == k && (nat_le 1 net.count && nat_le net.count 80))) && follow top (k + net.count) nets m

-- an accepted file can hold the content
abbrev pub admits : ℕ → Content → Bool
admits top c =
    (count_fits c.n && (within (multipliers c.kind) c.p && within (multipliers c.kind) c.q))
    && ((nat_le (length c.nets) 500 && (nat_le (length c.pins) 4000 && (nat_le c.rows 64 && nat_le (length c.welds) 200)))
    && ((follow top 0 c.nets (length c.pins) && list_all (λ v. ltb v c.n) c.pins)
    && ((whole_closeness c.n c.kind (length c.closeness) && list_all (λ v. leb v top) c.closeness)
    && (list_all (λ v. ltb v (2 ^ c.rows)) c.columns && list_all (λ x. nat_lt x.a c.n && nat_lt x.b c.n) c.welds))))

-- the header counts no more than the tables have, and an accepted file can hold what they give
abbrev pub held : ℕ → Header → Tables → Bool
held top h t = roomy h t && admits top (content_in h t)

abbrev pub write_answer : ℕ → ℕ → Header → Tables → List ℕ → Result ℕ WriteFault
write_answer w top h t out =
    cond (held top h t) (cond (nat_le (length (file_of w (content_in h t))) (length out)) (Ok (length (file_of w (content_in h t)))) (Err Short)) (Err Unheld)

-- the file over the front of the buffer, or the buffer as it was
abbrev pub buffer_after : ℕ → ℕ → Header → Tables → List ℕ → List ℕ
buffer_after w top h t out =
    cond (held top h t && nat_le (length (file_of w (content_in h t))) (length out)) (over (file_of w (content_in h t)) out) out
