-- Nets whose pins follow on from one another. Assumes nothing.
use Rattle.std.proofs.Common.{◌≡◌, ℕ, ◌+◌, ◌≤◌, true, ◌&&◌, eqb, leb, List, [], ◌∷◌, ◌++◌, length, take, drop, sym, ap, ◌∙◌, subst, append_assoc, arith, length-drop}
use Rattle.std.proofs.lemmas.List.{append-nil, take_all, take-append-le, drop-append-le}
use Rattle.std.proofs.lemmas.Bool.{and_from, and_parts, eq-eqb, eqb-true, le-leb, leb-true}
use Rattle.nets.specs.declared.net.Net.{Net}
use Rattle.figure.specs.Rules.{letter_N}
use Rattle.figure.specs.Writing.{row_text, net_rows, follow}

-- a net at its place k
pub record Placed (top k : ℕ) (net : Net) : Type 0 where
  pub light : net.weight ≤ top
  pub at : net.first ≡ k
  pub some : 1 ≤ net.count
  pub few : net.count ≤ 80

pub follow_parts : (top k : ℕ) (net : Net) (nets : List Net) (m : ℕ) → follow top k (net ∷ nets) m ≡ true → Placed top k net × (follow top (k + net.count) nets m ≡ true)
follow_parts top k net nets m h =
    let a = and_parts (leb net.weight top && (eqb net.first k && (leb 1 net.count && leb net.count 80))) (follow top (k + net.count) nets m) h in
    let b = and_parts (leb net.weight top) (eqb net.first k && (leb 1 net.count && leb net.count 80)) a.0 in
    let c = and_parts (eqb net.first k) (leb 1 net.count && leb net.count 80) b.1 in
    let d = and_parts (leb 1 net.count) (leb net.count 80) c.1 in
    (record { light = leb-true net.weight top b.0; at = eqb-true net.first k c.0; some = leb-true 1 net.count d.0; few = leb-true net.count 80 d.1 }, a.1)

follow_from : (top k : ℕ) (net : Net) (nets : List Net) (m : ℕ) → Placed top k net → follow top (k + net.count) nets m ≡ true → follow top k (net ∷ nets) m ≡ true
follow_from top k net nets m p h =
    and_from (leb net.weight top && (eqb net.first k && (leb 1 net.count && leb net.count 80))) (follow top (k + net.count) nets m)
    (and_from (leb net.weight top) (eqb net.first k && (leb 1 net.count && leb net.count 80)) (le-leb net.weight top p.light)
    (and_from (eqb net.first k) (leb 1 net.count && leb net.count 80) (eq-eqb net.first k p.at)
    (and_from (leb 1 net.count) (leb net.count 80) (le-leb 1 net.count p.some) (le-leb net.count 80 p.few))))
    h

pub follow_le : (top k : ℕ) (nets : List Net) (m : ℕ) → follow top k nets m ≡ true → k ≤ m
follow_le top k [] m h = omega (arith, eqb-true k m h)
follow_le top k (net ∷ nets) m h = omega (arith, follow_le top (k + net.count) nets m (follow_parts top k net nets m h).1)

-- a net more, after the others
pub follow_more : (top k : ℕ) (nets : List Net) (m : ℕ) (net : Net) → follow top k nets m ≡ true → Placed top m net → follow top k (nets ++ (net ∷ [])) (m + net.count) ≡ true
follow_more top k [] m net h p =
    let e = eqb-true k m h in
    follow_from top k net [] (m + net.count) (subst (λ j. Placed top j net) (sym e) p) (eq-eqb (k + net.count) (m + net.count) (ap (λ j. j + net.count) e))
follow_more top k (x ∷ nets) m net h p =
    let a = follow_parts top k x nets m h in
    follow_from top k x (nets ++ (net ∷ [])) (m + net.count) a.0 (follow_more top (k + x.count) nets m net a.1 p)

-- the text of nets with one more
pub net_rows_more : (w top k : ℕ) (nets : List Net) (m : ℕ) (net : Net) (pins ps : List ℕ) → follow top k nets m ≡ true → m ≡ k + length pins → net.count ≡ length ps → net_rows w (nets ++ (net ∷ [])) (pins ++ ps) ≡ net_rows w nets pins ++ row_text w letter_N (net.weight ∷ ps)
net_rows_more w top k [] m net [] ps h d e = append-nil _ ∙ ap (λ y. row_text w letter_N (net.weight ∷ y)) (take_all net.count ps (omega arith))
net_rows_more w top k [] m net (p ∷ pins) ps h d e = absurd (omega (arith, eqb-true k m h))
net_rows_more w top k (x ∷ nets) m net pins ps h d e =
    let a = follow_parts top k x nets m h in
    let le : x.count ≤ length pins = omega (arith, follow_le top (k + x.count) nets m a.1) in
    let rest = net_rows_more w top (k + x.count) nets m net (drop x.count pins) ps a.1 (omega (arith, length-drop x.count pins)) e in
    (λ j. row_text w letter_N (x.weight ∷ take-append-le x.count pins ps le j) ++ (ap (net_rows w (nets ++ (net ∷ []))) (drop-append-le x.count pins ps le) ∙ rest) j)
    ∙ sym (append_assoc (row_text w letter_N (x.weight ∷ take x.count pins)) (net_rows w nets (drop x.count pins)) (row_text w letter_N (net.weight ∷ ps)))
