-- What a good answer says of the answers that it is made of. Assumes nothing.
use Rattle.std.proofs.Common.{◌≡◌, ℕ, Bool, true, false, cond, Ok, Err, Result, refl, ap, arith}
use Rattle.columns.specs.declared.fault.FieldFault.{FieldFault}
use Rattle.figure.specs.Cut.{and_then, in_row}
use Rattle.figure.specs.Reading.{in_file}
use Rattle.figure.specs.declared.fault.RowFault.{RowFault}

pub ok_same : {X E : Type 0} {x y : X} → ◌≡◌ {A = Result X E} (Ok x) (Ok y) → x ≡ y
ok_same e = cc

pub err_ok : {X E : Type 0} {e : E} {x : X} → ◌≡◌ {A = Result X E} (Err e) (Ok x) → ⊥
err_ok h = let z : ◌≡◌ {A = ℕ} 0 1 = cc in omega arith

-- both answers are good
pub and_then_parts : {E X Y : Type 0} (s : Result X E) (f : X → Result Y E) (y : Y) → and_then s f ≡ Ok y → (x : X) × (s ≡ Ok x) × (f x ≡ Ok y)
and_then_parts (Ok x) f y h = (x, refl, h)
and_then_parts (Err e) f y h = absurd (err_ok h)

-- the test is passed
pub cond_parts : {X E : Type 0} (b : Bool) (s : Result X E) (e : E) (x : X) → cond b s (Err e) ≡ Ok x → (b ≡ true) × (s ≡ Ok x)
cond_parts true s e x h = (refl, h)
cond_parts false s e x h = absurd (err_ok h)

pub in_row_ok : (r k : ℕ) (s : Result ℕ FieldFault) (v : ℕ) → in_row r k s ≡ Ok v → s ≡ Ok v
in_row_ok r k (Ok u) v h = ap Ok (ok_same h)
in_row_ok r k (Err f) v h = absurd (err_ok h)

pub in_file_ok : {X : Type 0} (s : Result X RowFault) (x : X) → in_file s ≡ Ok x → s ≡ Ok x
in_file_ok (Ok y) x h = ap Ok (ok_same h)
in_file_ok (Err e) x h = absurd (err_ok h)
