-- Tests of one name against sets, case by case: x within s, and a, b the tests against a name outside s. Assumes nothing.
use Rattle.std.proofs.Common.{◌≡◌, Bool, true, false, not, ◌&&◌, ◌||◌, ◌⊎◌, refl, inl, inr, arith}

pub none_left : (x a : Bool) → (x && false) ≡ x → a ≡ (a && not x)
none_left x a h = grind arith

pub none_in : (x a : Bool) → (x && false) ≡ x → a ≡ (x || a)
none_in x a h = grind arith

pub wider : (x s b : Bool) → (x && s) ≡ x → ((x || b) || s) ≡ (b || s)
wider x s b h = grind arith

pub inner : (x s b : Bool) → (x && s) ≡ x → (s && b) ≡ false → ((x || b) && s) ≡ x
inner x s b h k = grind arith

pub twice_left : (x s : Bool) → (x && s) ≡ x → (s && not (s && not x)) ≡ x
twice_left x s h = grind arith

pub left_with : (x s a : Bool) → (x && s) ≡ x → (s && a) ≡ false → ((s && not x) || a) ≡ ((a || s) && not x)
left_with x s a h k = grind arith

pub back : (x s a : Bool) → (x && s) ≡ x → (((a || s) && not x) || s) ≡ (a || s)
back x s a h = grind arith

pub back_in : (x s a : Bool) → (((a || s) && not x) && s) ≡ (s && not x)
back_in x s a = grind arith

pub or_right : (a b : Bool) → (a || b) ≡ false → b ≡ false
or_right a b h = grind arith

pub drop_held : (x a w : Bool) → (not x && a) ≡ false → (((a || w) && not x) && w) ≡ ((a || w) && not x)
drop_held x a w h = grind arith

pub drop_lacked : (x a w : Bool) → (x && (a || w)) ≡ x → (x && a) ≡ false → (x && w) ≡ x
drop_lacked x a w h k = grind arith

pub and_false : (x : Bool) → (x && false) ≡ false
and_false x = grind arith

pub again : (n w : Bool) → ((n && w) && w) ≡ (n && w)
again n w = grind arith

-- n: in the side; a, c: is the last name, is the one before; w: is an earlier name
pub all_but_last : (a c w : Bool) → (a || (c || w)) ≡ true → ((c || w) && a) ≡ false → (c || w) ≡ not a
all_but_last a c w h k = grind arith

pub other_side : (n a c w : Bool) → (a || (c || w)) ≡ true → ((c || w) && a) ≡ false → (not n && a) ≡ false → (n && c) ≡ false →
    ((c || w) && not (n && w)) ≡ not n
other_side n a c w h k i j = grind arith

pub this_side : (n a c w : Bool) → (a || (c || w)) ≡ true → ((c || w) && a) ≡ false → (not n && a) ≡ false → (n && c) ≡ false →
    ((n && w) || a) ≡ n
this_side n a c w h k i j = grind arith

pub two_ways : (a b : Bool) → ¬ (a ≡ b) → ((a ≡ false) × (b ≡ true)) ⊎ ((a ≡ true) × (b ≡ false))
two_ways true true h = absurd (h refl)
two_ways true false h = inr (refl, refl)
two_ways false true h = inl (refl, refl)
two_ways false false h = absurd (h refl)

-- a: stands; b: was chosen; e: is the name chosen next
pub free_is : (a b c : Bool) → ((a && not b) && c) ≡ true → (a ≡ true) × (b ≡ false)
free_is true true c h = grind arith
free_is true false c h = (refl, refl)
free_is false b c h = grind arith

pub is_free : (a b : Bool) → a ≡ true → b ≡ false → (a && not b) ≡ true
is_free a b h k = grind arith

pub taken_now : (a b e : Bool) → e ≡ true → (a && not (e || b)) ≡ false
taken_now a b e h = grind arith

pub still_free : (a b e : Bool) → e ≡ false → (a && not b) ≡ (a && not (e || b))
still_free a b e h = grind arith
