-- The limits that the makings share. Assumes nothing.
use Rattle.std.specs.Prelude.{ℕ, Bool, ◌&&◌, nat_le}

-- how many parts a figure may have
abbrev pub count_fits : ℕ → Bool
count_fits n = nat_le 2 n && nat_le n 80

-- the largest weight or entry of a table
abbrev pub largest : ℕ
largest = 999999
