-- The exact numbers 0 and 1.
use Rattle.std.specs.Prelude.{ℕ, ◌^◌, pos}
use Rattle.complex_interval.specs.Ends.{Ends}
use Rattle.complex_interval.specs.Rectangles.{Rectangle}

-- 0 at both ends
abbrev pub zero_ends : Ends
zero_ends = record { low = pos 0; high = pos 0 }

-- 2^scale at both ends
abbrev pub one_ends : ℕ → Ends
one_ends s = record { low = pos (2 ^ s); high = pos (2 ^ s) }

-- the complex 1
abbrev pub one_rectangle : ℕ → Rectangle
one_rectangle s = record { re = one_ends s; im = zero_ends }
