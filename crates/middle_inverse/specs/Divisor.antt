-- What a quotient of rectangles needs of the divisor, for many dividends.
use Rattle.std.specs.Prelude.{ℕ, Bool, true, false, Option, Some, None, nat_le, ◌==◌, ◌&&◌, if◌then◌else◌}
use Rattle.complex_interval.specs.Ends.{Ends, add_ends, mul_ends, div_ends, mig_of}
use Rattle.complex_interval.specs.Rectangles.{Rectangle, on_second, after, clip_to, quotient_by, quotient_by_across}
use Rattle.middle_inverse.specs.Lists.{and_then}
use Rattle.middle_inverse.specs.declared.divisor.Divisor.{Divisor}

-- whether its real part is the one farther from zero; the other part over that one; and that one with the other part times the quotient
pub record DivisorEnds : Type 0 where
  pub is_along : Bool
  pub rho : Ends
  pub e : Ends

-- the part c farther from zero, and the other part d
abbrev pub divisor_by : ℕ → Bool → Ends → Ends → Option DivisorEnds
divisor_by s along c d =
    and_then (div_ends s d c) (λ rho.
    and_then (on_second add_ends c (after (clip_to c) (mul_ends s d rho))) (λ e. Some (record { is_along = along; rho = rho; e = e })))

-- none where both parts reach zero
abbrev pub divisor_of : ℕ → Rectangle → Option DivisorEnds
divisor_of s b =
    if mig_of b.re == 0 && mig_of b.im == 0
    then None
    else if nat_le (mig_of b.im) (mig_of b.re)
    then divisor_by s true b.re b.im
    else divisor_by s false b.im b.re

-- the quotient of a
abbrev pub divided_by : ℕ → Rectangle → DivisorEnds → Option Rectangle
divided_by s a d = if d.is_along then quotient_by s a.re a.im d.rho (Some d.e) else quotient_by_across s a.re a.im d.rho (Some d.e)

-- a divisor of the code as contracts see it
abbrev pub divisor_ends : {E : Type 0} → (E → Ends) → Divisor E → DivisorEnds
divisor_ends ends d = record { is_along = d.is_along; rho = ends d.rho; e = ends d.e }
