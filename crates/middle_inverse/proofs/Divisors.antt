-- A quotient by what is known of the divisor.
use Rattle.std.proofs.Common.{◌≡◌, ℕ, Bool, true, false, Option, Some, None, nat_le, refl}
use Rattle.std.specs.Prelude.{◌==◌, ◌&&◌, if◌then◌else◌}
use Rattle.std.specs.Option.{option_map}
use Rattle.complex_interval.specs.Ends.{Ends, add_ends, mul_ends, div_ends, mig_of}
use Rattle.complex_interval.specs.Rectangles.{Rectangle, on_second, after, clip_to, quotient_by, quotient_along, quotient_by_across, quotient_across, div_along, div_across, div_rectangles}
use Rattle.middle_inverse.specs.Lists.{and_then}
use Rattle.middle_inverse.specs.Inverse.{low_point, point_quotient}
use Rattle.middle_inverse.specs.Divisor.{DivisorEnds, divisor_by, divisor_of, divided_by}

module _ (s : ℕ) (a b : Rectangle) where
  along_by : (rho : Ends) (o : Option Ends) → quotient_by s a.re a.im rho o ≡ and_then (and_then o (λ e. Some (record { is_along = true; rho = rho; e = e }))) (divided_by s a)
  along_by rho None = refl
  along_by rho (Some e) = refl

  along : (o : Option Ends) → quotient_along s a.re a.im b.re b.im o
      ≡ and_then (and_then o (λ rho. and_then (on_second add_ends b.re (after (clip_to b.re) (mul_ends s b.im rho))) (λ e. Some (record { is_along = true; rho = rho; e = e })))) (divided_by s a)
  along None = refl
  along (Some rho) = along_by rho (on_second add_ends b.re (after (clip_to b.re) (mul_ends s b.im rho)))

  across_by : (rho : Ends) (o : Option Ends) → quotient_by_across s a.re a.im rho o ≡ and_then (and_then o (λ e. Some (record { is_along = false; rho = rho; e = e }))) (divided_by s a)
  across_by rho None = refl
  across_by rho (Some e) = refl

  across : (o : Option Ends) → quotient_across s a.re a.im b.re b.im o
      ≡ and_then (and_then o (λ rho. and_then (on_second add_ends b.im (after (clip_to b.im) (mul_ends s b.re rho))) (λ e. Some (record { is_along = false; rho = rho; e = e })))) (divided_by s a)
  across None = refl
  across (Some rho) = across_by rho (on_second add_ends b.im (after (clip_to b.im) (mul_ends s b.re rho)))

  either : (t u : Bool) → (if t then None else if u then div_along s a b else div_across s a b) ≡ and_then (if t then None else if u then divisor_by s true b.re b.im else divisor_by s false b.im b.re) (divided_by s a)
  either true u = refl
  either false true = along (div_ends s b.im b.re)
  either false false = across (div_ends s b.re b.im)

  -- each quotient by b is that by what is known of b
  pub divided : div_rectangles s a b ≡ and_then (divisor_of s b) (divided_by s a)
  divided = either (mig_of b.re == 0 && mig_of b.im == 0) (nat_le (mig_of b.im) (mig_of b.re))

module _ (s : ℕ) (a b : Rectangle) where
  pub quotient_known : (d : DivisorEnds) → Some d ≡ divisor_of s b → option_map low_point (divided_by s a d) ≡ point_quotient s a b
  unfolding point_quotient
  quotient_known d e = rw (divided s a b, ← e) refl

  pub no_quotient : None ≡ divisor_of s b → point_quotient s a b ≡ None
  unfolding point_quotient
  no_quotient e = rw (divided s a b, ← e) refl
