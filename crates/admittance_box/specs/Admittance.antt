-- The admittance of a branch over a box of orders, on pairs of ends. It is absent where a step has no value.
use Rattle.std.specs.Prelude.{ℕ, Bool, Option, Some, if◌then◌else◌}
use Rattle.complex_interval.specs.Ends.{Ends, add_ends, sub_ends, mul_ends, div_ends, square_ends}
use Rattle.complex_interval.specs.Rectangles.{Rectangle, div_rectangles}
use Rattle.admittance_box.specs.Exact.{zero_ends, one_ends, one_rectangle}
use Rattle.admittance_box.specs.Steps.{◌>>=◌}

-- the parameters of a series branch; plain says that k counts as 0
pub record SeriesEnds : Type 0 where
  pub r : Ends
  pub k : Ends
  pub m : Ends
  pub x : Ends
  pub xc : Ends
  pub plain : Bool

-- r((1 + k) - (k m)/(m + h²))
abbrev pub skin_ends : ℕ → Ends → Ends → Ends → Ends → Option Ends
skin_ends s r k m h = do
  raised ← add_ends (one_ends s) k
  top ← mul_ends s k m
  square ← square_ends s h
  bottom ← add_ends m square
  falling ← div_ends s top bottom
  factor ← sub_ends raised falling
  mul_ends s r factor

-- the resistance: r where k counts as 0
abbrev pub resistance_ends : ℕ → Bool → Ends → Ends → Ends → Ends → Option Ends
resistance_ends s plain r k m h = if plain then Some r else skin_ends s r k m h

-- the reactance h x - xc/h
abbrev pub reactance_ends : ℕ → Ends → Ends → Ends → Option Ends
reactance_ends s x xc h = do
  inductive ← mul_ends s h x
  capacitive ← div_ends s xc h
  sub_ends inductive capacitive

-- 1/(R + jX)
abbrev pub series_admittance_rectangle : ℕ → SeriesEnds → Ends → Option Rectangle
series_admittance_rectangle s p h = do
  re ← resistance_ends s p.plain p.r p.k p.m h
  im ← reactance_ends s p.x p.xc h
  div_rectangles s (one_rectangle s) (record { re = re; im = im })

-- 0 + j(h b)
abbrev pub shunt_admittance_rectangle : ℕ → Ends → Ends → Option Rectangle
shunt_admittance_rectangle s b h = do
  im ← mul_ends s h b
  Some (record { re = zero_ends; im = im })
