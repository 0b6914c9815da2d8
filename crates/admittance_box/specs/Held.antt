-- What the admittance of a branch over a box of orders holds.
use Rattle.std.specs.Prelude.{ℕ, Bool, Option, IfSome, IsTrue, pos}
use Rattle.exact_algebra.specs.Ratio.{Ratio, ◌≈◌, whole}
use Rattle.exact_algebra.specs.Complex.{Complex}
use Rattle.complex_interval.specs.Ends.{Ends, Encloses}
use Rattle.complex_interval.specs.Rectangles.{Rectangle, EnclosesComplex}
use Rattle.network_theory.specs.Order.{Order, IsOrder, fraction}
use Rattle.network_theory.specs.Impedance.{resistance, shunt_admittance}
use Rattle.network_theory.specs.Branch.{Series}
use Rattle.network_theory.specs.Admittance.{IsAdmittance}
use Rattle.admittance_box.specs.Admittance.{SeriesEnds}

-- the parameters hold the values r, k, m, x and xc, and k is 0 where it counts as 0
pub record HoldsSeries (s : ℕ) (p : SeriesEnds) (r k m x xc : Ratio) : Type 0 where
  pub r_held : Encloses s p.r r
  pub k_held : Encloses s p.k k
  pub m_held : Encloses s p.m m
  pub x_held : Encloses s p.x x
  pub xc_held : Encloses s p.xc xc
  pub k_is_nought : IsTrue p.plain → k ≈ whole (pos 0)

-- the result, if there is one, holds the resistance of each r, k and m that are held at each order that is held
abbrev pub HoldsResistance : ℕ → Bool → Ends → Ends → Ends → Ends → Option Ends → Type 0
HoldsResistance s plain r k m order result =
    (h : Order) → IsOrder h → Encloses s order (fraction h) → (vr vk vm : Ratio) → Encloses s r vr → Encloses s k vk → Encloses s m vm → (IsTrue plain → vk ≈ whole (pos 0))
    → IfSome result (λ a. Encloses s a (resistance vr vk vm h))

-- where there is a result, a series branch of values that are held has an admittance at each order that is held: its impedance is not zero, and the result holds its inverse
abbrev pub HoldsSeriesAdmittance : ℕ → SeriesEnds → Ends → Option Rectangle → Type 0
HoldsSeriesAdmittance s p order result =
    (h : Order) → IsOrder h → Encloses s order (fraction h) → (r k m x xc : Ratio) → HoldsSeries s p r k m x xc
    → IfSome result (λ a. (y : Complex) × IsAdmittance h (Series r k m x xc) y × EnclosesComplex s a y)

-- the result, if there is one, holds the admittance of each susceptance that is held at each order that is held
abbrev pub HoldsShuntAdmittance : ℕ → Ends → Ends → Option Rectangle → Type 0
HoldsShuntAdmittance s b order result =
    (h : Order) → IsOrder h → Encloses s order (fraction h) → (x : Ratio) → Encloses s b x → IfSome result (λ a. EnclosesComplex s a (shunt_admittance x h))
