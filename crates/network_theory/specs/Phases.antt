-- More cases that can be worked by hand: three coupled phases, and a ratio.
use Rattle.std.specs.Prelude.{ℕ, pos, negsuc, [], ◌∷◌}
use Rattle.exact_algebra.specs.Ratio.{Ratio, whole}
use Rattle.exact_algebra.specs.Complex.{complex_numbers, real}
use Rattle.network_theory.specs.Order.{Order}
use Rattle.network_theory.specs.Branch.{Law, Series, Coupled3, Coupling, Branch}
use Rattle.network_theory.specs.Network.{Network}
use Rattle.network_theory.specs.Impedance.{series_impedance, group_entry}
use Rattle.network_theory.specs.DrivingPoint.{IsDrivingPoint}
open complex_numbers use {◌≈◌, ◌⊕◌, ◌⊗◌}

-- the branch of a phase, with one tap of ratio 1 at the node of its number
abbrev pub phase_to_ground : ℕ → Coupling → Branch
phase_to_ground p values = record { taps = record { node = p; ratio = whole (pos 1) } ∷ []; law = Coupled3 p values; group = 1; owner = 1 }

-- three phases a, b, c, each to ground, by one group of three
abbrev pub three_phases : Coupling → Network
three_phases values = record { buses = 3; nodes = 3; branches = phase_to_ground 0 values ∷ phase_to_ground 1 values ∷ phase_to_ground 2 values ∷ [] }

-- the current 1 into a phase gives it the self impedance as its voltage, and each other phase the mutual one of the pair
pub record PhasesToGround (h : Order) (values : Coupling) : Type 0 where
  pub a : IsDrivingPoint (three_phases values) h 0 (group_entry values h values.self_r values.self_x)
  pub a_b : a.state.voltage 1 ≈ group_entry values h values.mutual_r values.x_ab
  pub a_c : a.state.voltage 2 ≈ group_entry values h values.mutual_r values.x_ca
  pub b : IsDrivingPoint (three_phases values) h 1 (group_entry values h values.self_r values.self_x)
  pub b_a : b.state.voltage 0 ≈ group_entry values h values.mutual_r values.x_ab
  pub b_c : b.state.voltage 2 ≈ group_entry values h values.mutual_r values.x_bc
  pub c : IsDrivingPoint (three_phases values) h 2 (group_entry values h values.self_r values.self_x)
  pub c_a : c.state.voltage 0 ≈ group_entry values h values.mutual_r values.x_ca
  pub c_b : c.state.voltage 1 ≈ group_entry values h values.mutual_r values.x_bc

-- so for every order and all values
abbrev pub CoupledPhases : Type 0
CoupledPhases = (h : Order) (values : Coupling) → PhasesToGround h values

-- a source at bus 0, and a branch from there with the ratio t to bus 1 with the ratio -1
abbrev pub behind_ratio : Law → Law → Ratio → Network
behind_ratio source leakage t = record {
  buses = 2;
  nodes = 2;
  branches = record { taps = record { node = 0; ratio = whole (pos 1) } ∷ []; law = source; group = 0; owner = 1 }
      ∷ record { taps = record { node = 0; ratio = t } ∷ record { node = 1; ratio = whole (negsuc 0) } ∷ []; law = leakage; group = 0; owner = 2 } ∷ [];
}

-- at bus 1 the source's impedance counts t² times
abbrev pub BehindRatio : Type 0
BehindRatio = (h : Order) (r k m x xc r' k' m' x' xc' t : Ratio) → IsDrivingPoint (behind_ratio (Series r k m x xc) (Series r' k' m' x' xc') t) h 1 (series_impedance r' k' m' x' xc' h ⊕ real t ⊗ (real t ⊗ series_impedance r k m x xc h))
