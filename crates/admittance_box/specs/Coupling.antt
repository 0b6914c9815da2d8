-- The admittances of three coupled branches over a box of orders, on pairs of ends. They are absent where a step has no value.
use Rattle.std.specs.Prelude.{ℕ, Bool, ◌&&◌, Option, Some, None, List, [], ◌∷◌, pos}
use Rattle.std.specs.Ordering.{int_eq}
use Rattle.std.specs.Result.{result_ok}
use Rattle.complex_interval.specs.Ends.{Ends, range_ends, mul_ends}
use Rattle.complex_interval.specs.Rectangles.{Rectangle}
use Rattle.network_theory.specs.Branch.{Law, Coupled3, Coupling}
use Rattle.plain_elimination.specs.Matrix.{nought_rectangle}
use Rattle.plain_elimination.specs.Rectangles.{solve_rectangles}
use Rattle.admittance_box.specs.Admittance.{resistance_ends}
use Rattle.admittance_box.specs.Exact.{one_rectangle}
use Rattle.admittance_box.specs.Steps.{◌>>=◌}

-- the intervals of the values that three coupled branches share; plain says that k counts as 0
pub record CouplingEnds : Type 0 where
  pub self_r : Ends
  pub self_x : Ends
  pub mutual_r : Ends
  pub x_ab : Ends
  pub x_bc : Ends
  pub x_ca : Ends
  pub k : Ends
  pub m : Ends
  pub plain : Bool

-- from the values of the one coupling to those of the other; k counts as 0 where it is 0 in both
abbrev pub coupling_between : ℕ → Coupling → Coupling → Option CouplingEnds
coupling_between s c d = do
  self_r ← range_ends s c.self_r d.self_r
  self_x ← range_ends s c.self_x d.self_x
  mutual_r ← range_ends s c.mutual_r d.mutual_r
  x_ab ← range_ends s c.x_ab d.x_ab
  x_bc ← range_ends s c.x_bc d.x_bc
  x_ca ← range_ends s c.x_ca d.x_ca
  k ← range_ends s c.k d.k
  m ← range_ends s c.m d.m
  Some (record { self_r = self_r; self_x = self_x; mutual_r = mutual_r; x_ab = x_ab; x_bc = x_bc; x_ca = x_ca; k = k; m = m; plain = int_eq c.k.num (pos 0) && int_eq d.k.num (pos 0) })

-- from the one law to the other, both of coupled branches
abbrev pub law_coupling : ℕ → Law → Law → Option CouplingEnds
law_coupling s (Coupled3 place c) (Coupled3 place' d) = coupling_between s c d
law_coupling s _ _ = None

-- the entries of the three by three impedance matrix: the one on its diagonal, and the one of each pair of phases
pub record Impedances : Type 0 where
  pub own : Rectangle
  pub ab : Rectangle
  pub bc : Rectangle
  pub ca : Rectangle

-- an entry of this resistance and this reactance at order 1
abbrev pub entry_rectangle : ℕ → Ends → Ends → Ends → Option Rectangle
entry_rectangle s h r x = do
  im ← mul_ends s h x
  Some (record { re = r; im = im })

-- each entry's resistance is that of its value, with the skin coefficients of the group, and its reactance is h times its value
abbrev pub impedances : ℕ → Ends → CouplingEnds → Option Impedances
impedances s h c = do
  self_r ← resistance_ends s c.plain c.self_r c.k c.m h
  mutual_r ← resistance_ends s c.plain c.mutual_r c.k c.m h
  own ← entry_rectangle s h self_r c.self_x
  ab ← entry_rectangle s h mutual_r c.x_ab
  bc ← entry_rectangle s h mutual_r c.x_bc
  ca ← entry_rectangle s h mutual_r c.x_ca
  Some (record { own = own; ab = ab; bc = bc; ca = ca })

-- the impedance matrix
abbrev pub impedance_rows : Impedances → List (List Rectangle)
impedance_rows z = (z.own ∷ z.ab ∷ z.ca ∷ []) ∷ (z.ab ∷ z.own ∷ z.bc ∷ []) ∷ (z.ca ∷ z.bc ∷ z.own ∷ []) ∷ []

-- what unit right sides have for each of the three branches
abbrev pub first_unit : ℕ → List Rectangle
first_unit s = one_rectangle s ∷ nought_rectangle ∷ nought_rectangle ∷ []

abbrev pub second_unit : ℕ → List Rectangle
second_unit s = nought_rectangle ∷ one_rectangle s ∷ nought_rectangle ∷ []

abbrev pub third_unit : ℕ → List Rectangle
third_unit s = nought_rectangle ∷ nought_rectangle ∷ one_rectangle s ∷ []

-- three columns of a three by three matrix
pub record Columns : Type 0 where
  pub first : List Rectangle
  pub second : List Rectangle
  pub third : List Rectangle

-- the solution of the impedance matrix for this right side
unfoldable pub solved : ℕ → Impedances → List Rectangle → Option (List Rectangle)
solved s z right = result_ok (solve_rectangles s (impedance_rows z) right)

-- for each unit right side: the columns of its inverse
abbrev pub inverse_columns : ℕ → Impedances → Option Columns
inverse_columns s z = do
  first ← solved s z (first_unit s)
  second ← solved s z (second_unit s)
  third ← solved s z (third_unit s)
  Some (record { first = first; second = second; third = third })

-- the admittances of three coupled branches over the orders of an interval
unfoldable pub coupling_columns : ℕ → Ends → CouplingEnds → Option Columns
coupling_columns s h c = impedances s h c >>= inverse_columns s
