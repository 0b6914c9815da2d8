-- What the matrix of a box says of exact networks.
use Rattle.std.specs.Prelude.{◌≡◌, ℕ, List, Ok}
use Rattle.exact_algebra.specs.Complex.{Complex}
use Rattle.complex_interval.specs.Rectangles.{Rectangle, EnclosesComplex}
use Rattle.network_theory.specs.Order.{Order, IsOrder}
use Rattle.network_theory.specs.Box.{LiesIn}
use Rattle.network_theory.specs.Network.{Network}
use Rattle.network_theory.specs.Live.{Live}
use Rattle.network_theory.specs.Between.{IsPair, LiesBetween}
use Rattle.network_theory.specs.Admittance.{Part}
use Rattle.network_theory.specs.Nodal.{IsNodalSystem, IsLast}
use Rattle.network_theory.specs.Reduced.{IsReducedTo}
use Rattle.plain_elimination.specs.Elimination.{HoldsRows}
use Rattle.plain_elimination.specs.Rectangles.{reduce_rectangles}
use Rattle.admittance_box.specs.BoxMatrix.{box_matrix}
use Rattle.admittance_box.specs.Places.{IsNodeOrdering}

-- a pair of networks and a live node with its node ordering, for which the assembly is meant
pub record CanAssemble (low high : Network) (driven : ℕ) (ordering : List ℕ) : Type 0 where
  pub pair : IsPair low high
  pub driven_is_live : Live low driven
  pub ordered : IsNodeOrdering low driven ordering

-- each branch with a live node has an admittance at order h, and the rectangles hold the sums of them, the entries of the nodal matrix with the driven node last
pub record HoldsNodal (s : ℕ) (network : Network) (h : Order) (driven : ℕ) (ordering : List ℕ) (matrix : List (List Rectangle)) : Type 0 where
  pub parts : List Part
  pub rows : List (List Complex)
  pub n : ℕ
  pub system : IsNodalSystem network h parts ordering rows
  pub last : IsLast ordering n driven
  pub held : HoldsRows (EnclosesComplex s) matrix rows

-- so at every order of the box, for every network between the two
abbrev pub HoldsEach : ℕ → Network → Network → ℕ → List ℕ → ℕ → ℕ → List (List Rectangle) → Type 0
HoldsEach s low high driven ordering lo hi matrix =
    (h : Order) → IsOrder h → LiesIn h (record { lo = lo; hi = hi }) → (network : Network) → LiesBetween network low high → HoldsNodal s network h driven ordering matrix

-- the matrix of a box, where it has a value, holds the exact one at every order of the box, for every network between the two
abbrev pub BoxMatrixHolds : ℕ → Type 0
BoxMatrixHolds s =
    (low high : Network) (driven : ℕ) (ordering : List ℕ) → CanAssemble low high driven ordering
    → (lo hi : ℕ) (matrix : List (List Rectangle)) → box_matrix s low high ordering lo hi ≡ Ok matrix → HoldsEach s low high driven ordering lo hi matrix

-- the reduced value y of the nodal matrix with the driven node last, which the box holds
pub record HoldsReduced (s : ℕ) (network : Network) (h : Order) (driven : ℕ) (value : Rectangle) : Type 0 where
  pub y : Complex
  pub reduced : IsReducedTo network h driven y
  pub held : EnclosesComplex s value y

-- a value of the reduction of a box's matrix holds the exact reduced value at every order of the box, for every network between the two
abbrev pub ReducedMatrixHolds : ℕ → Type 0
ReducedMatrixHolds s =
    (low high : Network) (driven : ℕ) (ordering : List ℕ) → CanAssemble low high driven ordering
    → (lo hi : ℕ) (matrix : List (List Rectangle)) (value : Rectangle) → box_matrix s low high ordering lo hi ≡ Ok matrix → reduce_rectangles s matrix ≡ Ok value
    → (h : Order) → IsOrder h → LiesIn h (record { lo = lo; hi = hi }) → (network : Network) → LiesBetween network low high → HoldsReduced s network h driven value
