-- The reduction of a box's matrix holds the exact reduced value.
use Rattle.std.proofs.Common.{◌≡◌, ℕ, suc, List, Ok, subst}
use Rattle.exact_algebra.specs.Complex.{complex_numbers}
use Rattle.linear_systems.specs.Linear.{IsSquare}
use Rattle.network_theory.proofs.Driven.{nodal_square}
use Rattle.plain_elimination.proofs.Rectangles.{reduction_holds}
use Rattle.complex_interval.specs.Rectangles.{Rectangle}
use Rattle.network_theory.specs.Order.{Order}
use Rattle.network_theory.specs.Network.{Network}
use Rattle.plain_elimination.specs.Rectangles.{reduce_rectangles}
use Rattle.admittance_box.specs.HeldMatrix.{HoldsNodal, HoldsReduced, ReducedMatrixHolds}
use Rattle.admittance_box.proofs.HeldMatrices.{box_matrix_holds}

-- a value of the reduction of rectangles that hold the nodal matrix
pub reduced_of : (s : ℕ) (network : Network) (h : Order) (driven : ℕ) (ordering : List ℕ) (matrix : List (List Rectangle)) (value : Rectangle) → HoldsNodal s network h driven ordering matrix → reduce_rectangles s matrix ≡ Ok value → HoldsReduced s network h driven value
reduced_of s network h driven ordering matrix value has r =
    let square : IsSquare complex_numbers (suc has.n) has.rows = subst (λ k. IsSquare complex_numbers k has.rows) has.last.count (nodal_square network h has.parts ordering has.rows has.system) in
    let reduced = reduction_holds s has.n matrix value has.rows r square has.held in
    record {
      y = reduced.y;
      reduced = record { parts = has.parts; ordering = ordering; rows = has.rows; n = has.n; system = has.system; last = has.last; value = reduced.each };
      held = reduced.held;
    }

pub reduced_matrix_holds : (s : ℕ) → ReducedMatrixHolds s
reduced_matrix_holds s low high driven ordering can lo hi matrix value e r h i lies network between =
    reduced_of s network h driven ordering matrix value (box_matrix_holds s low high driven ordering can lo hi matrix e h i lies network between) r
