-- The matrix of a filled assembly is zero outside the pattern of its bench.
use Rattle.std.proofs.Common.{◌≡◌, ℕ, ◌<◌, List, length, Ok, subst}
use Rattle.network_theory.specs.Network.{Network}
use Rattle.plain_elimination.specs.Matrix.{Square}
use Rattle.plain_elimination.specs.Pattern.{IsNoPlace, IsZeroOutside}
use Rattle.admittance_box.specs.BoxMatrix.{box_matrix}
use Rattle.admittance_box.specs.Pattern.{IsPattern}
use Rattle.admittance_box.proofs.OutsidePattern.{zero_outside}
use Rattle.sparse_rows.specs.Bench.{Places}

pub suits : (s : ℕ) (low high : Network) (ordering : List ℕ) (lo hi : ℕ) (matrix : Square) (bench : Places) → matrix.size ≡ length ordering → IsPattern ordering low.branches bench.size bench.places
    → box_matrix s low high ordering lo hi ≡ Ok matrix.rows → IsZeroOutside bench.places matrix
suits s low high ordering lo hi matrix bench size pattern filled row column in_rows in_columns none =
    zero_outside s low high ordering lo hi matrix.rows filled row column (subst (λ n. row < n) size in_rows) (subst (λ n. column < n) size in_columns)
    (subst (λ places. IsNoPlace places row column) pattern.spots none)
