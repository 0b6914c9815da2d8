-- What a reduced value says of the driving-point impedance.
use Rattle.std.proofs.Common.{ℕ, pos, List, ◌∙◌}
use Rattle.exact_algebra.specs.Ratio.{Ratio, ◌≼◌, times, whole, ◌≺◌}
use Rattle.exact_algebra.specs.Complex.{Complex, complex_numbers, square_size}
use Rattle.exact_algebra.proofs.Complexes.{complex_field}
use Rattle.linear_systems.specs.Linear.{IsDriven, IsComplement}
use Rattle.linear_systems.proofs.Driving as V
use Rattle.network_theory.specs.Order.{Order}
use Rattle.network_theory.specs.Network.{Network}
use Rattle.network_theory.specs.DrivingPoint.{IsDrivingPoint}
use Rattle.network_theory.specs.Admittance.{Part}
use Rattle.network_theory.specs.Nodal.{IsNodalSystem, IsLast}
use Rattle.network_theory.specs.Reduced.{IsReducedTo}
use Rattle.network_theory.specs.Scanned.{IsClearedAt, IsPeakAt}
use Rattle.network_theory.proofs.Driven as B
use Rattle.network_theory.proofs.Sizes.{within_by, above_by, apart_by}
open complex_numbers use {◌≈◌, nought, unit, ◌⊗◌, inverse}
open complex_field use {next}

abbrev C : Type 0
C = Complex

pub times_inverse : (y : C) → ¬ (y ≈ nought) → inverse y ⊗ y ≈ unit
times_inverse y apart = next (complex_field.mul_comm (inverse y) y) (complex_field.mul_inverse y apart)

-- a reduced value other than zero gives the impedance, its inverse
pub reduced_impedance : (network : Network) (h : Order) (k : ℕ) (y Z : C) → IsReducedTo network h k y → ¬ (y ≈ nought) → Z ⊗ y ≈ unit → IsDrivingPoint network h k Z
reduced_impedance network h k y Z r apart e =
    let square = B.nodal_square network h r.parts r.ordering r.rows r.system in
    let d : IsDriven complex_numbers r.n r.rows y = V.driven complex_numbers complex_field r.n r.rows y (square.count ∙ r.last.count) r.value apart in
    B.impedance network h r.parts r.ordering r.rows r.system r.n k y Z r.last d e

pub cleared : (network : Network) (h : Order) (k : ℕ) (T : Ratio) (y : C) → IsReducedTo network h k y → whole (pos 1) ≼ times (times T T) (square_size y) → IsClearedAt network h k T
cleared network h k T y r l =
    let apart = apart_by T y l in
    let e = times_inverse y apart in
    record { Z = inverse y; exists = reduced_impedance network h k y (inverse y) r apart e; within = within_by T (inverse y) y e l }

pub peak : (network : Network) (h : Order) (k : ℕ) (T : Ratio) (y : C) → IsReducedTo network h k y → ¬ (y ≈ nought) → times (times T T) (square_size y) ≺ whole (pos 1) → IsPeakAt network h k T
peak network h k T y r apart l =
    let e = times_inverse y apart in
    record { Z = inverse y; exists = reduced_impedance network h k y (inverse y) r apart e; above = above_by T (inverse y) y e l }

-- as a scan cites it: a value that holds the complement of the nodal matrix, each held number of which is at least 1/T in size
pub held_cleared : {X : Type 0} (Holds : X → C → Type 0) (network : Network) (h : Order) (k : ℕ) (T : Ratio) (parts : List Part) (ordering : List ℕ) (rows : List (List C)) (n : ℕ) (value : X) (y : C)
    → IsNodalSystem network h parts ordering rows → IsLast ordering n k → ((v : C) → IsComplement complex_numbers n rows y v) → Holds value y → ((w : C) → Holds value w → whole (pos 1) ≼ times (times T T) (square_size w)) → IsClearedAt network h k T
held_cleared Holds network h k T parts ordering rows n value y S last each held big =
    cleared network h k T y (record { parts = parts; ordering = ordering; rows = rows; n = n; system = S; last = last; value = each }) (big y held)

-- a value that holds the complement, each held number of which is other than zero and below 1/T in size
pub held_peak : {X : Type 0} (Holds : X → C → Type 0) (network : Network) (h : Order) (k : ℕ) (T : Ratio) (parts : List Part) (ordering : List ℕ) (rows : List (List C)) (n : ℕ) (value : X) (y : C)
    → IsNodalSystem network h parts ordering rows → IsLast ordering n k → ((v : C) → IsComplement complex_numbers n rows y v) → Holds value y → ((w : C) → Holds value w → ¬ (w ≈ nought)) → ((w : C) → Holds value w → times (times T T) (square_size w) ≺ whole (pos 1)) → IsPeakAt network h k T
held_peak Holds network h k T parts ordering rows n value y S last each held apart small =
    peak network h k T y (record { parts = parts; ordering = ordering; rows = rows; n = n; system = S; last = last; value = each }) (apart y held) (small y held)
