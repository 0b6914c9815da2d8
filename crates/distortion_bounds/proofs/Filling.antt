-- A column that is filled row by row, and the matrix of an order on its bench.
use Rattle.std.proofs.Common.{◌≡◌, ◌∙◌, ℕ, zero, suc, ◌+◌, ◌<◌, List, [], ◌∷◌, length, take, map, drop, get_or, refl, sym, ap, ap₂, subst, arith, Ok, Err, Result}
use Rattle.std.specs.Prelude.{Some, None, replicate, slice_set}
use Rattle.complex_interval.specs.Rectangles.{Rectangle}
use Rattle.network_theory.specs.Network.{Network}
use Rattle.plain_elimination.specs.Matrix.{Square}
use Rattle.plain_elimination.specs.Pattern.{IsNoPlace, IsZeroOutside}
use Rattle.sparse_rows.specs.Bench.{Places}
use Rattle.node_injection.specs.declared.injection.NodeInjection.{NodeInjection}
use Rattle.node_injection.specs.Injected.{exact_injection}
use Rattle.admittance_box.specs.BoxMatrix.{box_matrix}
use Rattle.admittance_box.specs.Pattern.{IsPattern}
use Rattle.admittance_box.proofs.OutsidePattern.{zero_outside}
use Rattle.admittance_box.proofs.TapLoops.{drop_item}
use Rattle.distortion_bounds.specs.Solver.{or_place, with_injection, with_injections}
use Rattle.distortion_bounds.specs.declared.solved.Solved.{Solved}
use Rattle.distortion_bounds.specs.declared.solved.Solved.TheVariants.{InjectionOutOfRange}

-- ---- zeros
pub cleared_more : {X : Type 0} (x : X) (xs : List X) (n : ℕ) → n < length xs → take n xs ≡ replicate n x → take (n + 1) (slice_set xs n x) ≡ replicate (n + 1) x
cleared_more x [] n l e = absurd (omega arith)
cleared_more x (y ∷ xs) zero l e = refl
cleared_more x (y ∷ xs) (suc n) l e =
    let same : y ≡ x = grind arith in
    let rest : take n xs ≡ replicate n x = grind arith in
    let count : suc n + 1 ≡ suc (n + 1) = omega arith in
    rw count (ap₂ (λ z zs. z ∷ zs) same (cleared_more x xs n (omega arith) rest))

take-whole : {X : Type 0} (ys : List X) → take (length ys) ys ≡ ys
take-whole [] = refl
take-whole (y ∷ ys) = ap (λ l. y ∷ l) (take-whole ys)

pub all_cleared : {X : Type 0} (x : X) (xs : List X) (n : ℕ) → n ≡ length xs → take n xs ≡ replicate n x → xs ≡ replicate n x
all_cleared x xs n e h = sym (take-whole xs) ∙ ap (λ k. take k xs) (sym e) ∙ h

-- ---- injections
module _ (s : ℕ) (ordering : List ℕ) (list : List NodeInjection) (i : ℕ) (at : NodeInjection) (inside : i < length list) (here : at ≡ get_or list i at) (right : List Rectangle) (whole : Result (List Rectangle) Solved)
    (so_far : with_injections s ordering (suc i) (map exact_injection (drop i list)) right ≡ whole) where
  first : with_injections s ordering (suc i) (map exact_injection (drop i list)) right ≡ or_place (suc i) (with_injection s ordering (exact_injection at) right) (with_injections s ordering (suc (i + 1)) (map exact_injection (drop (i + 1) list)))
  first = let next : suc (i + 1) ≡ suc (suc i) = omega arith in rw (drop_item list i at inside here, next) refl

  pub injected_more : (after : List Rectangle) → Some after ≡ with_injection s ordering (exact_injection at) right → with_injections s ordering (suc (i + 1)) (map exact_injection (drop (i + 1) list)) after ≡ whole
  injected_more after e = ap (λ o. or_place (suc i) o (with_injections s ordering (suc (i + 1)) (map exact_injection (drop (i + 1) list)))) e ∙ sym first ∙ so_far

  pub injected_stops : (place : ℕ) → place ≡ suc i → None ≡ with_injection s ordering (exact_injection at) right → Err (InjectionOutOfRange place) ≡ whole
  injected_stops place p e = ap (λ n. Err (InjectionOutOfRange n)) p ∙ ap (λ o. or_place (suc i) o (with_injections s ordering (suc (i + 1)) (map exact_injection (drop (i + 1) list)))) e ∙ sym first ∙ so_far

-- ---- the bench
pub suits : (s : ℕ) (low high : Network) (ordering : List ℕ) (lo hi : ℕ) (matrix : Square) (bench : Places) → matrix.size ≡ length ordering → IsPattern ordering low.branches bench.size bench.places
    → box_matrix s low high ordering lo hi ≡ Ok matrix.rows → IsZeroOutside bench.places matrix
suits s low high ordering lo hi matrix bench size pattern filled row column in_rows in_columns none =
    zero_outside s low high ordering lo hi matrix.rows filled row column (subst (λ n. row < n) size in_rows) (subst (λ n. column < n) size in_columns)
    (subst (λ places. IsNoPlace places row column) pattern.spots none)
