-- A filled matrix is the definition's, and holds the exact ones.
use Rattle.std.proofs.Common.{◌≡◌, ℕ, List, length, subst}
use Rattle.complex_interval.specs.Ends.{Ends}
use Rattle.complex_interval.specs.Rectangles.{Rectangle}
use Rattle.admittance_box.specs.declared.fill.Fill.{Fill}
use Rattle.admittance_box.specs.declared.fill.Fill.TheVariants.{Filled}
use Rattle.admittance_box.specs.Addends.{Addend}
use Rattle.admittance_box.specs.Assembled.{Assembled, IsKept}
use Rattle.admittance_box.specs.BoxMatrix.{with_addends, nought_rows, box_matrix}
use Rattle.admittance_box.specs.Filled.{FillsAs}
use Rattle.admittance_box.specs.HeldMatrix.{HoldsEach}
use Rattle.admittance_box.specs.Orders.{order_ends}
use Rattle.admittance_box.proofs.HeldMatrices.{box_matrix_holds}

pub fills_stated : (s : ℕ) (a : Assembled) (ends : Ends) (lo hi : ℕ) (addends : List Addend) (zeros rows : List (List Rectangle)) (result : Fill) → IsKept s a addends → ends ≡ order_ends s lo hi → zeros ≡ nought_rows (length a.ordering)
    → FillsAs result rows (with_addends s ends 0 addends zeros) → FillsAs result rows (box_matrix s a.low a.high a.ordering lo hi)
unfolding box_matrix
fills_stated s a ends lo hi addends zeros rows result kept e z f =
    subst (λ l. FillsAs result rows (with_addends s (order_ends s lo hi) 0 l (nought_rows (length a.ordering)))) kept.same
    (subst (λ l. FillsAs result rows (with_addends s l 0 addends (nought_rows (length a.ordering)))) e
    (subst (λ l. FillsAs result rows (with_addends s ends 0 addends l)) z f))

pub fills_held : (s : ℕ) (a : Assembled) (lo hi : ℕ) (addends : List Addend) (rows : List (List Rectangle)) (result : Fill) → IsKept s a addends → FillsAs result rows (box_matrix s a.low a.high a.ordering lo hi)
    → result ≡ Filled → HoldsEach s a.low a.high a.driven a.ordering lo hi rows
fills_held s a lo hi addends rows result kept f e = box_matrix_holds s a.low a.high a.driven a.ordering kept.ready lo hi rows (subst (λ r. FillsAs r rows (box_matrix s a.low a.high a.ordering lo hi)) e f)
