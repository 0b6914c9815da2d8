-- A sum stays as it is where a product with zero is added.
use Rattle.std.proofs.Common.{◌≡◌, ℕ, ◌^◌, ◌≤◌, Bool, true, ◌&&◌, Some, refl, ap₂, arith}
use Rattle.std.specs.Prelude.{unsigned_abs}
use Rattle.std.specs.Ordering.{int_eq}
use Rattle.std.proofs.lemmas.Int.{ints}
use lib.IntN.{ℤ, pos, ◌+ℤ◌}
use Rattle.complex_interval.specs.Ends.{Ends, AreEnds, is_end, add_ends}
use Rattle.complex_interval.specs.Rectangles.{Rectangle, add_rectangles}
use Rattle.plain_elimination.specs.Matrix.{nought_rectangle}
use Rattle.plain_elimination.specs.Rectangles.{rectangles, is_nought}
use Rattle.sparse_rows.proofs.Zeros.{times_zero, zero_times}
use Rattle.certified_inverse.specs.Certificate.{add_times}

int-plus_zero : (a : ℤ) → a +ℤ pos 0 ≡ a
int-plus_zero a = omega (arith, ints)

end_fits : (z : ℤ) → unsigned_abs z ≤ 2 ^ 62 → is_end z ≡ true
end_fits z l = grind arith

ends_plus_zero : (a : Ends) → AreEnds a → add_ends a (nought_rectangle.re) ≡ Some a
ends_plus_zero a k = rw (int-plus_zero a.low, int-plus_zero a.high, end_fits a.low k.low_fits, end_fits a.high k.high_fits) refl

plus_zero : (a : Rectangle) → AreEnds a.re → AreEnds a.im → add_rectangles a nought_rectangle ≡ Some a
plus_zero a re im = rw (ends_plus_zero a.re re, ends_plus_zero a.im im) refl

pub add_nought : (s : ℕ) (f sum : Rectangle) → AreEnds sum.re → AreEnds sum.im → add_times s f sum nought_rectangle ≡ Some sum
unfolding add_times
add_nought s f sum re im = rw (times_zero s f, plus_zero sum re im) refl

pub add_by_nought : (s : ℕ) (sum a : Rectangle) → AreEnds sum.re → AreEnds sum.im → add_times s nought_rectangle sum a ≡ Some sum
unfolding add_times
add_by_nought s sum a re im = rw (zero_times s a, plus_zero sum re im) refl

-- ---- the test for zero
both_true : (a b : Bool) → (a && b) ≡ true → (a ≡ true) × (b ≡ true)
both_true a b e = grind arith

zero_is : (n : ℤ) → int_eq n (pos 0) ≡ true → n ≡ pos 0
zero_is n q = grind (arith, ints)

zero_ends : (a : Ends) → is_nought a ≡ true → a ≡ nought_rectangle.re
zero_ends a e =
    let (low, high) = both_true (int_eq a.low (pos 0)) (int_eq a.high (pos 0)) e in
    ap₂ (λ (l h : ℤ). let r : Ends = record { low = l; high = h } in r) (zero_is a.low low) (zero_is a.high high)

pub zero_rectangle : (s : ℕ) (a : Rectangle) → (rectangles s).is_zero a ≡ true → a ≡ nought_rectangle
zero_rectangle s a e =
    let (re, im) = both_true (is_nought a.re) (is_nought a.im) e in
    ap₂ (λ (x y : Ends). let r : Rectangle = record { re = x; im = y } in r) (zero_ends a.re re) (zero_ends a.im im)
