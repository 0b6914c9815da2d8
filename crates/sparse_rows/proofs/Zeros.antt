-- Exact zero among intervals and rectangles: products with it are zero, and taking it away changes nothing.
use Rattle.std.proofs.Common.{◌≡◌, ℕ, ◌<◌, ◌≤◌, ◌^◌, ◌/◌, true, Some, refl, arith}
use Rattle.std.specs.Prelude.{unsigned_abs}
use Rattle.std.proofs.lemmas.Int.{ints}
use Rattle.std.proofs.lemmas.Nat.{pow_pos}
use lib.IntN.{ℤ, pos, ◌-ℤ◌, ◌*ℤ◌}
use Rattle.complex_interval.specs.Ends.{Ends, AreEnds, is_end, sub_ends, mul_ends}
use Rattle.complex_interval.specs.Rectangles.{Rectangle, sub_rectangles, mul_rectangles}
use Rattle.plain_elimination.specs.Matrix.{nought_rectangle}
use Rattle.plain_elimination.specs.Rectangles.{rectangles}
use Rattle.complex_interval.specs.Rect.{rectangle_of}
use Rattle.sparse_rows.proofs.Skipping.{ZeroLaws}

int-mul_zero : (a : ℤ) → a *ℤ pos 0 ≡ pos 0
int-mul_zero a = omega (arith, ints)

int-zero_mul : (a : ℤ) → pos 0 *ℤ a ≡ pos 0
int-zero_mul a = omega (arith, ints)

int-sub_zero : (a : ℤ) → a -ℤ pos 0 ≡ a
int-sub_zero a = omega (arith, ints)

none_over : (k : ℕ) → 0 < k → 0 / k ≡ 0
none_over k h = omega arith

-- a product with zero
pub ends_times_zero : (s : ℕ) (a : Ends) → mul_ends s a (nought_rectangle.re) ≡ Some nought_rectangle.re
ends_times_zero s a = rw (int-mul_zero a.low, int-mul_zero a.high, none_over (2 ^ s) (pow_pos s)) refl

pub ends_zero_times : (s : ℕ) (a : Ends) → mul_ends s (nought_rectangle.re) a ≡ Some nought_rectangle.re
ends_zero_times s a = rw (int-zero_mul a.low, int-zero_mul a.high, none_over (2 ^ s) (pow_pos s)) refl

-- in range
end_fits : (z : ℤ) → unsigned_abs z ≤ 2 ^ 62 → is_end z ≡ true
end_fits z l = grind arith

-- a difference from zero
pub ends_less_zero : (a : Ends) → AreEnds a → sub_ends a (nought_rectangle.re) ≡ Some a
ends_less_zero a k = rw (int-sub_zero a.low, int-sub_zero a.high, end_fits a.low k.low_fits, end_fits a.high k.high_fits) refl

pub times_zero : (s : ℕ) (a : Rectangle) → mul_rectangles s a nought_rectangle ≡ Some nought_rectangle
times_zero s a = rw (ends_times_zero s a.re, ends_times_zero s a.im) refl

pub zero_times : (s : ℕ) (a : Rectangle) → mul_rectangles s nought_rectangle a ≡ Some nought_rectangle
zero_times s a = rw (ends_zero_times s a.re, ends_zero_times s a.im) refl

pub less_zero : (a : Rectangle) → AreEnds a.re → AreEnds a.im → sub_rectangles a nought_rectangle ≡ Some a
less_zero a re im = rw (ends_less_zero a.re re, ends_less_zero a.im im) refl

-- the laws for the rectangles of intervals of a type
pub zero_laws : {E : Type 0} (s : ℕ) (ends : E → Ends) → ((a : E) → AreEnds (ends a)) → ZeroLaws (rectangles s) (rectangle_of ends) nought_rectangle
zero_laws s ends are = record {
  alone = refl;
  times = times_zero s;
  zero_times = zero_times s;
  less = λ x. less_zero (rectangle_of ends x) (are x.re) (are x.im);
  less_zero = refl;
}
