-- What a line says of its box is true where the test shows it.
use Rattle.std.proofs.Common.{◌≡◌, ◌∙◌, ℕ, suc, ◌+◌, ◌≤◌, ◌<◌, ◌-◌, ◌*◌, ◌^◌, ℤ, pos, negsuc, ◌*ℤ◌, ◌≤ℤ◌, Bool, true, false, ◌&&◌, nat_le, Option, Some, None, ap, sym, subst, refl, arith, [], ◌∷◌}
use Rattle.std.specs.Prelude.{int_le}
use Rattle.std.proofs.Math.Nat.{mul-le-mul_left}
use Rattle.std.proofs.lemmas.Int.{ints}
use Rattle.std.proofs.lemmas.Bool.Decides.{nat_tests}
use Rattle.exact_algebra.specs.Ratio.{Ratio, ◌≼◌, den, over, common, times}
use Rattle.exact_algebra.proofs.Order.{ratio_order, at_most_is}
use Rattle.exact_algebra.proofs.Ratios.{ratio_ring}
use Rattle.exact_algebra.proofs.Reader.{reads, ring, none_left}
use Rattle.band_subdivision.specs.Boxes.{BoxTest, above_at, IsTestable, Widths, kind_of}
use Rattle.band_subdivision.specs.BoxText.{ohms_of_kind}
use Rattle.band_subdivision.specs.Truth.{Scanned, IsTruePeak, IsTrueKind, IsSound}
use Rattle.band_subdivision.proofs.Truths.{kind_true}
use Rattle.scan_report.specs.Rows.{IsOhms}
use Rattle.scan_report.specs.declared.boxes.Kind.{Kind}
use Rattle.scan_report.specs.declared.boxes.Kind.TheVariants as kind
use Rattle.report_verify.specs.Checks.{settles_undecided, is_at_least, is_peak_by, unless, kind_fault}
use Rattle.report_verify.specs.declared.fault.VerifyFault.{VerifyFault}

passes : (b : Bool) (fault : VerifyFault) → unless b fault ≡ None → b ≡ true
passes true fault e = refl
passes false fault e = absurd (cc)

pub both : (a b : Bool) → (a && b) ≡ true → (a ≡ true) × (b ≡ true)
both true b e = (refl, e)
both false b e = absurd (cc)

pub le_true : (m n : ℕ) → nat_le m n ≡ true → m ≤ n
le_true m n h = grind (arith, nat_tests)

int_le_true : (m n : ℤ) → int_le m n ≡ true → m ≤ℤ n
int_le_true m n h = grind (arith, ints)

-- ---- peaks
-- a certified bound that is at least the other
record IsCertified (found : Option ℤ) (ohms : ℤ) : Type 0 where
  most : ℤ
  is : found ≡ Some most
  less : ohms ≤ℤ most

certified : (found : Option ℤ) (ohms : ℤ) → is_at_least found ohms ≡ true → IsCertified found ohms
certified (Some most) ohms e = record { most = most; is = refl; less = int_le_true ohms most e }
certified None ohms e = absurd (cc)

at_most_trans : (x y z : Ratio) → x ≼ y → y ≼ z → x ≼ z
at_most_trans x y z h k =
    (at_most_is _ _).1 (ratio_order.along (ring ratio_ring (x ∷ y ∷ z ∷ []) (search reads depth 40 fits 4000) none_left)
    (ratio_order.sum ((at_most_is _ _).0 h) ((at_most_is _ _).0 k)))

square_up : (p q : ℕ) → p ≤ q → p * p ≤ q * q
square_up p q h =
    let first : p * p ≤ p * q = mul-le-mul_left p h in
    let second : q * p ≤ q * q = mul-le-mul_left q h in
    omega (arith, first, second)

scaled_up : (a b k : ℕ) → a ≤ b → (pos a *ℤ pos k) ≤ℤ (pos b *ℤ pos k)
scaled_up a b k h = omega (arith, ints, mul-le-mul_left k h)

-- a fraction's square grows with its numerator
fraction_up : (p q d : ℕ) → p ≤ q → times (over (pos p) d) (over (pos p) d) ≼ times (over (pos q) d) (over (pos q) d)
unfolding times den common
fraction_up p q d h = record { cross = scaled_up (p * p) (q * q) (suc (suc (d - 1) * suc (d - 1) - 1)) (square_up p q h) }

-- a peak has fewer micro-ohms too, and is one of each box with its order
fewer : (s : Scanned) (lo hi at : ℕ) (ohms most : ℤ) → lo ≤ at → at ≤ hi → IsOhms (Some ohms) → ohms ≤ℤ most → IsTruePeak s at at at most → IsTruePeak s lo hi at ohms
fewer s lo hi at (pos p) (pos q) low high is less h =
    record { is_order = h.is_order; inside = record { low = omega arith; high = omega arith }; there = h.there; ohms = at_most_trans _ _ _ (fraction_up p q (10 ^ 6) (omega (arith, ints, less))) h.ohms }
fewer s lo hi at (pos p) (negsuc q) low high is less h = absurd h
fewer s lo hi at (negsuc p) most low high is less h = absurd is

-- the box may be tested, and its kind may be named
pub record IsBox (from : ℕ) (widths : Widths) (lo hi : ℕ) : Type 0 where
  pub testable : IsTestable from lo hi
  pub up : lo < hi
  pub order : widths.finest ≤ widths.locate

peak_true : (from : ℕ) (s : Scanned) (test : BoxTest) (lo hi at : ℕ) (ohms : ℤ) → IsSound from s test → IsTestable from lo hi → IsOhms (Some ohms) → is_peak_by test lo hi at ohms ≡ true → IsTruePeak s lo hi at ohms
peak_true from s test lo hi at ohms sound testable is e =
    let first = both (nat_le lo at && nat_le at hi) (is_at_least (above_at test at) ohms) e in
    let second = both (nat_le lo at) (nat_le at hi) first.0 in
    let low = le_true lo at second.0 in
    let high = le_true at hi second.1 in
    let found = certified (above_at test at) ohms first.1 in
    let there : IsTestable from at at = record { above = omega (arith, testable.above, low); begins = omega (arith, testable.begins, low); ordered = omega arith } in
    fewer s lo hi at ohms found.most low high is found.less (sound.above at found.most there found.is)

-- ---- undecided boxes
undecided_is : (k : Option Kind) → settles_undecided k ≡ true → k ≡ Some kind.Undecided
undecided_is (Some kind.Undecided) e = refl
undecided_is (Some kind.Cleared) e = absurd (cc)
undecided_is (Some (kind.Peak at ohms)) e = absurd (cc)
undecided_is None e = absurd (cc)

-- ---- each kind
pub told_true : (k : Kind) (from : ℕ) (s : Scanned) (test : BoxTest) (widths : Widths) (line lo hi : ℕ) → IsSound from s test → IsBox from widths lo hi → IsOhms (ohms_of_kind k)
    → kind_fault test widths line lo hi k ≡ None → IsTrueKind s test widths lo hi k
told_true kind.Cleared from s test widths line lo hi sound is ohms e = sound.clear lo hi is.testable (passes _ _ e)
told_true (kind.Peak at micro_ohms) from s test widths line lo hi sound is ohms e = peak_true from s test lo hi at micro_ohms sound is.testable ohms (passes _ _ e)
told_true kind.Undecided from s test widths line lo hi sound is ohms e =
    kind_true from s test widths lo hi kind.Undecided sound is.order (record { up = is.up; testable = is.testable }) (undecided_is _ (passes _ _ e))
