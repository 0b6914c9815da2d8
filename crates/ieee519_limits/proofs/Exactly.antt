-- A verdict on bounds is the exact one of a distortion between them.
use Rattle.std.proofs.Common.{◌≡◌, ℕ, ◌*◌, ◌≤◌, ◌<◌, Bool, true, false, refl, suc, arith, ℤ, pos}
use Rattle.std.proofs.lemmas.Int.{ints}
use Rattle.std.specs.Prelude.{◌≢◌, ◌≤ℤ◌, ◌<ℤ◌, ◌*ℤ◌, nat_le, if◌then◌else◌, Some, None}
use Rattle.std.proofs.lemmas.Bool.Decides.{nat_tests}
use Rattle.std.proofs.lemmas.Nat.{mul-le, mul-lt}
use Rattle.std.proofs.Math.Nat.{mul-lt-mul_of_pos_right}
use Rattle.exact_algebra.specs.Ratio.{Ratio, den, ◌≼◌, ◌≺◌}
use Rattle.exact_algebra.proofs.WholeOrder.{≤ℤ_trans, mul-le_pos}
use Rattle.ieee519_limits.specs.declared.bounds.PercentBounds.{PercentBounds}
use Rattle.ieee519_limits.specs.declared.bounds.Verdict.TheVariants.{Pass, Fail, Undecided}
use Rattle.ieee519_limits.specs.Verdicts.{verdict_of}
use Rattle.ieee519_limits.specs.ExactVerdicts.{percent_square, IsExactVerdict, Bounds, VerdictsAreExact}

<ℤ_trans : (a b c : ℤ) → a <ℤ b → b ≤ℤ c → a <ℤ c
<ℤ_trans a b c h k = omega (arith, ints)

-- both sides times a factor above zero
mul-lt_pos : (d : ℕ) (x y : ℕ) → x < y → (pos x *ℤ pos (suc d)) <ℤ (pos y *ℤ pos (suc d))
mul-lt_pos d x y h =
    let e : x * suc d < y * suc d = mul-lt-mul_of_pos_right h (omega arith) in
    omega (arith, ints)

-- a square at most that of a percentage is at most that of a greater one
widened : (square : Ratio) (hi limit : ℕ) → hi ≤ limit → square ≼ percent_square hi → square ≼ percent_square limit
unfolding percent_square den
widened square hi limit h below =
    let more : hi * hi ≤ limit * limit = mul-le hi hi limit limit h h in
    let wider = mul-le_pos (pos (suc square.den_less_one)) (pos (hi * hi)) (pos (limit * limit)) (omega (arith, ints)) (omega (arith, ints)) in
    record { cross = ≤ℤ_trans _ _ _ below.cross wider }

-- and one at least that of a percentage is above that of a lesser one
narrowed : (square : Ratio) (lo limit : ℕ) → limit < lo → percent_square lo ≼ square → percent_square limit ≺ square
unfolding percent_square den
narrowed square lo limit h above =
    let less : limit * limit < lo * lo = mul-lt limit limit lo lo h h in
    let wider = mul-lt_pos square.den_less_one (limit * limit) (lo * lo) less in
    record { cross = <ℤ_trans _ _ _ wider above.cross }

by_bounds : (b : PercentBounds) (square : Ratio) (limit : ℕ) (passes within : Bool) → nat_le b.hi limit ≡ passes → nat_le b.lo limit ≡ within
    → Bounds (Some b) square → (if passes then Pass else (if within then Undecided else Fail)) ≢ Undecided
    → IsExactVerdict square limit (if passes then Pass else (if within then Undecided else Fail))
by_bounds b square limit true within p w held decided = widened square b.hi limit (grind (arith, nat_tests, p)) held.1
by_bounds b square limit false true p w held decided = absurd (decided refl)
by_bounds b square limit false false p w held decided = narrowed square b.lo limit (grind (arith, nat_tests, w)) held.0

pub exact : VerdictsAreExact
unfolding verdict_of
exact None square limit held decided = absurd held
exact (Some b) square limit held decided = by_bounds b square limit (nat_le b.hi limit) (nat_le b.lo limit) refl refl held decided
