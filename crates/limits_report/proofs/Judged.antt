-- From bounds of a distortion to what its row says.
use Rattle.std.proofs.Common.{◌≡◌, ℕ, Bool, true, false, refl, arith}
use Rattle.std.proofs.lemmas.Bool.Decides.{nat_tests}
use Rattle.std.specs.Prelude.{nat_le, if◌then◌else◌, List, Option, Some, None, IfSome}
use Rattle.std.specs.List.{AllZip}
use Rattle.exact_algebra.specs.Ratio.{Ratio}
use Rattle.network_theory.specs.State.{State}
use Rattle.ieee519_limits.specs.declared.bounds.PercentBounds.{PercentBounds}
use Rattle.ieee519_limits.specs.declared.bounds.Verdict.TheVariants.{Pass, Fail, Undecided}
use Rattle.ieee519_limits.specs.Verdicts.{verdict_of, IsVerdict}
use Rattle.ieee519_limits.specs.ExactVerdicts.{Bounds}
use Rattle.ieee519_limits.proofs.Exactly.{exact}
use Rattle.spectrum_reader.specs.declared.injection.Injection.{Injection}
use Rattle.study_model.specs.declared.records.Study.{Study}
use Rattle.limits_report.specs.Lines.{low_of, high_of}
use Rattle.limits_report.specs.Claim.{IsOnlyState, IsJudged, both, IsTrueAt, IsTrueOver, sum_over}

-- a verdict by bounds
by_tests : (b : PercentBounds) (limit : ℕ) (passes within : Bool) → nat_le b.hi limit ≡ passes → nat_le b.lo limit ≡ within
    → IsVerdict (Some b) limit (if passes then Pass else (if within then Undecided else Fail))
by_tests b limit true within p w = grind (arith, nat_tests, p)
by_tests b limit false true p w = (grind (arith, nat_tests, w), grind (arith, nat_tests, p))
by_tests b limit false false p w = grind (arith, nat_tests, w)

pub verdict_is : (bounds : Option PercentBounds) (limit : ℕ) → IsVerdict bounds limit (verdict_of bounds limit)
unfolding verdict_of
verdict_is None limit = refl
verdict_is (Some b) limit = by_tests b limit (nat_le b.hi limit) (nat_le b.lo limit) refl refl

judged : (b : PercentBounds) (square : Ratio) (limit : ℕ) → Bounds (Some b) square → IsJudged square b limit (verdict_of (Some b) limit)
judged b square limit h = record { between = h; exact = exact (Some b) square limit h }

-- a row of one order
pub at_bounds : (study : Study) (rows : List Injection) (order : ℕ) (square : State → Ratio) (bounds : Option PercentBounds) (limit : ℕ) (s : State)
    → IsOnlyState study rows order s → IfSome bounds (λ b. Bounds (Some b) (square s))
    → IsTrueAt study rows order square (both (low_of bounds) (high_of bounds)) limit (verdict_of bounds limit)
at_bounds study rows order square None limit s only h = record { by_bounds = verdict_is None limit; known = tt }
at_bounds study rows order square (Some b) limit s only h = record { by_bounds = verdict_is (Some b) limit; known = (s, only, judged b (square s) limit h) }

pub at_none : (study : Study) (rows : List Injection) (order : ℕ) (square : State → Ratio) (limit : ℕ)
    → IsTrueAt study rows order square None limit (verdict_of None limit)
at_none study rows order square limit = record { by_bounds = verdict_is None limit; known = tt }

-- a row over several
pub over_bounds : (study : Study) (rows : List Injection) (orders : List ℕ) (square : ℕ → State → Ratio) (bounds : Option PercentBounds) (limit : ℕ) (states : List State)
    → AllZip (IsOnlyState study rows) orders states → IfSome bounds (λ b. Bounds (Some b) (sum_over square orders states))
    → IsTrueOver study rows orders square (both (low_of bounds) (high_of bounds)) limit (verdict_of bounds limit)
over_bounds study rows orders square None limit states only h = record { by_bounds = verdict_is None limit; known = tt }
over_bounds study rows orders square (Some b) limit states only h =
    record { by_bounds = verdict_is (Some b) limit; known = (states, only, judged b (sum_over square orders states) limit h) }

pub over_none : (study : Study) (rows : List Injection) (orders : List ℕ) (square : ℕ → State → Ratio) (limit : ℕ)
    → IsTrueOver study rows orders square None limit (verdict_of None limit)
over_none study rows orders square limit = record { by_bounds = verdict_is None limit; known = tt }
