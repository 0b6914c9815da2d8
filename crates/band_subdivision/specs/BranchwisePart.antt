-- The branch-wise part of the interval test of a box of orders: by an estimate of the impedance of the driven node, with its error.
use Rattle.std.specs.Prelude.{ℕ, ◌+◌, ℤ, Bool, false, Option, None, Result, Ok, Err}
use Rattle.exact_fraction.specs.Root.{root_ceil_of}
use Rattle.complex_interval.specs.Rectangles.{low_square_sum, high_square_sum}
use Rattle.branchwise_test.specs.Enclosed.{Near}
use Rattle.branchwise_test.specs.declared.fault.BranchwiseFault.{BranchwiseFault}
use Rattle.band_subdivision.specs.Boxes.{BoxTest}
use Rattle.band_subdivision.specs.InverseTest.{most_within, least_above, root_floor_of, is_at_most, ohms_beyond}
use Rattle.band_subdivision.specs.Levels.{Levels}

-- each number within the error of one that the estimate holds is at most the bound in size
abbrev pub is_within_near : Option ℤ → Result Near BranchwiseFault → Bool
is_within_near bound (Ok near) = is_at_most (root_ceil_of (high_square_sum near.estimate) + near.error) bound
is_within_near bound (Err fault) = false

-- each is more than the bound in size: the micro-ohms of the least size
abbrev pub ohms_over_near : ℕ → Levels → Option ℤ → Result Near BranchwiseFault → Option ℤ
ohms_over_near scale levels bound (Ok near) = ohms_beyond scale levels bound (root_floor_of (low_square_sum near.estimate)) near.error
ohms_over_near scale levels bound (Err fault) = None

-- the test of boxes by their levels and estimates
unfoldable pub branchwise_part : ℕ → (ℕ → ℕ → Levels) → (ℕ → ℕ → Result Near BranchwiseFault) → BoxTest
branchwise_part scale levels estimated = record {
  clear = λ lo hi. is_within_near (most_within scale (levels lo hi)) (estimated lo hi);
  above = λ lo hi. ohms_over_near scale (levels lo hi) (least_above scale (levels lo hi)) (estimated lo hi);
}
