-- The test of boxes of a pair of networks that is driven at a node, with an extra susceptance there.
use Rattle.std.specs.Prelude.{ℕ, ◌-◌, List, length, Option, Some, None}
use Rattle.std.specs.Result.{result_ok}
use Rattle.exact_algebra.specs.Ratio.{Ratio}
use Rattle.complex_interval.specs.Ends.{Ends, range_ends, add_ends, mul_ends}
use Rattle.complex_interval.specs.Rectangles.{Rectangle}
use Rattle.network_theory.specs.Network.{Network}
use Rattle.plain_elimination.specs.Matrix.{entry, set_entry}
use Rattle.plain_elimination.specs.Rectangles.{reduce_rectangles}
use Rattle.certified_inverse.specs.Certificate.{enclosure}
use Rattle.certified_inverse.specs.declared.outcome.InverseOutcome.{InverseOutcome}
use Rattle.certified_inverse.specs.declared.outcome.InverseOutcome.TheVariants.{OutOfRange}
use Rattle.admittance_box.specs.BoxMatrix.{box_matrix}
use Rattle.admittance_box.specs.Orders.{order_ends}
use Rattle.admittance_box.specs.Steps.{◌>>=◌}
use Rattle.branchwise_test.specs.Enclosed.{impedance_near_with}
use Rattle.study_model.specs.declared.words.Method.{Method}
use Rattle.band_subdivision.specs.Boxes.{BoxTest}
use Rattle.band_subdivision.specs.BranchwisePart.{branchwise_part}
use Rattle.band_subdivision.specs.IntervalTest.{elimination_test}
use Rattle.band_subdivision.specs.InverseTest.{inverse_test}
use Rattle.band_subdivision.specs.Levels.{Levels}
use Rattle.band_subdivision.specs.Parts.{either, second_part}

-- y with H·b added to its imaginary part, for the interval H of the orders from lo to hi and that of a susceptance, b
abbrev pub with_extra : ℕ → Option Ends → ℕ → ℕ → Rectangle → Option Rectangle
with_extra s susceptance lo hi y = do
  b ← susceptance
  more ← mul_ends s (order_ends s lo hi) b
  im ← add_ends y.im more
  Some (record { re = y.re; im = im })

-- the pair's matrix over the orders from lo to hi, with the driven node last in the node ordering
abbrev pub pair_rows : ℕ → Network → Network → List ℕ → ℕ → ℕ → Option (List (List Rectangle))
pair_rows s low high ordering lo hi = result_ok (box_matrix s low high ordering lo hi)

-- the reduced value of these rows, with H·b added to its imaginary part
abbrev pub reduced_rows : ℕ → Option Ends → ℕ → ℕ → List (List Rectangle) → Option Rectangle
reduced_rows s susceptance lo hi rows = result_ok (reduce_rectangles s rows) >>= with_extra s susceptance lo hi

-- the reduced admittance of the driven node, by the interval of the extra susceptance
abbrev pub value_with : ℕ → Network → Network → List ℕ → Option Ends → ℕ → ℕ → Option Rectangle
value_with s low high ordering susceptance lo hi = pair_rows s low high ordering lo hi >>= reduced_rows s susceptance lo hi

-- and by the susceptance
unfoldable pub pair_value : ℕ → Network → Network → List ℕ → Ratio → ℕ → ℕ → Option Rectangle
pair_value s low high ordering e lo hi = value_with s low high ordering (range_ends s e e) lo hi

-- these rows with H·b added to the imaginary part of the last diagonal entry
abbrev pub with_last : ℕ → Option Ends → ℕ → ℕ → List (List Rectangle) → Option (List (List Rectangle))
with_last s susceptance lo hi rows = do
  y ← entry rows (length rows - 1) (length rows - 1)
  sum ← with_extra s susceptance lo hi y
  Some (set_entry rows (length rows - 1) (length rows - 1) sum)

-- the enclosure of the last entry of the solution for the unit right side there, if there are rows
abbrev pub last_enclosure : ℕ → Option (List (List Rectangle)) → InverseOutcome
last_enclosure s None = OutOfRange
last_enclosure s (Some rows) = enclosure s (length rows - 1) rows

-- the enclosed impedance of the driven node, by the interval of the extra susceptance
abbrev pub enclosure_with : ℕ → Network → Network → List ℕ → Option Ends → ℕ → ℕ → InverseOutcome
enclosure_with s low high ordering susceptance lo hi = last_enclosure s (pair_rows s low high ordering lo hi >>= with_last s susceptance lo hi)

-- and by the susceptance
unfoldable pub pair_enclosure : ℕ → Network → Network → List ℕ → Ratio → ℕ → ℕ → InverseOutcome
pair_enclosure s low high ordering e lo hi = enclosure_with s low high ordering (range_ends s e e) lo hi

-- what is asked of a test of boxes: the levels of each box, the method, and down from which width it asks the inverse part
pub record Asked : Type 0 where
  pub levels : ℕ → ℕ → Levels
  pub method : Method
  pub locate : ℕ

-- the interval test: its elimination part, or the part that the method asks then
abbrev pub pair_test : ℕ → Asked → Network → Network → List ℕ → Ratio → BoxTest
pair_test s asked low high ordering e =
    either (elimination_test s asked.levels (pair_value s low high ordering e))
    (second_part asked.method asked.locate (inverse_test s asked.levels (pair_enclosure s low high ordering e)) (branchwise_part s asked.levels (impedance_near_with s low high ordering e)))
