-- What a test of boxes is seen as, and what it keeps.
use Rattle.std.specs.Prelude.{◌≡◌, ℕ, ◌≤◌, List, length, Option}
use Rattle.exact_algebra.specs.Ratio.{Ratio}
use Rattle.complex_interval.specs.Ends.{Ends, range_ends}
use Rattle.network_theory.specs.Branch.{Branch}
use Rattle.network_theory.specs.Network.{Network}
use Rattle.plain_elimination.specs.Matrix.{Square}
use Rattle.admittance_box.specs.Assembled.{Assembled}
use Rattle.admittance_box.specs.Pattern.{IsPattern}
use Rattle.sparse_rows.specs.Bench.{Places}
use Rattle.branchwise_bench.specs.Pair.{branchwise_pair}
use Rattle.study_model.specs.declared.words.Method.{Method}
use Rattle.study_model.specs.declared.words.Method.TheVariants.{Elimination, Both, Branchwise}
use Rattle.band_subdivision.specs.Boxes.{BoxTest}
use Rattle.band_subdivision.specs.PairTest.{pair_test}
use Rattle.band_subdivision.specs.ScanSpec.{asked_of}
use Rattle.band_subdivision.specs.declared.scan_spec.ScanSpec.{ScanSpec}
use Rattle.band_subdivision.specs.declared.second_bench.SecondBench.{SecondBench}
use Rattle.band_subdivision.specs.declared.second_bench.SecondBench.TheVariants.{Nothing, OfInverse, OfDrops}

-- what is asked of a scan, a pair of networks that is driven at a node, with the node ordering, and an extra susceptance there
pub record Testing : Type 0 where
  pub spec : ScanSpec
  pub low : Network
  pub high : Network
  pub driven : ℕ
  pub ordering : List ℕ
  pub extra : Ratio

-- the test of boxes, at a scale of intervals
abbrev pub box_test : ℕ → Testing → BoxTest
box_test scale t = pair_test scale (asked_of t.spec) t.low t.high t.ordering t.extra

-- the bench that a method asks for, where elimination doesn't pass
abbrev pub bench_for : {E : Type 0} → ℕ → Method → Assembled → SecondBench E
bench_for s Elimination a = Nothing
bench_for s Both a = OfInverse (length a.ordering)
bench_for s Branchwise a = OfDrops (branchwise_pair s a)

-- a matrix for the node ordering of these branches with a bench for its pattern, and the interval of the extra susceptance
pub record AreParts (scale : ℕ) (ordering : List ℕ) (branches : List Branch) (matrix : Square) (bench : Places) (extra : Ratio) (susceptance : Option Ends) : Type 0 where
  pub some : 1 ≤ length ordering
  pub size : matrix.size ≡ length ordering
  pub pattern : IsPattern ordering branches bench.size bench.places
  pub is : susceptance ≡ range_ends scale extra extra
