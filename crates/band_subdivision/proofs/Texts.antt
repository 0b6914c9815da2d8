-- A report can write each box of an interval test.
use Rattle.std.proofs.Common.{◌≡◌, ℕ, ◌*◌, ◌-◌, ◌^◌, ◌≤◌, Bool, true, false, nat_le, List, length, Option, Some, None, ℤ, unsigned_abs, refl, sym, ◌∙◌, subst, arith}
use Rattle.std.specs.Prelude.{if◌then◌else◌}
use Rattle.exact_fraction.proofs.Steps.{pow_at_most}
use Rattle.exact_fraction.specs.Root.{root_ceil_of}
use Rattle.complex_interval.specs.Rectangles.{Rectangle, low_square_sum, high_square_sum}
use Rattle.exact_algebra.specs.Ratio.{Ratio}
use Rattle.network_theory.specs.Network.{Network}
use Rattle.certified_inverse.specs.Sizes.{IsInRange}
use Rattle.certified_inverse.proofs.Sizes.{enclosure_in_range}
use Rattle.branchwise_test.specs.Enclosed.{impedance_near_with}
use Rattle.study_model.specs.declared.words.Method.{Method}
use Rattle.study_model.specs.declared.words.Method.TheVariants.{Elimination, Both, Branchwise}
use Rattle.band_subdivision.specs.Boxes.{BoxTest, IsTestable, above_at, Widths, middle, peak_or, peak_of, kind_of, boxes_of}
use Rattle.band_subdivision.specs.Split.{ComesFrom, itself, lower, upper}
use Rattle.band_subdivision.specs.IntervalTest.{micro_ohms_of, above_bound, elimination_test}
use Rattle.band_subdivision.specs.InverseTest.{least_above, point_square, root_floor_of, inverse_test}
use Rattle.band_subdivision.specs.BranchwisePart.{branchwise_part}
use Rattle.band_subdivision.specs.Levels.{Levels, AreScanLevels}
use Rattle.band_subdivision.specs.PairTest.{last_enclosure, pair_value, pair_enclosure, pair_test}
use Rattle.band_subdivision.specs.Parts.{or_else, either, is_near, where_near, second_part}
use Rattle.band_subdivision.specs.BoxText.{ohms_of_kind, HasText, BoxesHaveText}
use Rattle.band_subdivision.proofs.BranchwiseSound.{over_near_parts}
use Rattle.band_subdivision.proofs.Estimates.{Fits, estimate_fits}
use Rattle.band_subdivision.proofs.InverseSound.{over_parts}
use Rattle.band_subdivision.proofs.Sound.{above_parts}
use Rattle.band_subdivision.proofs.Splits.{boxes_come, all_along}
use Rattle.band_subdivision.proofs.TestSteps.{ohms_fit, kv_fits, root_fits, root_floor_square, square_fits, from_size}
use Rattle.scan_report.specs.Rows.{IsOhms}
use Rattle.scan_report.specs.declared.boxes.BoxRow.{BoxRow}
use Rattle.scan_report.specs.declared.boxes.Kind.{Kind}
use Rattle.scan_report.specs.declared.boxes.Kind.TheVariants.{Cleared, Undecided}

-- a test whose micro-ohms can be written
record NamesOhms (from : ℕ) (test : BoxTest) : Type 0 where
  pub at_each : (at : ℕ) (ohms : ℤ) → IsTestable from at at → above_at test at ≡ Some ohms → IsOhms (Some ohms)

-- a kind that is absent or can be written
abbrev CanWrite : Option Kind → Type 0
CanWrite None = Unit {0}
CanWrite (Some kind) = IsOhms (ohms_of_kind kind)

peak_or_writes : (from : ℕ) (test : BoxTest) (at : ℕ) (other : Option Kind) → NamesOhms from test → IsTestable from at at → CanWrite other → CanWrite (peak_or at (above_at test at) other)
peak_or_writes from test at other names testable h = by (above_at test at) refl
  where
    by : (found : Option ℤ) → above_at test at ≡ found → CanWrite (peak_or at found other)
    by None is = h
    by (Some ohms) is = names.at_each at ohms testable is

kind_writes : (from : ℕ) (test : BoxTest) (widths : Widths) (lo hi : ℕ) → NamesOhms from test → IsTestable from lo hi → CanWrite (kind_of test widths lo hi)
unfolding kind_of
kind_writes from test widths lo hi names testable = by (test.clear lo hi) (nat_le (hi - lo) widths.locate) (nat_le (hi - lo) widths.finest)
  where
    point : (at : ℕ) → lo ≤ at → IsTestable from at at
    point at low = let above = testable.above in record { above = omega (arith, above); begins = let begins = testable.begins in omega (arith, begins); ordered = omega arith }

    rest_writes : (fine : Bool) → CanWrite (if fine then Some Undecided else None)
    rest_writes true = tt
    rest_writes false = tt

    by : (clear near fine : Bool) → CanWrite (if clear then Some Cleared else (if near then peak_of test lo hi (if fine then Some Undecided else None) else (if fine then Some Undecided else None)))
    by true near fine = tt
    by false true fine =
        let ordered = testable.ordered in
        peak_or_writes from test (middle lo hi) _ names (point (middle lo hi) (omega (arith, ordered)))
        (peak_or_writes from test lo _ names (point lo (omega arith)) (peak_or_writes from test hi _ names (point hi (omega (arith, ordered))) (rest_writes fine)))
    by false false fine = rest_writes fine

come_writes : (from : ℕ) (test : BoxTest) (widths : Widths) (lo hi : ℕ) (row : BoxRow) → NamesOhms from test → IsTestable from lo hi → ComesFrom test widths lo hi row → HasText row
come_writes from test widths _ _ _ names testable (itself lo hi kind up is) = let P : Option Kind → Type 0 = CanWrite in subst P is (kind_writes from test widths lo hi names testable)
come_writes from test widths _ _ _ names testable (lower lo hi row split rest) =
    let ordered = testable.ordered in
    come_writes from test widths lo (middle lo hi) row names (record { above = testable.above; begins = testable.begins; ordered = omega (arith, ordered) }) rest
come_writes from test widths _ _ _ names testable (upper lo hi row split rest) =
    let ordered = testable.ordered in
    let above = testable.above in
    come_writes from test widths (middle lo hi) hi row names (record { above = omega (arith, ordered, above); begins = let begins = testable.begins in omega (arith, ordered, begins); ordered = omega (arith, ordered) }) rest

-- the micro-ohms of the elimination part are at most 2^110
ohms_small : (scale : ℕ) (levels : Levels) (high : ℕ) → scale ≤ 48 → AreScanLevels levels → micro_ohms_of scale levels high ≤ 2 ^ 120
unfolding micro_ohms_of
ohms_small scale levels high small h =
    let fits = ohms_fit (unsigned_abs levels.kv) (2 ^ scale) (unsigned_abs levels.mva * root_ceil_of high) (kv_fits levels h) (pow_at_most scale 48 small) in
    omega arith

elimination_names : (scale from : ℕ) (levels : ℕ → ℕ → Levels) (reduced : ℕ → ℕ → Option Rectangle) → scale ≤ 48 → ((at : ℕ) → IsTestable from at at → AreScanLevels (levels at at)) → NamesOhms from (elimination_test scale levels reduced)
unfolding elimination_test
elimination_names scale from levels reduced small h = record {
  at_each = λ at ohms testable passed.
      let parts = above_parts scale (levels at at) (above_bound scale (levels at at)) (reduced at at) ohms passed in
      subst (λ o. IsOhms (Some o)) (sym parts.is_ohms) (ohms_small scale (levels at at) (high_square_sum parts.held) small (h at testable));
}

-- and so are those of the inverse part, at most 2^120
inverse_names : (scale from : ℕ) (levels : ℕ → ℕ → Levels) (low high : Network) (ordering : List ℕ) (e : Ratio) → ((at : ℕ) → IsTestable from at at → AreScanLevels (levels at at))
    → NamesOhms from (inverse_test scale levels (pair_enclosure scale low high ordering e))
unfolding inverse_test pair_enclosure
inverse_names scale from levels low high ordering e h = record {
  at_each = λ at ohms testable passed.
      let parts = over_parts scale (levels at at) (least_above scale (levels at at)) _ ohms passed in
      let p = parts.point in
      let range = subst (λ o. IsInRange o) p.is_enclosed (last_in_range scale _) in
      let fits = size_below p.re p.im p.error range in
      subst (λ o. IsOhms (Some o)) (sym parts.beyond.is_ohms) (from_size scale (levels at at) (root_floor_of (point_square p.re p.im) - p.error) (h at testable) fits);
}
  where
    last_in_range : (s : ℕ) (o : Option (List (List Rectangle))) → IsInRange (last_enclosure s o)
    last_in_range s None = tt
    last_in_range s (Some rows) = enclosure_in_range s (length rows - 1) rows

    size_below : (re im : ℤ) (error : ℕ) → (unsigned_abs re ≤ 2 ^ 62) × (unsigned_abs im ≤ 2 ^ 62) → root_floor_of (point_square re im) - error ≤ 2 ^ 63
    size_below re im error range =
        let fits = root_fits (root_floor_of (point_square re im)) (point_square re im) (root_floor_square (point_square re im)) (square_fits (unsigned_abs re) (unsigned_abs im) range.0 range.1) in
        omega (arith, fits)

-- and those of the branch-wise part
branchwise_names : (scale from : ℕ) (levels : ℕ → ℕ → Levels) (low high : Network) (ordering : List ℕ) (e : Ratio) → ((at : ℕ) → IsTestable from at at → AreScanLevels (levels at at))
    → NamesOhms from (branchwise_part scale levels (impedance_near_with scale low high ordering e))
unfolding branchwise_part
branchwise_names scale from levels low high ordering e h = record {
  at_each = λ at ohms testable passed.
      let parts = over_near_parts scale (levels at at) (least_above scale (levels at at)) _ ohms passed in
      let square = low_square_sum parts.near.estimate in
      let range = subst (λ o. Fits o) parts.is_near (estimate_fits scale low high ordering e at at) in
      let fits = root_fits (root_floor_of square) square (root_floor_square square) range in
      subst (λ o. IsOhms (Some o)) (sym parts.beyond.is_ohms) (from_size scale (levels at at) (root_floor_of square - parts.near.error) (h at testable) (omega (arith, fits)));
}

either_names : (from : ℕ) (first second : BoxTest) → NamesOhms from first → NamesOhms from second → NamesOhms from (either first second)
either_names from first second one other = record {
  at_each = λ at ohms testable. by at ohms testable (first.above at at) (second.above at at) refl refl;
}
  where
    by : (at : ℕ) (ohms : ℤ) → IsTestable from at at → (o p : Option ℤ) → first.above at at ≡ o → second.above at at ≡ p → or_else o p ≡ Some ohms → IsOhms (Some ohms)
    by at ohms testable (Some x) p is_o is_p e = one.at_each at ohms testable (is_o ∙ e)
    by at ohms testable None p is_o is_p e = other.at_each at ohms testable (is_p ∙ e)

near_names : (from locate : ℕ) (test : BoxTest) → NamesOhms from test → NamesOhms from (where_near locate test)
near_names from locate test names = record { at_each = λ at ohms testable. by at ohms testable (is_near locate at at) }
  where
    by : (at : ℕ) (ohms : ℤ) → IsTestable from at at → (t : Bool) → (if t then test.above at at else None) ≡ Some ohms → IsOhms (Some ohms)
    by at ohms testable true e = names.at_each at ohms testable e
    by at ohms testable false e = absurd cc

second_names : (from : ℕ) (m : Method) (locate : ℕ) (inverse branchwise : BoxTest) → NamesOhms from inverse → NamesOhms from branchwise → NamesOhms from (second_part m locate inverse branchwise)
second_names from Elimination locate inverse branchwise i b = record { at_each = λ at ohms testable e. absurd cc }
second_names from Both locate inverse branchwise i b = near_names from locate inverse i
second_names from Branchwise locate inverse branchwise i b = b

pub boxes_have_text : BoxesHaveText
boxes_have_text scale from asked low high ordering e widths lo hi small h fine up testable =
    let test = pair_test scale asked low high ordering e in
    let second = second_names from asked.method asked.locate _ _ (inverse_names scale from asked.levels low high ordering e h) (branchwise_names scale from asked.levels low high ordering e h) in
    let names = either_names from _ _ (elimination_names scale from asked.levels (pair_value scale low high ordering e) small h) second in
    all_along (ComesFrom test widths lo hi) HasText (boxes_of test widths lo hi)
    (λ row. come_writes from test widths lo hi row names testable)
    (boxes_come test widths lo hi fine up)
