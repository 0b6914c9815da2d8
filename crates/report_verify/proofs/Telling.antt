-- What the lines of a scan that pass tell.
use Rattle.std.proofs.Common.{◌≡◌, ◌∙◌, ℕ, ◌+◌, ◌≤◌, ◌<◌, ℤ, Bool, true, false, ◌&&◌, ◌==◌, nat_lt, nat_le, List, [], ◌∷◌, map, Option, Some, None, is_some, Result, Ok, Err, ap, sym, subst, refl, arith}
use Rattle.std.specs.Prelude.{if◌then◌else◌}
use Rattle.std.specs.List.{AllByRecursion}
use Rattle.std.proofs.lemmas.Bool.Decides.{nat_tests}
use Rattle.network_theory.specs.Box.{GoesOn}
use Rattle.band_subdivision.specs.Boxes.{BoxTest, Widths}
use Rattle.band_subdivision.specs.BoxText.{ohms_of_kind}
use Rattle.band_subdivision.specs.Cover.{span_of}
use Rattle.band_subdivision.specs.ScanSpec.{widths_of}
use Rattle.band_subdivision.specs.Truth.{Scanned, IsSound, IsTrueRow}
use Rattle.scan_report.specs.Rows.{IsOhms}
use Rattle.scan_report.specs.Reading.{Stage, between, within, ended, MayStand, IsRow, IsInOrder, no_row, one_more}
use Rattle.scan_report.specs.declared.boxes.BoxRow.{BoxRow}
use Rattle.scan_report.specs.declared.boxes.Kind.{Kind}
use Rattle.scan_report.specs.declared.boxes.Kind.TheVariants as kind
use Rattle.scan_report.specs.declared.rows.BoxWord.{BoxWord}
use Rattle.scan_report.specs.declared.rows.BoxWord.TheVariants as word
use Rattle.scan_report.specs.declared.rows.Row.{Row}
use Rattle.scan_report.specs.declared.rows.Row.TheVariants as row
use Rattle.study_model.specs.declared.records.ScanItem.{ScanItem}
use Rattle.study_scans.specs.Fold.{folded_summary}
use Rattle.study_scans.specs.Regions.{row_of_region}
use Rattle.study_scans.specs.declared.region.Region.{Region}
use Rattle.report_verify.specs.Told.{kind_told, may_follow, with_box, with_region, next_line}
use Rattle.report_verify.specs.Checks.{Checking, kind_fault, goes_on, count_check, unless_fault, kind_check, box_check, is_line, run_check, region_check, summary_check, going_on, ending, line_check, Ending, and_then, scan_check}
use Rattle.report_verify.specs.Claim.{box_before, boxes_told, scans_told}
use Rattle.report_verify.specs.declared.fault.VerifyFault.{VerifyFault}
use Rattle.report_verify.specs.declared.fault.VerifyFault.TheVariants.{Gap, NotPeak, WrongCount}
use Rattle.report_verify.specs.declared.told.BoxLine.{BoxLine}
use Rattle.report_verify.specs.declared.told.Told.{Told}
use Rattle.report_verify.proofs.BoxKinds.{both, le_true, IsBox, told_true}

lt_true : (m n : ℕ) → nat_lt m n ≡ true → m < n
lt_true m n h = grind (arith, nat_tests)

eq_true : (m n : ℕ) → (m == n) ≡ true → m ≡ n
eq_true m n h = grind (arith, nat_tests)

-- how far is told
abbrev reached_in : Result Told VerifyFault → ℕ
reached_in (Ok told) = told.reached
reached_in (Err fault) = 0

-- ---- one line
-- the ohms of a row that may stand have a text, and so have those of the kind that it tells
pub kind_text : (w : BoxWord) (at : Option ℕ) (ohms : Option ℤ) (k : Kind) → IsOhms ohms → kind_told w at ohms ≡ Some k → IsOhms (ohms_of_kind k)
kind_text word.Cleared at ohms k is e = let same : kind.Cleared ≡ k = cc in subst (λ (x : Kind). IsOhms (ohms_of_kind x)) same tt
kind_text word.Undecided at ohms k is e = let same : kind.Undecided ≡ k = cc in subst (λ (x : Kind). IsOhms (ohms_of_kind x)) same tt
kind_text word.Peak (Some at) (Some ohms) k is e = let same : kind.Peak at ohms ≡ k = cc in subst (λ (x : Kind). IsOhms (ohms_of_kind x)) same is
kind_text word.Peak (Some at) None k is e = absurd (cc)
kind_text word.Peak None ohms k is e = absurd (cc)

-- a box that passes: its place in the band, and its kind, of which there is no fault
pub record Passed (c : Checking) (told next : Told) (line : ℕ) (b : BoxLine) : Type 0 where
  pub kind : Kind
  pub tells : b.kind ≡ Some kind
  pub begins : b.lo ≡ told.reached
  pub up : b.lo < b.hi
  pub inside : b.hi ≤ c.spec.to
  pub ends : next.reached ≡ b.hi
  pub no_fault : kind_fault c.test (widths_of c.spec) line b.lo b.hi kind ≡ None

pub box_passed : (c : Checking) (told next : Told) (line : ℕ) (b : BoxLine) → box_check c told line b ≡ Ok next → Passed c told next line b
box_passed c told next line b e = at_place (goes_on told.reached c.spec.to b) b.kind refl refl e
  where
    by_count : (k : Kind) (n : Bool) → (if n then Ok (with_box told (record { lo = b.lo; hi = b.hi; kind = k })) else Err (WrongCount line)) ≡ Ok next → next.reached ≡ b.hi
    by_count k true e = sym (ap reached_in e)
    by_count k false e = absurd (cc)

    by_fault : (k : Kind) (f : Option VerifyFault) → kind_fault c.test (widths_of c.spec) line b.lo b.hi k ≡ f
        → unless_fault f (count_check told line b.number (record { lo = b.lo; hi = b.hi; kind = k })) ≡ Ok next → (f ≡ None) × (next.reached ≡ b.hi)
    by_fault k (Some fault) is e = absurd (cc)
    by_fault k None is e = (refl, by_count k ((b.number == (told.tally.counts.boxes + 1)) && may_follow told k) e)

    at_place : (g : Bool) (k : Option Kind) → goes_on told.reached c.spec.to b ≡ g → b.kind ≡ k → (if g then kind_check c told line b k else Err (Gap line)) ≡ Ok next → Passed c told next line b
    at_place false k there is e = absurd (cc)
    at_place true None there is e = absurd (cc)
    at_place true (Some k) there is e =
        let first = both (b.lo == told.reached && nat_lt b.lo b.hi) (nat_le b.hi c.spec.to) there in
        let second = both (b.lo == told.reached) (nat_lt b.lo b.hi) first.0 in
        let passed = by_fault k (kind_fault c.test (widths_of c.spec) line b.lo b.hi k) refl e in
        record { kind = k; tells = is; begins = eq_true _ _ second.0; up = lt_true _ _ second.1; inside = le_true _ _ first.1; ends = passed.1; no_fault = passed.0 }

-- the row of a region leaves what is reached
region_after : (hz : ℤ) (told next : Told) (line : ℕ) (r : Row) (run : Option Region) → run_check hz run told line r ≡ Ok next → next.reached ≡ told.reached
region_after hz told next line r (Some run) e = by (is_line r (row_of_region hz (told.tally.regions + 1) run)) e
  where
    by : (same : Bool) → (if same then Ok (with_region told) else Err (WrongCount line)) ≡ Ok next → next.reached ≡ told.reached
    by true e = sym (ap reached_in e)
    by false e = absurd (cc)
region_after hz told next line r None e = absurd (cc)

-- a scan's last line stands where the band ends
summary_after : (scan : ScanItem) (to : ℕ) (told : Told) (line : ℕ) (r : Row) (t : Unit {0}) → summary_check scan to told line r ≡ Ok t → told.reached ≡ to
summary_after scan to told line r t e = by (told.reached == to) _ refl e
  where
    by : (there : Bool) (rest : Result (Unit {0}) VerifyFault) → (told.reached == to) ≡ there → (if there then rest else Err (Gap line)) ≡ Ok t → told.reached ≡ to
    by true rest there e = eq_true _ _ there
    by false rest there e = absurd (cc)

abbrev rest_in : Result Ending VerifyFault → List Row
rest_in (Ok done) = done.rest
rest_in (Err fault) = []

-- ---- all lines
-- the boxes go on to the end of the band, each is true, and the rest of the rows is in order and tells the scans that follow
pub record Tells (s : Scanned) (c : Checking) (from : ℕ) (rows : List Row) (ending : Ending) : Type 0 where
  pub boxes : List BoxRow
  pub told : boxes_told rows ≡ Some boxes
  pub on : GoesOn from c.spec.to (map span_of boxes)
  pub true_boxes : AllByRecursion (IsTrueRow s c.test (widths_of c.spec)) boxes
  pub later : scans_told rows ≡ scans_told ending.rest
  pub order : IsInOrder between ending.rest ended

module _ (s : Scanned) (c : Checking) (sound : IsSound c.spec.from s c.test) (above : 1 ≤ c.spec.from) (widths : c.spec.finest ≤ c.spec.locate) where
  -- what the lines after a line tell, by what is told then
  abbrev Rest : ℕ → List Row → Ending → Type 0
  Rest line rows done = (next : Told) → c.spec.from ≤ next.reached → scan_check c next (next_line line) rows ≡ Ok done → Tells s c next.reached rows done

  after_box : (told : Told) (line number lo hi : ℕ) (w : BoxWord) (at : Option ℕ) (ohms : Option ℤ) (rows : List Row) (done : Ending) → c.spec.from ≤ told.reached → IsOhms ohms → Rest line rows done
      → (r : Result Told VerifyFault) → box_check c told line (record { number = number; lo = lo; hi = hi; kind = kind_told w at ohms }) ≡ r
      → and_then (going_on r) (λ next. scan_check c next (next_line line) rows) (record { counts = told.tally.counts; next = next_line line; rest = rows }) ≡ Ok done
      → Tells s c told.reached (row.BoxLine number lo hi w at ohms ∷ rows) done
  after_box told line number lo hi w at ohms rows done low is rest (Err fault) checked e = absurd (cc)
  after_box told line number lo hi w at ohms rows done low is rest (Ok next) checked e =
      let passed = box_passed c told next line (record { number = number; lo = lo; hi = hi; kind = kind_told w at ohms }) checked in
      let begins : lo ≡ told.reached = passed.begins in
      let up : lo < hi = passed.up in
      let ends : next.reached ≡ hi = passed.ends in
      let tells = rest next (omega (arith, begins, up, ends, low)) e in
      let box : IsBox c.spec.from (widths_of c.spec) lo hi = record { testable = record { above = omega (arith, begins, low, above); begins = omega (arith, begins, low); ordered = omega (arith, up) }; up = up; order = widths } in
      record {
        boxes = record { lo = lo; hi = hi; kind = passed.kind } ∷ tells.boxes;
        told = ap (λ (k : Option Kind). box_before lo hi k (boxes_told rows)) passed.tells ∙ ap (box_before lo hi (Some passed.kind)) tells.told;
        on = (begins, up, subst (λ (x : ℕ). GoesOn x c.spec.to (map span_of tells.boxes)) ends tells.on);
        true_boxes = (told_true passed.kind c.spec.from s c.test (widths_of c.spec) line lo hi sound box (kind_text w at ohms passed.kind is passed.tells) passed.no_fault, tells.true_boxes);
        later = tells.later;
        order = tells.order;
      }

  after_region : (told : Told) (line : ℕ) (r : Row) (rows : List Row) (done : Ending) → c.spec.from ≤ told.reached → Rest line rows done
      → (x : Result Told VerifyFault) → region_check c.hz told line r ≡ x → and_then (going_on x) (λ next. scan_check c next (next_line line) rows) (record { counts = told.tally.counts; next = next_line line; rest = rows }) ≡ Ok done
      → Tells s c told.reached rows done
  after_region told line r rows done low rest (Err fault) checked e = absurd (cc)
  after_region told line r rows done low rest (Ok next) checked e =
      let same = region_after c.hz told next line r told.tally.run checked in
      subst (λ (x : ℕ). Tells s c x rows done) same (rest next (omega (arith, same, low)) e)

  after_summary : (told : Told) (line : ℕ) (r : Row) (rows : List Row) (done : Ending) → IsInOrder between rows ended
      → (x : Result (Unit {0}) VerifyFault) → summary_check c.scan c.spec.to told line r ≡ x → and_then (ending x) (λ next. scan_check c next (next_line line) rows) (record { counts = told.tally.counts; next = next_line line; rest = rows }) ≡ Ok done
      → (told.reached ≡ c.spec.to) × (rows ≡ done.rest) × IsInOrder between done.rest ended
  after_summary told line r rows done order (Err fault) checked e = absurd (cc)
  after_summary told line r rows done order (Ok t) checked e =
      let rest : rows ≡ done.rest = ap rest_in e in
      (summary_after c.scan c.spec.to told line r t checked, rest, subst (λ (x : List Row). IsInOrder between x ended) rest order)

  pub scan_tells : (told : Told) (line : ℕ) (rows : List Row) (done : Ending) → c.spec.from ≤ told.reached → IsInOrder within rows ended → scan_check c told line rows ≡ Ok done → Tells s c told.reached rows done
  scan_tells told line [] done low order e = absurd (cc)
  scan_tells told line (row.BoxLine number lo hi word at ohms ∷ rows) done low (one_more _ _ _ _ may is order) e =
      after_box told line number lo hi word at ohms rows done low is.1.1.1.1.1.0
      (λ next on checked. scan_tells next (next_line line) rows done on order checked) _ refl e
  scan_tells told line (row.Region number lo hi hertz_lo hertz_hi peaks undecided at ohms ∷ rows) done low (one_more _ _ _ _ may is order) e =
      let tells = after_region told line (row.Region number lo hi hertz_lo hertz_hi peaks undecided at ohms) rows done low (λ next on checked. scan_tells next (next_line line) rows done on order checked) _ refl e in
      record { boxes = tells.boxes; told = tells.told; on = tells.on; true_boxes = tells.true_boxes; later = tells.later; order = tells.order }
  scan_tells told line (row.Summary name boxes cleared peaks undecided regions ∷ rows) done low (one_more _ _ _ _ may is order) e =
      let ends = after_summary told line (row.Summary name boxes cleared peaks undecided regions) rows done order _ refl e in
      record { boxes = []; told = refl; on = ends.0; true_boxes = tt; later = ap scans_told ends.1; order = ends.2 }
  scan_tells told line (_ ∷ rows) done low (one_more _ _ _ _ may is order) e = absurd may
