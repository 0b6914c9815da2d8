-- Each row of a report on outages has a text.
use Rattle.std.proofs.Common.{ℕ, ◌+◌, Bool, true, false, int_lt, List, [], ◌∷◌, ◌++◌, map, Option, Some, None}
use Rattle.std.specs.Prelude.{if◌then◌else◌}
use Rattle.std.specs.List.{AllByRecursion}
use Rattle.band_subdivision.specs.BoxText.{HasText}
use Rattle.scan_report.specs.Rows.{fields_of, HaveText, IsOhms}
use Rattle.scan_report.specs.declared.boxes.BoxRow.{BoxRow}
use Rattle.scan_report.specs.declared.boxes.Kind.{Kind}
use Rattle.scan_report.specs.declared.boxes.Kind.TheVariants.{Cleared, Peak, Undecided}
use Rattle.scan_report.specs.declared.rows.Row.{Row}
use Rattle.study_model.specs.Lawful.{IsLawful, IsLawfulScan}
use Rattle.study_model.specs.declared.records.Outage.{Outage}
use Rattle.study_model.specs.declared.records.ScanItem.{ScanItem}
use Rattle.study_model.specs.declared.records.Study.{Study}
use Rattle.study_scans.specs.declared.region.Summit.{Summit}
use Rattle.study_scans.specs.Regions.{summit_with, summit_of, ohms_of_summit}
use Rattle.outages_report.specs.Cases.{case_of, case_boxes, cases_where, case_row}
use Rattle.outages_report.specs.Envelopes.{envelope_row}
use Rattle.outages_report.specs.Floating.{floats}
use Rattle.outages_report.specs.Report.{outages_rows_of}
use Rattle.outages_report.specs.Table.{found_of, table_of, outage_rows, rows_from}
use Rattle.outages_report.proofs.Lives.{lawful_scans}
use Rattle.outages_report.proofs.Walked.{case_texts}

abbrev Has : Row → Type 0
Has r = HaveText (fields_of r)

joined : {X : Type 0} (P : X → Type 0) (xs ys : List X) → AllByRecursion P xs → AllByRecursion P ys → AllByRecursion P (xs ++ ys)
joined P [] ys h k = k
joined P (x ∷ xs) ys h k = (h.0, joined P xs ys h.1 k)

-- the summit of boxes that have texts
summit_text : (lo hi : ℕ) (kind : Kind) (s : Option Summit) → HasText (record { lo = lo; hi = hi; kind = kind }) → IsOhms (ohms_of_summit s) → IsOhms (ohms_of_summit (summit_with kind s))
summit_text lo hi Cleared s t h = h
summit_text lo hi Undecided s t h = h
summit_text lo hi (Peak at ohms) None t h = t
summit_text lo hi (Peak at ohms) (Some s) t h = pick (int_lt ohms s.micro_ohms)
  where
    pick : (b : Bool) → IsOhms (ohms_of_summit (if b then Some s else Some (record { at = at; micro_ohms = ohms })))
    pick true = h
    pick false = t

boxes_text : (boxes : List BoxRow) → AllByRecursion HasText boxes → IsOhms (ohms_of_summit (summit_of boxes))
boxes_text [] h = tt
boxes_text (b ∷ bs) h = summit_text b.lo b.hi b.kind (summit_of bs) h.0 (boxes_text bs h.1)

cases_text : (study : Study) (number element : ℕ) (scans : List ScanItem) → IsLawful study → AllByRecursion (IsLawfulScan study.version study.model study.buses) scans
    → AllByRecursion Has (map (case_row number) (map (case_of study element) scans))
cases_text study number element [] h all = tt
cases_text study number element (scan ∷ scans) h all = (
  (tt, (tt, (tt, (tt, (tt, (tt, (tt, (boxes_text (case_boxes study element scan) (case_texts study element scan h all.0), tt)))))))),
  cases_text study number element scans h all.1,
)

outage_text : (study : Study) (number : ℕ) (outage : Outage) → IsLawful study → AllByRecursion Has (outage_rows number (found_of study outage))
outage_text study number outage h = ((tt, (tt, (tt, tt))), go (floats study outage.element))
  where
    go : (floating : Bool) → AllByRecursion Has (map (case_row number) (cases_where floating study outage.element study.scans))
    go true = tt
    go false = cases_text study number outage.element study.scans h (lawful_scans study h)

outages_text : (study : Study) (number : ℕ) (outages : List Outage) → IsLawful study → AllByRecursion Has (rows_from number (map (found_of study) outages))
outages_text study number [] h = tt
outages_text study number (o ∷ os) h =
    joined Has (outage_rows number (found_of study o)) (rows_from (number + 1) (map (found_of study) os)) (outage_text study number o h) (outages_text study (number + 1) os h)

envelopes_text : (study : Study) (scans : List ScanItem) → AllByRecursion Has (map (envelope_row study) scans)
envelopes_text study [] = tt
envelopes_text study (scan ∷ scans) = ((tt, (tt, (tt, (tt, (tt, tt))))), envelopes_text study scans)

table_text : (study : Study) → IsLawful study → AllByRecursion Has (rows_from 1 (table_of study))
unfolding table_of
table_text study h = outages_text study 1 study.outages h

pub have_text : (study : Study) → IsLawful study → AllByRecursion (λ row. HaveText (fields_of row)) (outages_rows_of study)
unfolding outages_rows_of
have_text study h =
    joined Has (rows_from 1 (table_of study)) _ (table_text study h) (joined Has (map (envelope_row study) study.scans) _ (envelopes_text study study.scans) ((tt, tt), tt))
