-- What a report without a fault claims holds.
use Rattle.std.proofs.Common.{◌≡◌, ◌∙◌, ◌≢◌, ℕ, ◌≤◌, ◌<◌, Bool, true, false, List, [], ◌∷◌, map, Option, Some, None, Result, Ok, Err, unsigned_abs, ap, sym, subst, refl, arith}
use Rattle.std.specs.Prelude.{if◌then◌else◌}
use Rattle.std.specs.List.{AllByRecursion}
use Rattle.std.proofs.lemmas.List.Elements.{recursion_from_All}
use Rattle.network_theory.specs.Box.{Box, Covers, GoesOn}
use Rattle.band_subdivision.proofs.Scans.{from_above}
use Rattle.scan_report.specs.Reading.{between, within, ended, IsInOrder, no_row, one_more}
use Rattle.scan_report.specs.declared.rows.Row.{Row}
use Rattle.scan_report.specs.declared.rows.Row.TheVariants as row
use Rattle.study_model.specs.Lawful.{IsLawful, IsLawfulScan}
use Rattle.study_model.specs.declared.records.ScanItem.{ScanItem}
use Rattle.study_model.specs.declared.records.Study.{Study}
use Rattle.study_networks.specs.Networks.{AreNetworksOf}
use Rattle.study_networks.specs.declared.networks.StudyNetworks.{StudyNetworks}
use Rattle.study_scans.specs.Claim.{looked_at}
use Rattle.study_scans.specs.Fold.{found_too, nothing_found}
use Rattle.study_scans.specs.Report.{head_row}
use Rattle.study_scans.specs.declared.counts.Found.{Found}
use Rattle.study_scans.proofs.Asked.{spec_in_range}
use Rattle.study_scans.proofs.Sound.{scan_is_sound}
use Rattle.report_verify.specs.Told.{told_at, next_line}
use Rattle.report_verify.specs.Checks.{is_line, checking_of, Ending, scan_check}
use Rattle.report_verify.specs.Claim.{boxes_told, scans_told, HoldsAsTold, HoldsOfEach, HoldsOfReport}
use Rattle.report_verify.specs.FirstFault.{is_scan_row, last_check, after_scan, report_check, first_fault}
use Rattle.report_verify.specs.declared.fault.VerifyFault.{VerifyFault}
use Rattle.report_verify.specs.declared.fault.VerifyFault.TheVariants.{WrongScan}
use Rattle.report_verify.proofs.Telling.{Tells, scan_tells}

-- boxes that go on over a band of some width cover it
covers : (from to : ℕ) (boxes : List Box) → from < to → GoesOn from to boxes → Covers from to boxes
covers from to [] up on = absurd (omega (arith, on))
covers from to (b ∷ bs) up on = on

-- a report's last row tells no scan
end_tells : (study : Study) (status : ℕ) (rows : List Row) → IsInOrder ended rows ended → HoldsOfEach study [] (scans_told (row.End status ∷ rows))
end_tells study status [] order = tt
end_tells study status (r ∷ rows) (one_more _ _ _ _ may is order) = absurd may

module _ (study : Study) (networks : StudyNetworks) (b : IsLawful study) (are : AreNetworksOf study networks) where
  scan_holds : (scan : ScanItem) (line : ℕ) (rows : List Row) (done : Ending) → IsLawfulScan study.version study.model study.buses scan → IsInOrder within rows ended
      → scan_check (checking_of study scan) (told_at (unsigned_abs scan.from)) line rows ≡ Ok done → Tells (looked_at study scan) (checking_of study scan) (unsigned_abs scan.from) rows done
  scan_holds scan line rows done s order e =
      let r = spec_in_range study scan b s in
      scan_tells (looked_at study scan) (checking_of study scan) (scan_is_sound study networks scan b are s) (from_above _ r) r.locate (told_at (unsigned_abs scan.from)) line rows done (omega arith) order e

  -- the next scan, by what the scans after it hold
  next_holds : (scan : ScanItem) (scans : List ScanItem) (found : Found) (line : ℕ) (rows : List Row) → IsLawfulScan study.version study.model study.buses scan → IsInOrder within rows ended
      → ((more_found : Found) (next : ℕ) (rest : List Row) → IsInOrder between rest ended → report_check study scans more_found next rest ≡ None → HoldsOfEach study scans (scans_told rest))
      → (same : Bool) (checked : Result Ending VerifyFault) → scan_check (checking_of study scan) (told_at (unsigned_abs scan.from)) (next_line line) rows ≡ checked
      → (if same then after_scan checked (λ ending. report_check study scans (found_too found ending.counts) ending.next ending.rest) else Some (WrongScan line)) ≡ None
      → HoldsAsTold study scan (boxes_told rows) × HoldsOfEach study scans (scans_told rows)
  next_holds scan scans found line rows s order later false checked is e = absurd (cc)
  next_holds scan scans found line rows s order later true (Err fault) is e = absurd (cc)
  next_holds scan scans found line rows s order later true (Ok done) is e =
      let tells = scan_holds scan (next_line line) rows done s order is in
      let r = spec_in_range study scan b s in
      let rest = later (found_too found done.counts) done.next done.rest tells.order e in
      (subst (HoldsAsTold study scan) (sym tells.told) (record { covers = covers _ _ _ r.band tells.on; true_boxes = tells.true_boxes }), subst (HoldsOfEach study scans) (sym tells.later) rest)

  each_holds : (scans : List ScanItem) (found : Found) (line : ℕ) (rows : List Row) → AllByRecursion (IsLawfulScan study.version study.model study.buses) scans → IsInOrder between rows ended
      → report_check study scans found line rows ≡ None → HoldsOfEach study scans (scans_told rows)
  each_holds scans found line [] all order e = absurd (cc)
  each_holds [] found line (row.End status ∷ rows) all (one_more _ _ _ _ may is order) e = end_tells study status rows order
  each_holds [] found line (row.Scan name bus network from to threshold method ∷ rows) all (one_more _ _ _ _ may is order) e = absurd (cc)
  each_holds (scan ∷ scans) found line (row.End status ∷ rows) all (one_more _ _ _ _ may is order) e = absurd (cc)
  each_holds (scan ∷ scans) found line (row.Scan name bus network from to threshold method ∷ rows) all (one_more _ _ _ _ may is order) e =
      next_holds scan scans found line rows all.0 order (λ more_found next rest later checked. each_holds scans more_found next rest all.1 later checked)
      (is_line (row.Scan name bus network from to threshold method) (head_row study scan)) _ refl e
  each_holds scans found line (_ ∷ rows) all (one_more _ _ _ _ may is order) e = absurd may

-- a report without a fault
pub report_holds : (study : Study) (networks : StudyNetworks) (rows : List Row) → IsLawful study → AreNetworksOf study networks → IsInOrder between rows ended → first_fault study rows ≡ None → HoldsOfReport study rows
unfolding first_fault HoldsOfReport
report_holds study networks rows b are order e =
    each_holds study networks b are study.scans nothing_found 1 rows (recursion_from_All (IsLawfulScan study.version study.model study.buses) study.scans b.scans) order e
