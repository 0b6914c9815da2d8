use Rattle.std.proofs.Common.{◌≡◌, ◌<◌, ◌≤◌, ◌+◌, List, length, get_or, drop, sym, subst}
use Rattle.scan_report.specs.declared.rows.Row.{Row}
use Rattle.study_model.specs.declared.records.ScanItem.{ScanItem}
use Rattle.study_scans.specs.declared.counts.Found.{Found}
use Rattle.report_verify.specs.FirstFault.{HasPassed, HasFailed}
use Rattle.report_verify.proofs.Steps.{rest_whole, Standing, standing_next, standing_stop}
use Rattle.report_verify.proofs.verifying.fault_by.Goals as goal

pub returns-in-Err-clause-first : goal.returns-in-Err-clause-first
returns-in-Err-clause-first g c = λ some.
    let study = c.args.study.now in
    let scan = c.scan-item.result in
    let i = c.loop-scan.scan-index in
    standing_stop study c.args.rows.now i scan c.loop-scan.found c.loop-scan.line c.loop-scan.place c.in-Err.fault c.loop-scan.invariant
    (subst (λ (l : List ScanItem). i < length l) c.as_slice-scan-items.ensures c.loop-scan-test.true)
    (subst (λ (l : List ScanItem). scan ≡ get_or l i scan) c.as_slice-scan-items.ensures c.scan-item.is)
    (subst (λ (l : List Row). HasFailed study scan c.loop-scan.line l c.in-Err.fault) (rest_whole c.loop-scan.place c.args.rows.now) (c.in-Err.ensures.failed some))

pub loop-scan-preserved : goal.loop-scan-preserved
loop-scan-preserved g c =
    let study = c.args.study.now in
    let rows = c.args.rows.now in
    let scan = c.scan-item.result in
    let ended = c.in-Ok.ended in
    let i = c.loop-scan.scan-index in
    subst (λ (f : Found). Standing study rows (i + 1) f ended.next (c.loop-scan.place + ended.lines)) (sym c.and-found.ensures)
    (standing_next study rows i scan c.loop-scan.found c.loop-scan.line c.loop-scan.place ended c.loop-scan.invariant
    (subst (λ (l : List ScanItem). i < length l) c.as_slice-scan-items.ensures c.loop-scan-test.true)
    (subst (λ (l : List ScanItem). scan ≡ get_or l i scan) c.as_slice-scan-items.ensures c.scan-item.is)
    (subst (λ (l : List Row). HasPassed study scan c.loop-scan.line l ended) (rest_whole c.loop-scan.place rows) c.in-Ok.ensures.passed)
    (subst (λ (l : List Row). ended.lines ≤ length l) (rest_whole c.loop-scan.place rows) c.in-Ok.ensures.within))
