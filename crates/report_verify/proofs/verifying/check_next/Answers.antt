use Rattle.std.proofs.Common.{◌≡◌, ◌∙◌, ℕ, ◌-◌, List, drop, take, length, Ok, unsigned_abs, ap, sym, subst}
use Rattle.report_verify.specs.Checks.{is_line, checking_of, scan_check}
use Rattle.scan_report.specs.declared.rows.Row.{Row}
use Rattle.report_verify.specs.Told.{told_at, next_line}
use Rattle.report_verify.proofs.Steps.{passes_at, rest_whole}
use Rattle.report_verify.proofs.verifying.check_next.Goals as goal

pub returns-in-Ok-clause-passed : goal.returns-in-Ok-clause-passed
returns-in-Ok-clause-passed g c =
    let study = c.args.study.now in
    let scan = c.args.scan.now in
    let ended = c.in-Ok.ended in
    let rows = c.args.rows.now in
    let passes : ℕ → List Row → Type 0 = λ first lines. scan_check (checking_of study scan) (told_at (unsigned_abs scan.from)) first lines ≡ Ok (record { counts = ended.counts; next = ended.next; rest = drop ended.lines lines }) in
    let own : passes c.next_line.result (take (length rows - 1) (drop 1 rows)) = c.in-Ok.ensures.passed in
    let numbered : passes (next_line c.args.line) (take (length rows - 1) (drop 1 rows)) = subst (λ (n : ℕ). passes n (take (length rows - 1) (drop 1 rows))) c.next_line.ensures own in
    passes_at study scan c.args.line rows c.head-item.result ended.counts ended.lines ended.next c.in-len1-up.len_at_least c.head-item.is
    (ap (is_line c.head-item.result) (sym c.head_row.ensures) ∙ sym c.if-not-is_line.ensures)
    (subst (passes (next_line c.args.line)) (rest_whole 1 rows) numbered)
