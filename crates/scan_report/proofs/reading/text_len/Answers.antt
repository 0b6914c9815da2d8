use Rattle.std.proofs.Common.{◌≡◌, ◌∙◌, ◌++◌, ℕ, List, length, subst}
use Rattle.scan_report.specs.Rows.{row_text, fields_of}
use Rattle.scan_report.specs.Stands.{BeginsText}
use Rattle.scan_report.proofs.Begins.{begins_yes, begins_no, have_text}
use Rattle.scan_report.proofs.reading.text_len.Goals as goal

pub write_row-requires : goal.write_row-requires
write_row-requires c = have_text (fields_of c.args.row.now) c.requires

pub returns-then-starts_with : goal.returns-then-starts_with
returns-then-starts_with c =
    let own : c.as_bytes-own.result.now ≡ row_text c.args.row.now = c.as_bytes-own.ensures ∙ c.write_row.ensures.text in
    subst (λ x. BeginsText c.args.text.now x (length c.as_bytes-own.result.now)) own
    (begins_yes c.args.text.now c.as_bytes-own.result.now c.starts_with.result c.starts_with.ensures.value c.if-starts_with.true)

pub returns-else-starts_with : goal.returns-else-starts_with
returns-else-starts_with c =
    let own : c.as_bytes-own.result.now ≡ row_text c.args.row.now = c.as_bytes-own.ensures ∙ c.write_row.ensures.text in
    subst (λ x. (after : List ℕ) → ¬ (c.args.text.now ≡ x ++ after)) own
    (begins_no c.args.text.now c.as_bytes-own.result.now c.starts_with.result c.starts_with.ensures.value c.if-starts_with.false)
