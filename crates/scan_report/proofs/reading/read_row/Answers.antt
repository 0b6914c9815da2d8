use Rattle.scan_report.specs.Stands.{stage_of}
use Rattle.scan_report.proofs.Begins.{none_may, none_text, is_row, begins_row}
use Rattle.scan_report.proofs.reading.read_row.Goals as goal

pub returns-then-not-may_stand-clause-none : goal.returns-then-not-may_stand-clause-none
returns-then-not-may_stand-clause-none c =
    none_may (stage_of c.args.stand) c.args.text.now c.row_of-row.result c.may_stand.result c.row_of-row.ensures c.may_stand.ensures c.if-not-may_stand.true

pub text_len-requires : goal.text_len-requires
text_len-requires c = is_row c.args.text.now c.row_of-row.result c.row_of-row.ensures

pub returns-in-Some-clause-some : goal.returns-in-Some-clause-some
returns-in-Some-clause-some c =
    begins_row (stage_of c.args.stand) c.args.text.now c.row_of-row.result c.may_stand.result c.in-Some.len c.row_of-row.ensures c.may_stand.ensures
    c.if-not-may_stand.false c.in-Some.ensures

pub returns-in-None-clause-none : goal.returns-in-None-clause-none
returns-in-None-clause-none c = none_text (stage_of c.args.stand) c.args.text.now c.row_of-row.result c.row_of-row.ensures c.in-None.ensures
