use Rattle.std.proofs.Common.{◌∙◌}
use Rattle.outages_report.proofs.Rows.{rows_are}
use Rattle.outages_report.proofs.report.report_of.Goals as goal

pub returns-clause-rows : goal.returns-clause-rows
returns-clause-rows c =
    rows_are c.args.study.now c.args.table.now c.as_slice.result.now c.from.result c.new-rows.result c.push_outages.new.rows c.push_envelopes.new.rows c.keep.new.items c.requires.table c.as_slice.ensures
    (c.from.ensures ∙ c.status_of-status.ensures) c.new-rows.ensures c.in_ok-push_outages.ensures c.in_ok-push_envelopes.ensures c.in_ok-keep.ensures
