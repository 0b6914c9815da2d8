use Rattle.std.proofs.Common.{◌∙◌}
use Rattle.outages_report.proofs.Columns.{few_put}
use Rattle.outages_report.proofs.envelopes.envelope_at.Goals as goal

pub envelope_over-requires : goal.envelope_over-requires
envelope_over-requires c = few_put c.args.place c.args.table.now c.new-column.result c.as_slice.result.now c.new-column.ensures (c.as_slice.ensures ∙ c.in_ok-push_column.ensures) c.requires
