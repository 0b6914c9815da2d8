use Rattle.std.proofs.Common.{length}
use Rattle.outages_report.proofs.envelopes.+push_column.Given as goal

abbrev pub decreases-push_column : goal.decreases-push_column
decreases-push_column l = length l.table.now
