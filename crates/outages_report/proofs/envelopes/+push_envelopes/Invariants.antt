use Rattle.std.proofs.Common.{length}
use Rattle.outages_report.proofs.envelopes.+push_envelopes.Given as goal

abbrev pub decreases-push_envelopes : goal.decreases-push_envelopes
decreases-push_envelopes l = length l.scans.now
