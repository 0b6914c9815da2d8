use Rattle.std.proofs.Common.{length}
use Rattle.outages_report.proofs.floating.+some_scan_is_dead.Given as goal

abbrev pub decreases-some_scan_is_dead : goal.decreases-some_scan_is_dead
decreases-some_scan_is_dead l = length l.scans.now
