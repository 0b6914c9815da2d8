use Rattle.std.proofs.Common.{length, ◌-◌}
use Rattle.scan_report.specs.Stands.{stage_of, IsRead}
use Rattle.scan_report.proofs.reading.read_report.Given as goal

abbrev pub invariant-rows : goal.invariant-rows
invariant-rows l = IsRead l.bytes l.place (stage_of l.stand) l.rows

abbrev pub decreases-rows : goal.decreases-rows
decreases-rows l = length l.bytes - l.place
