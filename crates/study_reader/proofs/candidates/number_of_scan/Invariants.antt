use Rattle.std.proofs.Common.{◌≡◌, ◌+◌, drop}
use Rattle.study_reader.specs.References.{scan_at, scan_of}
use Rattle.study_reader.proofs.candidates.number_of_scan.Given as goal

abbrev pub invariant-loop-scan : goal.invariant-loop-scan
invariant-loop-scan l = record {
  number : l.number ≡ l.scan-index + 1;
  found : scan_at l.number (drop l.scan-index l.scans) l.text ≡ scan_at 1 l.scans l.text;
  scan : scan_of (drop l.scan-index l.scans) l.text ≡ scan_of l.scans l.text;
}
