-- The rows and the text of a drill's report.
use Rattle.std.specs.Prelude.{ℕ, List, [], ◌∷◌}
use Rattle.drill_study.specs.Drill.{drill_scan, drill_of}
use Rattle.scan_report.specs.Reading.{text_of}
use Rattle.scan_report.specs.declared.rows.Row.{Row}
use Rattle.scan_report.specs.declared.rows.Row.TheVariants as row
use Rattle.sequence_network.specs.Networks.{network_of}
use Rattle.study_model.specs.declared.words.Sequence.TheVariants as sequence
use Rattle.study_scans.specs.Report.{summary_of, report_status}
use Rattle.study_scans.specs.Scan.{boxes_in}

-- the rows of a drill: its number and how many nodes its network has, the summary of its scan without the rows of its boxes, and the last row
abbrev pub drill_rows : ℕ → List Row
drill_rows number =
    row.Drill number (network_of (drill_of number) sequence.Positive).nodes
    ∷ summary_of drill_scan (boxes_in (drill_of number) drill_scan)
    ∷ row.End (report_status (drill_of number))
    ∷ []

-- the bytes of a drill's report
unfoldable pub drill_text : ℕ → List ℕ
drill_text number = text_of (drill_rows number)
