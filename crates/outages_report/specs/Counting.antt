-- What is kept while the boxes of a case come one after another; proofs/Counted.antt shows that it comes to the summit of all.
use Rattle.std.specs.Prelude.{List, [], ◌∷◌, Option, Some}
use Rattle.scan_report.specs.declared.boxes.BoxRow.{BoxRow}
use Rattle.scan_report.specs.declared.boxes.Kind.{Kind}
use Rattle.scan_report.specs.declared.boxes.Kind.TheVariants.{Cleared, Peak, Undecided}
use Rattle.study_scans.specs.declared.region.Summit.{Summit}
use Rattle.study_scans.specs.Fold.{better}

-- the summit of the boxes so far and one box more
abbrev pub higher : Option Summit → Kind → Option Summit
higher summit Cleared = summit
higher summit (Peak at ohms) = Some (better summit (record { at = at; micro_ohms = ohms }))
higher summit Undecided = summit

abbrev pub highest : Option Summit → List BoxRow → Option Summit
highest summit [] = summit
highest summit (b ∷ bs) = highest (higher summit b.kind) bs
