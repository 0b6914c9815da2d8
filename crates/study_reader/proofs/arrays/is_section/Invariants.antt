use Rattle.std.proofs.Common.{◌≡◌, drop}
use Rattle.study_reader.specs.Sections.{is_section}
use Rattle.study_reader.proofs.arrays.is_section.Given as goal

abbrev pub invariant-loop-section : goal.invariant-loop-section
invariant-loop-section l = is_section (drop l.section-index l.sections) l.name ≡ is_section l.sections l.name
