use Rattle.std.proofs.Common.{◌≡◌, false, sym, subst, arith}
use Rattle.study_scans.specs.declared.counts.Tally.{Tally}
use Rattle.report_verify.specs.Told.{IsTold}
use Rattle.report_verify.proofs.Tallied.{box_told}
use Rattle.report_verify.proofs.told.Told.with_box.Goals as goal

pub tally_more-requires-clause-room : goal.tally_more-requires-clause-room
tally_more-requires-clause-room c = omega (arith, c.requires.is.few, c.requires.begins, c.requires.up, c.requires.short)

pub returns-clause-is : goal.returns-clause-is
returns-clause-is c =
    subst (λ (t : Tally). IsTold (record { reached = c.args.found.now.hi; tally = t; after_region = false })) (sym c.tally_more.ensures)
    (box_told c.args.self.now c.args.found.now c.requires.is c.requires.begins c.requires.up c.requires.short c.requires.text)
