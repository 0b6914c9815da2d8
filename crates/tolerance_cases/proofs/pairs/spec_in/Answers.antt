use Rattle.std.proofs.Common.{sym, subst}
use Rattle.band_subdivision.specs.ScanSpec.{IsScanSpec}
use Rattle.study_scans.proofs.Asked.{spec_in_range}
use Rattle.tolerance_cases.proofs.pairs.spec_in.Goals as goal

pub returns : goal.returns
returns c = subst IsScanSpec (sym c.spec_of.ensures) (spec_in_range c.args.study.now c.args.scan.now c.requires.study c.requires.scan)
