use Rattle.std.proofs.Common.{arith}
use Rattle.report_verify.proofs.Tallied.{run_numbered, region_told}
use Rattle.report_verify.proofs.told.Told.with_region.Goals as goal

pub overflow_add-result : goal.overflow_add-result
overflow_add-result c = omega (arith, run_numbered c.args.self.now c.requires.is c.requires.running)

pub returns-clause-is : goal.returns-clause-is
returns-clause-is c = region_told c.args.self.now c.requires.is c.requires.running
