use Rattle.tolerance_scan.specs.Faults.{not_a_pair, no_memory}
use Rattle.tolerance_scan.proofs.between.ToleranceScan.new.Goals as goal

pub returns-in-Some-clause-fault : goal.returns-in-Some-clause-fault
returns-in-Some-clause-fault g c = not_a_pair c.in-Some.number c.in-Some.ensures

pub returns-in-Err-clause-fault : goal.returns-in-Err-clause-fault
returns-in-Err-clause-fault g c = no_memory c.in-None.ensures
