use Rattle.tolerance_scan.proofs.Apart.{no_pair_apart}
use Rattle.tolerance_scan.proofs.no_pair_apart.Goals as goal

pub returns : goal.returns
returns c = record { law = no_pair_apart }
