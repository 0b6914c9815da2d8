use Rattle.net_branch.specs.Exact.{exact_network}
use Rattle.network_theory.proofs.More.{between_itself}
use Rattle.scan_cases.proofs.scans.scan_between.Goals as goal

pub between-requires-clause-pair : goal.between-requires-clause-pair
between-requires-clause-pair g c = (between_itself (exact_network c.args.network.now) c.requires.whole.exact).from_low
