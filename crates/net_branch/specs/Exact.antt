-- A network as the theory of networks has it.
use Rattle.std.specs.Prelude.{map}
use Rattle.exact_fraction.specs.Fraction.{ratio_of}
use Rattle.network_theory.specs.Branch.{Tap as ExactTap, Law as ExactLaw, Series as ExactSeries, Shunt as ExactShunt, Coupled3 as ExactCoupled3, Branch as ExactBranch}
use Rattle.network_theory.specs.Network.{Network as ExactNetwork}
use Rattle.net_branch.specs.declared.network.Tap.{Tap}
use Rattle.net_branch.specs.declared.network.Law.{Law}
use Rattle.net_branch.specs.declared.network.Law.TheVariants.{Series, Shunt, Coupled3}
use Rattle.net_branch.specs.declared.network.Branch.{Branch}
use Rattle.net_branch.specs.declared.network.Network.{Network}

-- a tap with its exact ratio
abbrev pub exact_tap : Tap → ExactTap
exact_tap t = record { node = t.node.number; ratio = ratio_of t.ratio }

-- a law with its exact values
abbrev pub exact_law : Law → ExactLaw
exact_law (Series r k m x xc) = ExactSeries (ratio_of r) (ratio_of k) (ratio_of m) (ratio_of x) (ratio_of xc)
exact_law (Shunt b) = ExactShunt (ratio_of b)
exact_law (Coupled3 place self_r self_x mutual_r x_ab x_bc x_ca k m) = ExactCoupled3 place (record {
  self_r = ratio_of self_r;
  self_x = ratio_of self_x;
  mutual_r = ratio_of mutual_r;
  x_ab = ratio_of x_ab;
  x_bc = ratio_of x_bc;
  x_ca = ratio_of x_ca;
  k = ratio_of k;
  m = ratio_of m;
})

-- a branch with its exact values
abbrev pub exact_branch : Branch → ExactBranch
exact_branch b = record { taps = map exact_tap b.taps; law = exact_law b.law; group = b.group; owner = b.owner }

-- a network with its exact values
abbrev pub exact_network : Network → ExactNetwork
exact_network n = record { buses = n.buses; nodes = n.nodes; branches = map exact_branch n.branches }
