-- Why a branch is refused.
use Rattle.std.specs.Prelude.{◌≡◌, ◌≢◌, ℕ, ◌+◌, Bool, false, not, ◌&&◌, ◌||◌, ◌==◌, nat_lt, nat_le, if◌then◌else◌, List, map, length, unsigned_abs, Option, Some, None}
use Rattle.std.specs.List.{AllByRecursion, list_all}
use Rattle.exact_fraction.specs.declared.fraction.Fraction.{Fraction}
use Rattle.network_theory.specs.Network.{IsGrouped}
use Rattle.net_branch.specs.declared.fault.NetFault.{NetFault}
use Rattle.net_branch.specs.declared.fault.NetFault.TheVariants.{NodeOutOfRange, TooMany, ZeroLaw}
use Rattle.net_branch.specs.declared.limits.TheConstants.{MAX_NODES, MAX_BRANCHES}
use Rattle.net_branch.specs.declared.network.Law.{Law}
use Rattle.net_branch.specs.declared.network.Law.TheVariants.{Series, Shunt, Coupled3}
use Rattle.net_branch.specs.declared.network.Branch.{Branch}
use Rattle.net_branch.specs.declared.network.Network.{Network}
use Rattle.net_branch.specs.Exact.{exact_branch}
use Rattle.net_branch.specs.Whole.{AreAtNodes}

-- a fraction is 0
abbrev pub is_zero : Fraction → Bool
is_zero x = unsigned_abs x.num == 0

-- a Series of r, x and xc all zero, or a Shunt of b zero
abbrev pub is_zero_law : Law → Bool
is_zero_law (Series r k m x xc) = is_zero r && (is_zero x && is_zero xc)
is_zero_law (Shunt b) = is_zero b
is_zero_law (Coupled3 place self_r self_x mutual_r x_ab x_bc x_ca k m) = false

-- each tap of a branch is at one of so many nodes
abbrev pub is_at_nodes : ℕ → Branch → Bool
is_at_nodes nodes branch = list_all (λ t. nat_lt t.node.number nodes) branch.taps

-- the first refusal that applies to a branch
abbrev pub push_refusal : Network → Branch → Option NetFault
push_refusal network branch =
    if not (is_at_nodes network.nodes branch) then Some NodeOutOfRange else
    if nat_le MAX_BRANCHES (length network.branches) then Some TooMany else
    if is_zero_law branch.law then Some ZeroLaw else
    None

-- with so many nodes and branches more, the network has more than it may
abbrev pub passes_limits : Network → ℕ → ℕ → Bool
passes_limits network nodes branches = nat_lt MAX_NODES (network.nodes + nodes) || nat_lt MAX_BRANCHES (length network.branches + branches)

-- the branches of an element of so many inner nodes: they are at the network's nodes and the inner ones, make whole groups, of
-- numbers that no branch of the network has, and none is refused for its law
pub record IsElement (network : Network) (inner : ℕ) (branches : List Branch) : Type 0 where
  pub taps : AreAtNodes (network.nodes + inner) branches
  pub groups : IsGrouped (map exact_branch branches)
  pub apart : AllByRecursion (λ b. b.group ≢ 0 → AllByRecursion (λ o. o.group ≢ b.group) network.branches) branches
  pub laws : AllByRecursion (λ b. is_zero_law b.law ≡ false) branches
