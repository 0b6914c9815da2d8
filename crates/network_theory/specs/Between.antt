-- Networks between two.
use Rattle.std.specs.Prelude.{◌≡◌}
use Rattle.std.specs.List.{AllZip}
use Rattle.exact_algebra.specs.Ratio.{◌≼◌}
use Rattle.network_theory.specs.Branch.{Tap, Law, Series, Shunt, Coupled3, Coupling, Branch}
use Rattle.network_theory.specs.Network.{Network, IsWhole}

-- the same node, and a ratio at most the other's
pub record TapUpTo (t u : Tap) : Type 0 where
  pub node : t.node ≡ u.node
  pub ratio : t.ratio ≼ u.ratio

-- each value of c is at most that of d
pub record CouplingUpTo (c d : Coupling) : Type 0 where
  pub self_r : c.self_r ≼ d.self_r
  pub self_x : c.self_x ≼ d.self_x
  pub mutual_r : c.mutual_r ≼ d.mutual_r
  pub x_ab : c.x_ab ≼ d.x_ab
  pub x_bc : c.x_bc ≼ d.x_bc
  pub x_ca : c.x_ca ≼ d.x_ca
  pub k : c.k ≼ d.k
  pub m : c.m ≼ d.m

-- a law of the same kind, each of whose numbers is at most the other's
abbrev pub LawUpTo : Law → Law → Type 0
LawUpTo (Series r k m x xc) (Series r' k' m' x' xc') = (r ≼ r') × (k ≼ k') × (m ≼ m') × (x ≼ x') × (xc ≼ xc')
LawUpTo (Shunt b) (Shunt b') = b ≼ b'
LawUpTo (Coupled3 place c) (Coupled3 place' c') = (place ≡ place') × CouplingUpTo c c'
LawUpTo _ _ = ⊥

-- the same taps, kind of law, group and owner, and each number of a at most that of b
pub record BranchUpTo (a b : Branch) : Type 0 where
  pub taps : AllZip TapUpTo a.taps b.taps
  pub law : LawUpTo a.law b.law
  pub group : a.group ≡ b.group
  pub owner : a.owner ≡ b.owner

-- the same shape, and each number of low at most that of high
pub record IsPair (low high : Network) : Type 0 where
  pub buses : low.buses ≡ high.buses
  pub nodes : low.nodes ≡ high.nodes
  pub branches : AllZip BranchUpTo low.branches high.branches

-- a whole network of their shape, each of whose numbers is at least low's and at most high's
pub record LiesBetween (network low high : Network) : Type 0 where
  pub whole : IsWhole network
  pub from_low : IsPair low network
  pub to_high : IsPair network high
