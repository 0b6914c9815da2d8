-- What contracts see of a bench for a pair of networks.
use Rattle.std.specs.Prelude.{◌≡◌, ℕ, ◌<◌, ◌≤◌, List, ◌++◌, length, Option}
use Rattle.plain_elimination.specs.declared.limits.TheConstants.{MAX_SIZE}
use Rattle.admittance_box.specs.Assembled.{Assembled}
use Rattle.branchwise_test.specs.Drops.{LiveBranch, DropEnds, live_branches}
use Rattle.drop_bench.specs.Bench.{BenchSize}
use Rattle.branchwise_bench.specs.Layout.{bare_nodes, own_drops, AreInside}

-- the number of live nodes, and the live branches
pub record LivePair : Type 0 where
  pub nodes : ℕ
  pub branches : List LiveBranch

-- the same, where the branches may have no intervals
pub record BranchwisePair : Type 0 where
  pub nodes : ℕ
  pub branches : Option (List LiveBranch)

-- those of an assembly
abbrev pub branchwise_pair : ℕ → Assembled → BranchwisePair
branchwise_pair s a = record { nodes = length a.ordering; branches = live_branches s a.ordering a.low.branches a.high.branches }

-- drops, of which these are the bare ones, with a bench of this size, that are laid out for a pair
pub record IsLaidOut (s : ℕ) (pair : LivePair) (drops : List DropEnds) (size : BenchSize) : Type 0 where
  pub some : 0 < pair.nodes
  pub few : pair.nodes ≤ MAX_SIZE
  pub inside : AreInside pair.nodes pair.branches
  pub size_is : size ≡ record { nodes = pair.nodes; drops = length drops }
  pub laid : drops ≡ bare_nodes s 0 pair.nodes ++ own_drops pair.branches
