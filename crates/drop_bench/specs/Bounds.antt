-- Bounds of sizes of the code as contracts see them.
use Rattle.std.specs.Prelude.{◌≡◌, ℕ, ◌+◌, List, length, map}
use Rattle.std.specs.List.{All}
use Rattle.branchwise_test.specs.Sizes.{Bounds}
use Rattle.branchwise_test.specs.Reach.{Reached}
use Rattle.drop_bench.specs.declared.sizes.Sizes.{Sizes}
use Rattle.drop_bench.specs.declared.room.Room.{Room}
use Rattle.drop_bench.specs.declared.left.LeftRoom.{LeftRoom}

-- by their lists
abbrev pub bounds_of : Sizes → Bounds
bounds_of b = record { left = map (λ r. r.items) b.left.items; transfers = map (λ r. r.items) b.transfers.items; rests = b.rests.items }

-- what is reached, by both lists
abbrev pub reached_of : List ℕ → List ℕ → Reached
reached_of edges all = record { edges = edges; all = all }

-- of so many nodes and so many drops
pub record IsOfSize (nodes drops : ℕ) (b : Sizes) : Type 0 where
  pub left : length b.left.items ≡ nodes
  pub left_wide : All (λ r. length r.items ≡ nodes) b.left.items
  pub transfers : length b.transfers.items ≡ drops
  pub transfers_wide : All (λ r. length r.items ≡ drops) b.transfers.items
  pub rests : length b.rests.items ≡ drops

-- room for the numbers of so many nodes and so many drops
pub record HasRoom (node_count drops : ℕ) (r : Room) : Type 0 where
  pub xs : length r.xs.items ≡ drops
  pub edges : length r.edges.items ≡ drops
  pub all : length r.all.items ≡ drops
  pub weights : length r.weights.items ≡ drops
  pub weighed_edges : length r.weighed_edges.items ≡ drops
  pub weighed : length r.weighed.items ≡ drops
  pub nodes : length r.nodes.items ≡ node_count
  pub far : length r.far.items ≡ drops

-- room for a row of a square matrix of this size, and for the ways over its rows
pub record HasLeftRoom {E : Type 0} (size : ℕ) (r : LeftRoom E) : Type 0 where
  pub unit : length r.unit.items ≡ size
  pub sums : length r.sums.items ≡ size
  pub ways : length r.ways.items ≡ size
  pub ways_wide : All (λ w. length w.items ≡ size + 1) r.ways.items
