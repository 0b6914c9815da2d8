-- What contracts see of a bench.
use Rattle.std.specs.Prelude.{ℕ}

-- the numbers of nodes and of drops
pub record BenchSize : Type 0 where
  pub nodes : ℕ
  pub drops : ℕ
