-- Why a scan of two networks isn't made.
use Rattle.std.specs.Prelude.{ℕ}
use Rattle.network_theory.specs.Between.{IsPair}
use Rattle.network_theory.specs.Network.{Network}
use Rattle.tolerance_scan.specs.Apart.{IsApart}
use Rattle.tolerance_scan.specs.declared.fault.ToleranceFault.{ToleranceFault}
use Rattle.tolerance_scan.specs.declared.fault.ToleranceFault.TheVariants.{NotAPair, NoMemory}

-- they aren't a pair, with the number that says where; or they are one, and memory was wanting
pub data IsFaultOf (low high : Network) : ToleranceFault → Type 0 where
  not_a_pair : (n : ℕ) → IsApart low high n → IsFaultOf low high (NotAPair n)
  no_memory : IsPair low high → IsFaultOf low high NoMemory
