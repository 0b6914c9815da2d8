-- What is left of a network's nodal matrix when all nodes but one are taken out.
use Rattle.std.specs.Prelude.{ℕ, List}
use Rattle.exact_algebra.specs.Complex.{Complex, complex_numbers}
use Rattle.linear_systems.specs.Linear.{IsComplement}
use Rattle.network_theory.specs.Order.{Order}
use Rattle.network_theory.specs.Network.{Network}
use Rattle.network_theory.specs.Admittance.{Part}
use Rattle.network_theory.specs.Nodal.{IsNodalSystem, IsLast}

-- the nodal matrix with node k last has the complement y
pub record IsReducedTo (network : Network) (h : Order) (k : ℕ) (y : Complex) : Type 0 where
  pub parts : List Part
  pub ordering : List ℕ
  pub rows : List (List Complex)
  pub n : ℕ
  pub system : IsNodalSystem network h parts ordering rows
  pub last : IsLast ordering n k
  pub value : (v : Complex) → IsComplement complex_numbers n rows y v
