-- Networks of which no value that is widened is below 0.
use Rattle.std.specs.Prelude.{pos, ◌≤ℤ◌}
use Rattle.std.specs.List.{AllByRecursion}
use Rattle.exact_algebra.specs.Ratio.{Ratio}
use Rattle.network_theory.specs.Branch.{Law, Series, Shunt, Coupled3}
use Rattle.network_theory.specs.Network.{Network}

-- a fraction of at least 0
pub record IsNatural (x : Ratio) : Type 0 where
  pub num : pos 0 ≤ℤ x.num

-- the resistance and both reactances of a Series, or the susceptance of a Shunt, are at least 0
abbrev pub IsNaturalLaw : Law → Type 0
IsNaturalLaw (Series r k m x xc) = IsNatural r × IsNatural x × IsNatural xc
IsNaturalLaw (Shunt b) = IsNatural b
IsNaturalLaw (Coupled3 place c) = Unit {0}

-- so it is of each branch of a network
abbrev pub HaveNaturalValues : Network → Type 0
HaveNaturalValues network = AllByRecursion (λ b. IsNaturalLaw b.law) network.branches
