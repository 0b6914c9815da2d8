-- How large the numbers of a law are.
use Rattle.std.specs.Prelude.{suc, ◌<◌, ◌^◌, unsigned_abs, List}
use Rattle.std.specs.List.{AllByRecursion}
use Rattle.exact_algebra.specs.Ratio.{Ratio}
use Rattle.network_theory.specs.Branch.{Law, Series, Shunt, Coupled3, Branch}

-- a numerator and a denominator below 2^105 in size
pub record IsSmall (x : Ratio) : Type 0 where
  pub num : unsigned_abs x.num < 2 ^ 105
  pub den : suc x.den_less_one < 2 ^ 105

-- the values of a law, each with a numerator and a denominator below 2^105 in size
abbrev pub IsSmallLaw : Law → Type 0
IsSmallLaw (Series r k m x xc) = IsSmall r × IsSmall k × IsSmall m × IsSmall x × IsSmall xc
IsSmallLaw (Shunt b) = IsSmall b
IsSmallLaw (Coupled3 place c) = IsSmall c.self_r × IsSmall c.self_x × IsSmall c.mutual_r × IsSmall c.x_ab × IsSmall c.x_bc × IsSmall c.x_ca × IsSmall c.k × IsSmall c.m

-- branches whose laws have such values
abbrev pub HaveSmallLaws : List Branch → Type 0
HaveSmallLaws branches = AllByRecursion (λ b. IsSmallLaw b.law) branches
