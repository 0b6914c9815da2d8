-- Branches that stand alone, in no group of three.
use Rattle.std.specs.Prelude.{◌≡◌, ℕ, ◌<◌, pos, List}
use Rattle.std.specs.List.{AllByRecursion}
use Rattle.network_theory.specs.Branch.{Law, Series, Shunt, Coupled3, Branch}

-- a Series other than a plain short, or a Shunt other than 0
abbrev pub IsPlainLaw : Law → Type 0
IsPlainLaw (Series r k m x xc) = ¬ ((r.num ≡ pos 0) × (x.num ≡ pos 0) × (xc.num ≡ pos 0))
IsPlainLaw (Shunt b) = ¬ (b.num ≡ pos 0)
IsPlainLaw (Coupled3 place c) = ⊥

-- an uncoupled branch of such a law, whose taps are at the first nodes, so many of them
pub record IsPlainBranch (nodes : ℕ) (b : Branch) : Type 0 where
  pub taps : AllByRecursion (λ t. t.node < nodes) b.taps
  pub group : b.group ≡ 0
  pub law : IsPlainLaw b.law

-- such branches
abbrev pub ArePlain : ℕ → List Branch → Type 0
ArePlain nodes branches = AllByRecursion (IsPlainBranch nodes) branches
