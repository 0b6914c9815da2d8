-- Networks of which the values of one element lie some thousandths higher or lower.
use Rattle.std.specs.Prelude.{ℕ, suc, ◌+◌, ◌-◌, ◌*◌, ◌==◌, pos, ◌*ℤ◌, Bool, true, false, if◌then◌else◌, List, [], ◌∷◌, map}
use Rattle.exact_algebra.specs.Ratio.{Ratio, over}
use Rattle.network_theory.specs.Branch.{Law, Series, Shunt, Coupled3, Branch}
use Rattle.network_theory.specs.Network.{Network}
use Rattle.study_model.specs.declared.records.Tolerance.{Tolerance}

-- what a value becomes, in thousandths of it: so many more upward, else so many less
abbrev pub factor_of : ℕ → Bool → ℕ
factor_of permille true = 1000 + permille
factor_of permille false = 1000 - permille

-- so many thousandths of a value, not reduced
unfoldable pub multiplied : ℕ → Ratio → Ratio
multiplied factor x = over (x.num *ℤ pos factor) (suc x.den_less_one * 1000)

-- the resistance and both reactances of a Series, or the susceptance of a Shunt; k and m stay, and so does a coupled branch
abbrev pub widened_law : ℕ → Law → Law
widened_law factor (Series r k m x xc) = Series (multiplied factor r) k m (multiplied factor x) (multiplied factor xc)
widened_law factor (Shunt b) = Shunt (multiplied factor b)
widened_law factor (Coupled3 place c) = Coupled3 place c

-- a branch, whose law is widened where it is the owner's
abbrev pub widened_branch : ℕ → ℕ → Branch → Branch
widened_branch owner factor b = record b { law = if b.owner == owner then widened_law factor b.law else b.law }

-- a network in which the values of an owner are so many thousandths more upward, else so many less; all else is unchanged
abbrev pub widened : ℕ → ℕ → Bool → Network → Network
widened owner permille upward network = record network { branches = map (widened_branch owner (factor_of permille upward)) network.branches }

-- a network in which the values of each element that has a tolerance are widened by it, one way
abbrev pub widened_by : Bool → List Tolerance → Network → Network
widened_by upward [] network = network
widened_by upward (t ∷ ts) network = widened_by upward ts (widened t.element t.permille upward network)
