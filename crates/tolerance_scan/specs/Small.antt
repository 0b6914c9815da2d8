-- How large the values are that are widened.
use Rattle.std.specs.Prelude.{◌≡◌, ◌≢◌, ◌≤◌, ℕ, List, [], ◌∷◌}
use Rattle.std.specs.List.{AllByRecursion}
use Rattle.network_theory.specs.Branch.{Law, Series, Shunt, Coupled3}
use Rattle.network_theory.specs.Network.{Network}
use Rattle.element_parts.specs.Small.{IsSmall}
use Rattle.study_model.specs.declared.records.Tolerance.{Tolerance}

-- the resistance and both reactances of a Series, or the susceptance of a Shunt: each has a numerator and a denominator below 2^105 in size
abbrev pub HasSmallValues : Law → Type 0
HasSmallValues (Series r k m x xc) = IsSmall r × IsSmall x × IsSmall xc
HasSmallValues (Shunt b) = IsSmall b
HasSmallValues (Coupled3 place c) = Unit {0}

-- so it is of each branch of an owner
abbrev pub IsWidenable : ℕ → Network → Type 0
IsWidenable owner network = AllByRecursion (λ b. b.owner ≡ owner → HasSmallValues b.law) network.branches

-- tolerances of a network that can be widened by one after another: each is of at most 500 thousandths and of an element of small values, and no later one is of
-- that element
abbrev pub AreWidenable : List Tolerance → Network → Type 0
AreWidenable [] network = Unit {0}
AreWidenable (t ∷ ts) network = (t.permille ≤ 500) × IsWidenable t.element network × AllByRecursion (λ u. u.element ≢ t.element) ts × AreWidenable ts network
