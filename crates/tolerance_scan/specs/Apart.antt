-- Why two networks aren't a pair.
use Rattle.std.specs.Prelude.{◌≡◌, ℕ, suc, List, [], ◌∷◌}
use Rattle.network_theory.specs.Between.{BranchUpTo, IsPair}
use Rattle.network_theory.specs.Branch.{Branch}
use Rattle.network_theory.specs.Network.{Network}

-- the place of the first branch whose shape differs, or one of whose numbers is above that of the other network, or that only one network has
pub data IsFirstApart : List Branch → List Branch → ℕ → Type 0 where
  differ : (a b : Branch) (low high : List Branch) → ¬ BranchUpTo a b → IsFirstApart (a ∷ low) (b ∷ high) 0
  low_alone : (a : Branch) (low : List Branch) → IsFirstApart (a ∷ low) [] 0
  high_alone : (b : Branch) (high : List Branch) → IsFirstApart [] (b ∷ high) 0
  later : (a b : Branch) (low high : List Branch) (n : ℕ) → BranchUpTo a b → IsFirstApart low high n → IsFirstApart (a ∷ low) (b ∷ high) (suc n)

-- 0 where the numbers of bus nodes or of nodes differ, else that place
pub data IsApart (low high : Network) : ℕ → Type 0 where
  counts : ¬ ((low.buses ≡ high.buses) × (low.nodes ≡ high.nodes)) → IsApart low high 0
  branch : (n : ℕ) → low.buses ≡ high.buses → low.nodes ≡ high.nodes → IsFirstApart low.branches high.branches n → IsApart low high n

-- such networks aren't a pair
abbrev pub NoPairApart : Type 0
NoPairApart = (low high : Network) (n : ℕ) → IsApart low high n → ¬ IsPair low high
