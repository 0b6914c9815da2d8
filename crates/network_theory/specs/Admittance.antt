-- Admittances of a network's branches at an order.
use Rattle.std.specs.Prelude.{◌≡◌, ◌≢◌, ℕ, List, [], ◌∷◌, Contains}
use Rattle.std.specs.List.{AllByRecursion}
use Rattle.exact_algebra.specs.Complex.{Complex, complex_numbers}
use Rattle.linear_systems.specs.Linear.{Solves, IsInjective}
use Rattle.network_theory.specs.Order.{Order}
use Rattle.network_theory.specs.Branch.{Law, Series, Shunt, Coupled3, Coupling, Branch}
use Rattle.network_theory.specs.Network.{Network, IsGroup, IsUncoupled}
use Rattle.network_theory.specs.Live.{HasLiveNode, Carries}
use Rattle.network_theory.specs.Impedance.{series_impedance, shunt_admittance, group_row}
open complex_numbers use {◌≈◌, nought, unit, ◌⊗◌}

-- a branch alone with its admittance, or a group of three with its admittances by row and column
pub data Part : Type 0 where
  Alone : Branch → Complex → Part
  Group : Branch → Branch → Branch → (ℕ → ℕ → Complex) → Part

-- the branches of a part
abbrev pub branches_of : Part → List Branch
branches_of (Alone b y) = b ∷ []
branches_of (Group a b c Y) = a ∷ b ∷ c ∷ []

-- the branches of the parts, in order
abbrev pub flatten : List Part → List Branch
flatten [] = []
flatten (Alone b y ∷ parts) = b ∷ flatten parts
flatten (Group a b c Y ∷ parts) = a ∷ b ∷ c ∷ flatten parts

-- y is the admittance of a law: Z·y = 1 for a Series, jhb for a Shunt
abbrev pub IsAdmittance : Order → Law → Complex → Type 0
IsAdmittance h (Series r k m x xc) y = series_impedance r k m x xc h ⊗ y ≈ unit
IsAdmittance h (Shunt b) y = y ≈ shunt_admittance b h
IsAdmittance h (Coupled3 place c) y = ⊥

-- the rows of a group's Z, each by the values of its branch
abbrev pub group_rows : Coupling → Coupling → Coupling → Order → List (List Complex)
group_rows a b c h = group_row a h 0 ∷ group_row b h 1 ∷ group_row c h 2 ∷ []

-- Y inverts a group's Z: each column of Y solves Z for a unit right side, and no other list does
pub record IsGroupAdmittance (h : Order) (a b c : Coupling) (Y : ℕ → ℕ → Complex) : Type 0 where
  pub first : Solves complex_numbers (group_rows a b c h) (Y 0 0 ∷ Y 1 0 ∷ Y 2 0 ∷ []) (unit ∷ nought ∷ nought ∷ [])
  pub second : Solves complex_numbers (group_rows a b c h) (Y 0 1 ∷ Y 1 1 ∷ Y 2 1 ∷ []) (nought ∷ unit ∷ nought ∷ [])
  pub third : Solves complex_numbers (group_rows a b c h) (Y 0 2 ∷ Y 1 2 ∷ Y 2 2 ∷ []) (nought ∷ nought ∷ unit ∷ [])
  pub only : IsInjective complex_numbers 3 (group_rows a b c h)

-- the numbers of a part are its admittances at order h
pub data HasAdmittance (h : Order) : Part → Type 0 where
  alone : (b : Branch) (y : Complex) → IsAdmittance h b.law y → HasAdmittance h (Alone b y)
  group : (a b c : Branch) (Y : ℕ → ℕ → Complex) (g : IsGroup a b c) → IsGroupAdmittance h g.first.values g.second.values g.third.values Y → HasAdmittance h (Group a b c Y)

-- the parts are the network's branches, and each that carries a current has its admittances at order h
pub record HasAdmittances (network : Network) (h : Order) (parts : List Part) : Type 0 where
  pub all : network.branches ≡ flatten parts
  pub each : AllByRecursion (λ part. (b : Branch) → Contains (branches_of part) b → Carries network b → HasAdmittance h part) parts

-- a list's uncoupled branches and complete groups, in order
pub data IsSplit : List Branch → List Part → Type 0 where
  end : IsSplit [] []
  one : (b : Branch) (y : Complex) (bs : List Branch) (ps : List Part) → IsUncoupled b → IsSplit bs ps → IsSplit (b ∷ bs) (Alone b y ∷ ps)
  three : (a b c : Branch) (Y : ℕ → ℕ → Complex) (bs : List Branch) (ps : List Part) → IsGroup a b c → AllByRecursion (λ o. o.group ≢ a.group) bs → IsSplit bs ps → IsSplit (a ∷ b ∷ c ∷ bs) (Group a b c Y ∷ ps)

-- each part with a live node has its admittances at order h
abbrev pub EachLivePart : Network → Order → List Part → Type 0
EachLivePart network h parts = AllByRecursion (λ part. (b : Branch) → Contains (branches_of part) b → HasLiveNode network b → HasAdmittance h part) parts
