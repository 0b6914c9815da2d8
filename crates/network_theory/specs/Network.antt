-- Networks.
use Rattle.std.specs.Prelude.{◌≡◌, ◌≢◌, ℕ, ◌≤◌, ◌<◌, List, [], ◌∷◌}
use Rattle.std.specs.List.{AllByRecursion}
use Rattle.network_theory.specs.Branch.{Branch, Series, Shunt, Coupled3, Coupling, SameCoupling}

-- the number of bus nodes, which come first, the number of all nodes, and the branches
pub record Network : Type 0 where
  pub buses : ℕ
  pub nodes : ℕ
  pub branches : List Branch

-- a Series or a Shunt of group 0
abbrev pub IsUncoupled : Branch → Type 0
IsUncoupled b = elim b.law [ Series r k m x xc ↦ b.group ≡ 0 | Shunt y ↦ b.group ≡ 0 | Coupled3 place c ↦ ⊥ ]

-- a branch at a place of a group, with its own values
pub record HasPlace (b : Branch) (place : ℕ) : Type 0 where
  pub values : Coupling
  pub law : b.law ≡ Coupled3 place values

-- three branches of one group other than 0 and of one owner, in their places, with equal values
pub record IsGroup (a b c : Branch) : Type 0 where
  pub first : HasPlace a 0
  pub second : HasPlace b 1
  pub third : HasPlace c 2
  pub equal_second : SameCoupling second.values first.values
  pub equal_third : SameCoupling third.values first.values
  pub number : a.group ≢ 0
  pub same_second : b.group ≡ a.group
  pub same_third : c.group ≡ a.group
  pub owner_second : b.owner ≡ a.owner
  pub owner_third : c.owner ≡ a.owner

-- a list that is made of uncoupled branches and of complete groups, no other branch having a group's number
pub data IsGrouped : List Branch → Type 0 where
  done : IsGrouped []
  alone : (b : Branch) (bs : List Branch) → IsUncoupled b → IsGrouped bs → IsGrouped (b ∷ bs)
  group : (a b c : Branch) (bs : List Branch) → IsGroup a b c → AllByRecursion (λ o. o.group ≢ a.group) bs → IsGrouped bs → IsGrouped (a ∷ b ∷ c ∷ bs)

-- at most as many bus nodes as nodes, each tap's node is one of the nodes, and the branches are uncoupled or stand in complete groups; its size has no limit here
pub record IsWhole (network : Network) : Type 0 where
  pub buses : network.buses ≤ network.nodes
  pub taps : AllByRecursion (λ b. AllByRecursion (λ t. t.node < network.nodes) b.taps) network.branches
  pub groups : IsGrouped network.branches
