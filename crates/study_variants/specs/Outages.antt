-- Networks without the branches of one element.
use Rattle.std.specs.Prelude.{◌≡◌, ◌≢◌, ℕ, ◌+◌, ◌≤◌, ◌==◌, Bool, not, List, [], length, take, slice_get, Some}
use Rattle.std.specs.List.{filter, AllByRecursion}
use Rattle.network_theory.specs.Network.{Network}
use Rattle.net_branch.specs.declared.network.Branch.{Branch}
use Rattle.study_model.specs.Elements.{StudyElement}
use Rattle.element_parts.specs.Expansion.{Expansion}
use Rattle.sequence_network.specs.Networks.{grown}
use Rattle.sequence_network.specs.Owners.{owned_by, OwnTheirBranches}

-- an owner isn't this one
abbrev pub is_others : ℕ → ℕ → Bool
is_others number owner = not (owner == number)

-- the branches that aren't an owner's
abbrev pub others_in : ℕ → List Branch → List Branch
others_in number branches = filter (λ b. is_others number b.owner) branches

-- the network without the branches of an owner, all else unchanged
abbrev pub without : ℕ → Network → Network
without number network = record network { branches = filter (λ b. is_others number b.owner) network.branches }

-- In a network that has grown from another by these elements, but for the element at a place: it has no branch, and each other element owns exactly the
-- branches that it adds where all elements are there.
pub record IsWithoutElement (added : Network → StudyElement → ℕ → Expansion) (start : Network) (es : List StudyElement) (out : ℕ) (network : Network) : Type 0 where
  pub none : owned_by (out + 1) network.branches ≡ []
  pub each : (place : ℕ) (e : StudyElement) → place ≢ out → slice_get es place ≡ Some e
      → owned_by (place + 1) network.branches ≡ (added (grown added start 1 (take place es)) e (place + 1)).branches
  pub others : AllByRecursion (λ b. (1 ≤ b.owner) × (b.owner ≤ length es)) network.branches

-- so it is after an outage, in both models
abbrev pub OutageOfElement : Type 0
OutageOfElement =
    (added : Network → StudyElement → ℕ → Expansion) (start : Network) (es : List StudyElement) (network : Network) (out : ℕ)
    → OwnTheirBranches added start es network → IsWithoutElement added start es out (without (out + 1) network)
