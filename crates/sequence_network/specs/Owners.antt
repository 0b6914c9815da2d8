-- Whose the branches of a network are that grows element by element.
use Rattle.std.specs.Prelude.{◌≡◌, ℕ, ◌+◌, ◌≤◌, ◌==◌, List, length, take, slice_get, Some}
use Rattle.std.specs.List.{filter, AllByRecursion}
use Rattle.network_theory.specs.Branch.{Branch}
use Rattle.network_theory.specs.Network.{Network}
use Rattle.study_model.specs.Elements.{StudyElement}
use Rattle.element_parts.specs.Expansion.{Expansion}
use Rattle.sequence_network.specs.Networks.{grown}

-- the branches of an owner
abbrev pub owned_by : ℕ → List Branch → List Branch
owned_by number branches = filter (λ b. b.owner == number) branches

-- In a network that has grown from another by these elements, each element owns exactly the branches that it adds, under its number, which is its place from
-- 1; no branch has another owner.
pub record OwnTheirBranches (added : Network → StudyElement → ℕ → Expansion) (start : Network) (es : List StudyElement) (network : Network) : Type 0 where
  pub each : (place : ℕ) (e : StudyElement) → slice_get es place ≡ Some e
      → owned_by (place + 1) network.branches ≡ (added (grown added start 1 (take place es)) e (place + 1)).branches
  pub others : AllByRecursion (λ b. (1 ≤ b.owner) × (b.owner ≤ length es)) network.branches
