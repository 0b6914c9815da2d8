-- Which branch may come next, in plain words.
use Rattle.std.specs.Prelude.{◌≡◌, ◌≢◌, ℕ, suc, ◌<◌, List, [], ◌∷◌, ◌++◌, map}
use Rattle.std.specs.List.{AllByRecursion}
use Rattle.network_theory.specs.Branch.{SameCoupling}
use Rattle.network_theory.specs.Network.{HasPlace, IsGrouped, IsUncoupled}
use Rattle.net_branch.specs.declared.network.Branch.{Branch}
use Rattle.net_branch.specs.Exact.{exact_branch}
use Rattle.net_branch.specs.Whole.{IsGrouping}

-- a branch may come next: while no group is incomplete, one of group 0 or the first of a group that no branch has; else the next of the last branch's group, with equal values
pub data IsNext (bs : List Branch) (b : Branch) : Type 0 where
  uncoupled : IsGrouped (map exact_branch bs) → IsUncoupled (exact_branch b) → IsNext bs b
  first : IsGrouped (map exact_branch bs) → HasPlace (exact_branch b) 0 → b.group ≢ 0 → AllByRecursion (λ o. o.group ≢ b.group) bs → IsNext bs b
  later : (front : List Branch) (a : Branch) (place : ℕ) → bs ≡ front ++ a ∷ [] → place < 2
      → (last : HasPlace (exact_branch a) place) (next : HasPlace (exact_branch b) (suc place)) → SameCoupling next.values last.values
      → b.group ≡ a.group → b.owner ≡ a.owner → IsNext bs b

-- such a branch keeps the last group one that lacks at most two branches
abbrev pub NextKeepsGrouping : Type 0
NextKeepsGrouping = (bs : List Branch) (b : Branch) → IsGrouping bs → IsNext bs b → IsGrouping (bs ++ b ∷ [])
