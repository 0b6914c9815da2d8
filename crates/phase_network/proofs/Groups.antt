-- The number of the next group.
use Rattle.std.proofs.Common.{◌≡◌, ℕ, suc, ◌+◌, ◌≤◌, ◌<◌, ◌∙◌, List, [], ◌∷◌, ◌++◌, map, length, take, get_or, ap, arith}
use Rattle.std.proofs.Math.Seq.{take-suc}
use Rattle.std.proofs.lemmas.List.{take_all, map-append}
use Rattle.std.specs.Prelude.{max}
use Rattle.std.specs.List.{AllByRecursion}
use Rattle.network_theory.specs.Branch.{Branch}
use Rattle.net_branch.specs.declared.network.Branch.{Branch as BuiltBranch}
use Rattle.net_branch.specs.Exact.{exact_branch}
use Rattle.net_branch.proofs.Wholes.{each_weaker}
use Rattle.element_parts.proofs.PlainElements.{each_built}
use Rattle.phase_network.specs.Phases.{next_group}

pub first_group : (bs : List Branch) → 1 ≤ next_group bs
first_group [] = omega arith
first_group (b ∷ bs) = grind arith

-- it is above those of the branches, and no more than what is above them all
pub groups_below : (bs : List Branch) → AllByRecursion (λ b. b.group < next_group bs) bs
groups_below [] = tt
groups_below (b ∷ bs) = (grind arith, each_weaker (λ o. o.group < next_group bs) (λ o. o.group < max (b.group + 1) (next_group bs)) (λ o h. grind arith) bs (groups_below bs))

pub groups_bound : (m : ℕ) (bs : List Branch) → 1 ≤ m → AllByRecursion (λ b. b.group < m) bs → next_group bs ≤ m
groups_bound m [] l h = l
groups_bound m (b ∷ bs) l h = let rest = groups_bound m bs l h.1 in let one : b.group + 1 ≤ m = omega (arith, h.0) in grind arith

-- with one branch more
pub one_more_group : (bs : List Branch) (b : Branch) → next_group (bs ++ b ∷ []) ≡ max (next_group bs) (b.group + 1)
one_more_group [] b = grind arith
one_more_group (a ∷ bs) b = let rest = one_more_group bs b in grind arith

-- of the branches up to one of them
pub next_taken : (bs : List BuiltBranch) (i : ℕ) (b : BuiltBranch) → i < length bs → b ≡ get_or bs i b
    → next_group (map exact_branch (take (i + 1) bs)) ≡ max (next_group (map exact_branch (take i bs))) (b.group + 1)
next_taken bs i b h e =
    let more : i + 1 ≡ suc i = omega arith in
    rw (more, take-suc bs i b h, ← e, map-append exact_branch (take i bs) (b ∷ [])) (one_more_group (map exact_branch (take i bs)) (exact_branch b))

pub below_taken : (bs : List BuiltBranch) (i next : ℕ) → length bs ≤ i → next ≡ next_group (map exact_branch (take i bs)) → AllByRecursion (λ b. b.group < next) bs
below_taken bs i next h e =
    let all : next ≡ next_group (map exact_branch bs) = e ∙ ap (λ (xs : List BuiltBranch). next_group (map exact_branch xs)) (take_all i bs h) in
    each_built (λ b. b.group < next_group (map exact_branch bs)) (λ b. b.group < next) (λ b k. omega (arith, k, all)) bs (groups_below (map exact_branch bs))
