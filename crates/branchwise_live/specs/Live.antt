-- Live branches of the code as contracts see them.
use Rattle.std.specs.Prelude.{ℕ, List, [], ◌∷◌, ◌++◌, map, Option, Some, if◌then◌else◌}
use Rattle.complex_interval.specs.Ends.{Ends}
use Rattle.network_theory.specs.Branch.{Branch}
use Rattle.admittance_box.specs.Addends.{has_place}
use Rattle.admittance_box.specs.Intervals.{law_ends, placed_ends, pair_ends}
use Rattle.admittance_box.specs.Steps.{◌>>=◌}
use Rattle.branchwise_test.specs.Drops.{LiveBranch, live_branch}
use Rattle.branchwise_live.specs.declared.live.LiveBranchIntervals.{LiveBranchIntervals}

-- by the ends of its numbers
abbrev pub live_ends : {E : Type 0} → (E → Ends) → LiveBranchIntervals E → LiveBranch
live_ends ends b = record { law = law_ends ends b.law; taps = map (placed_ends ends) b.taps.items; pairs = map (pair_ends ends) b.pairs.items }

-- the branches with one more at their end, from a to b, if its nodes are live
abbrev pub with_live : ℕ → List ℕ → Branch → Branch → List LiveBranch → Option (List LiveBranch)
with_live s ordering a b branches = if has_place ordering a.taps then live_branch s ordering a b >>= (λ l. Some (branches ++ l ∷ [])) else Some branches
