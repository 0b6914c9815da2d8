-- Networks with lower and with higher values are a pair.
use Rattle.std.proofs.Common.{◌≡◌, ◌+◌, ◌-◌, ◌≤◌, ◌==◌, ℕ, Bool, true, false, List, [], ◌∷◌, refl, arith}
use Rattle.std.specs.Prelude.{map, if◌then◌else◌}
use Rattle.std.specs.List.{AllByRecursion, AllZip}
use Rattle.exact_algebra.specs.Ratio.{Ratio, ◌≼◌}
use Rattle.branchwise_laws.proofs.AtMost.{le_next}
use Rattle.network_theory.specs.Between.{LawUpTo, BranchUpTo, IsPair, LiesBetween}
use Rattle.network_theory.specs.Branch.{Law, Series, Shunt, Coupled3, Branch}
use Rattle.network_theory.specs.Network.{Network, IsWhole}
use Rattle.network_theory.proofs.More.{between_itself}
use Rattle.study_model.specs.declared.records.Tolerance.{Tolerance}
use Rattle.tolerance_scan.specs.Natural.{IsNatural, IsNaturalLaw, HaveNaturalValues}
use Rattle.tolerance_scan.specs.Widened.{factor_of, multiplied, widened_law, widened_branch, widened, widened_by}
use Rattle.tolerance_scan.proofs.Values.{natural_multiplied, multiplied_down, multiplied_up}
use Rattle.tolerance_scan.proofs.Kept.{whole_kept}

-- ---- values of at least 0 stay so
natural_law : (factor : ℕ) (own : Bool) (l : Law) → IsNaturalLaw l → IsNaturalLaw (if own then widened_law factor l else l)
natural_law factor false l h = h
natural_law factor true (Series r k m x xc) h = (natural_multiplied factor r h.0, natural_multiplied factor x h.1, natural_multiplied factor xc h.2)
natural_law factor true (Shunt b) h = natural_multiplied factor b h
natural_law factor true (Coupled3 place c) h = tt

natural_branches : (owner factor : ℕ) (bs : List Branch) → AllByRecursion (λ b. IsNaturalLaw b.law) bs → AllByRecursion (λ b. IsNaturalLaw b.law) (map (widened_branch owner factor) bs)
natural_branches owner factor [] h = tt
natural_branches owner factor (b ∷ bs) h = (natural_law factor (b.owner == owner) b.law h.0, natural_branches owner factor bs h.1)

natural_kept : (owner permille : ℕ) (upward : Bool) (network : Network) → HaveNaturalValues network → HaveNaturalValues (widened owner permille upward network)
natural_kept owner permille upward network h = natural_branches owner (factor_of permille upward) network.branches h

-- ---- one way
-- a law that is at most another is so when it is lowered
law_lowered : (factor : ℕ) (own : Bool) (l u : Law) → factor ≤ 1000 → IsNaturalLaw l → LawUpTo l u → LawUpTo (if own then widened_law factor l else l) u
law_lowered factor false l u few h p = p
law_lowered factor true (Series r k m x xc) (Series r' k' m' x' xc') few h p =
    (le_next (multiplied_down factor r h.0 few) p.0, p.1, p.2, le_next (multiplied_down factor x h.1 few) p.3, le_next (multiplied_down factor xc h.2 few) p.4)
law_lowered factor true (Shunt b) (Shunt b') few h p = le_next (multiplied_down factor b h few) p
law_lowered factor true (Coupled3 place c) (Coupled3 place' c') few h p = p
law_lowered factor true (Series r k m x xc) (Shunt b) few h p = absurd p
law_lowered factor true (Series r k m x xc) (Coupled3 place c) few h p = absurd p
law_lowered factor true (Shunt b) (Series r k m x xc) few h p = absurd p
law_lowered factor true (Shunt b) (Coupled3 place c) few h p = absurd p
law_lowered factor true (Coupled3 place c) (Series r k m x xc) few h p = absurd p
law_lowered factor true (Coupled3 place c) (Shunt b) few h p = absurd p

-- and one that is at least another when it is raised
law_raised : (factor : ℕ) (own : Bool) (l u : Law) → 1000 ≤ factor → IsNaturalLaw u → LawUpTo l u → LawUpTo l (if own then widened_law factor u else u)
law_raised factor false l u many h p = p
law_raised factor true (Series r k m x xc) (Series r' k' m' x' xc') many h p =
    (le_next p.0 (multiplied_up factor r' h.0 many), p.1, p.2, le_next p.3 (multiplied_up factor x' h.1 many), le_next p.4 (multiplied_up factor xc' h.2 many))
law_raised factor true (Shunt b) (Shunt b') many h p = le_next p (multiplied_up factor b' h many)
law_raised factor true (Coupled3 place c) (Coupled3 place' c') many h p = p
law_raised factor true (Series r k m x xc) (Shunt b) many h p = absurd p
law_raised factor true (Series r k m x xc) (Coupled3 place c) many h p = absurd p
law_raised factor true (Shunt b) (Series r k m x xc) many h p = absurd p
law_raised factor true (Shunt b) (Coupled3 place c) many h p = absurd p
law_raised factor true (Coupled3 place c) (Series r k m x xc) many h p = absurd p
law_raised factor true (Coupled3 place c) (Shunt b) many h p = absurd p

branches_lowered : (owner factor : ℕ) (bs cs : List Branch) → factor ≤ 1000 → AllByRecursion (λ b. IsNaturalLaw b.law) bs → AllZip BranchUpTo bs cs → AllZip BranchUpTo (map (widened_branch owner factor) bs) cs
branches_lowered owner factor [] [] few h z = tt
branches_lowered owner factor [] (c ∷ cs) few h z = absurd z
branches_lowered owner factor (b ∷ bs) [] few h z = absurd z
branches_lowered owner factor (b ∷ bs) (c ∷ cs) few h z = (
  record { taps = z.0.taps; law = law_lowered factor (b.owner == owner) b.law c.law few h.0 z.0.law; group = z.0.group; owner = z.0.owner },
  branches_lowered owner factor bs cs few h.1 z.1,
)

branches_raised : (owner factor : ℕ) (bs cs : List Branch) → 1000 ≤ factor → AllByRecursion (λ c. IsNaturalLaw c.law) cs → AllZip BranchUpTo bs cs → AllZip BranchUpTo bs (map (widened_branch owner factor) cs)
branches_raised owner factor [] [] many h z = tt
branches_raised owner factor [] (c ∷ cs) many h z = absurd z
branches_raised owner factor (b ∷ bs) [] many h z = absurd z
branches_raised owner factor (b ∷ bs) (c ∷ cs) many h z = (
  record { taps = z.0.taps; law = law_raised factor (c.owner == owner) b.law c.law many h.0 z.0.law; group = z.0.group; owner = z.0.owner },
  branches_raised owner factor bs cs many h.1 z.1,
)

-- ---- all tolerances
pub whole_by : (upward : Bool) (ts : List Tolerance) (network : Network) → IsWhole network → IsWhole (widened_by upward ts network)
whole_by upward [] network w = w
whole_by upward (t ∷ ts) network w = whole_by upward ts (widened t.element t.permille upward network) (whole_kept t.element t.permille upward network w)

lowered_by : (ts : List Tolerance) (low high : Network) → HaveNaturalValues low → IsPair low high → IsPair (widened_by false ts low) high
lowered_by [] low high h p = p
lowered_by (t ∷ ts) low high h p =
    lowered_by ts (widened t.element t.permille false low) high (natural_kept t.element t.permille false low h)
    (record { buses = p.buses; nodes = p.nodes; branches = branches_lowered t.element (1000 - t.permille) low.branches high.branches (omega arith) h p.branches })

raised_by : (ts : List Tolerance) (low high : Network) → HaveNaturalValues high → IsPair low high → IsPair low (widened_by true ts high)
raised_by [] low high h p = p
raised_by (t ∷ ts) low high h p =
    raised_by ts low (widened t.element t.permille true high) (natural_kept t.element t.permille true high h)
    (record { buses = p.buses; nodes = p.nodes; branches = branches_raised t.element (1000 + t.permille) low.branches high.branches (omega arith) h p.branches })

-- the network as it is written lies between
pub between_by : (ts : List Tolerance) (network : Network) → IsWhole network → HaveNaturalValues network → LiesBetween network (widened_by false ts network) (widened_by true ts network)
between_by ts network w h =
    let itself = between_itself network w in
    record { whole = w; from_low = lowered_by ts network network h itself.from_low; to_high = raised_by ts network network h itself.to_high }

-- and both are a pair
pub pair_by : (ts : List Tolerance) (network : Network) → IsWhole network → HaveNaturalValues network → IsPair (widened_by false ts network) (widened_by true ts network)
pair_by ts network w h = raised_by ts (widened_by false ts network) network h (lowered_by ts network network h (between_itself network w).from_low)
