-- The tolerances of a lawful study can be widened by.
use Rattle.std.proofs.Common.{◌≡◌, ◌≢◌, ◌+◌, ◌≤◌, ◌<◌, ℕ, zero, suc, List, [], ◌∷◌, map, length, refl, sym, arith}
use Rattle.std.proofs.lemmas.List.Elements.{recursion_from_All}
use Rattle.std.specs.Prelude.{All, AllPairs}
use Rattle.std.specs.List.{AllByRecursion}
use Rattle.network_theory.specs.Branch.{Law, Series, Shunt, Coupled3, Branch}
use Rattle.network_theory.specs.Network.{Network}
use Rattle.net_branch.proofs.Wholes.{each_weaker}
use Rattle.study_model.specs.Lawful.{IsLawful, IsLawfulTolerance, tolerant_elements}
use Rattle.study_model.specs.declared.limits.TheConstants.{MAX_PERMILLE}
use Rattle.study_model.specs.declared.records.Study.{Study}
use Rattle.study_model.specs.declared.records.Tolerance.{Tolerance}
use Rattle.study_model.specs.declared.words.StudyModel.TheVariants as study_model
use Rattle.element_parts.specs.Small.{IsSmallLaw, HaveSmallLaws}
use Rattle.tolerance_scan.specs.Small.{HasSmallValues, IsWidenable, AreWidenable}

-- where all values of a law are small, those that are widened are
small_values : (l : Law) → IsSmallLaw l → HasSmallValues l
small_values (Series r k m x xc) h = (h.0, h.3, h.4)
small_values (Shunt b) h = h
small_values (Coupled3 place c) h = tt

pub small_widenable : (owner : ℕ) (network : Network) → HaveSmallLaws network.branches → IsWidenable owner network
small_widenable owner network h = each_weaker (λ b. IsSmallLaw b.law) (λ b. b.owner ≡ owner → HasSmallValues b.law) (λ b small own. small_values b.law small) network.branches h

-- ---- elements that differ
others_differ : (x : ℕ) (xs : List ℕ) → AllPairs ◌≢◌ (x ∷ xs) → AllByRecursion (λ y. x ≢ y) xs
others_differ x xs h = recursion_from_All (λ y. x ≢ y) xs (λ k d inside. h 0 (suc k) d (omega arith) (omega (arith, inside)))

rest_differ : (x : ℕ) (xs : List ℕ) → AllPairs ◌≢◌ (x ∷ xs) → AllPairs ◌≢◌ xs
rest_differ x xs h i j d before inside = h (suc i) (suc j) d (omega (arith, before)) (omega (arith, inside))

elements_differ : (x : ℕ) (ts : List Tolerance) → AllByRecursion (λ y. x ≢ y) (map (λ t. t.element) ts) → AllByRecursion (λ t. t.element ≢ x) ts
elements_differ x [] h = tt
elements_differ x (t ∷ ts) h = (λ e. h.0 (sym e), elements_differ x ts h.1)

each_widenable : (study : Study) (ts : List Tolerance) (network : Network) → AllByRecursion (IsLawfulTolerance study) ts → AllPairs ◌≢◌ (map (λ t. t.element) ts) → HaveSmallLaws network.branches → AreWidenable ts network
each_widenable study [] network lawful apart small = tt
each_widenable study (t ∷ ts) network lawful apart small = (
  omega (arith, lawful.0.permille.1),
  small_widenable t.element network small,
  elements_differ t.element ts (others_differ t.element (map (λ u. u.element) ts) apart),
  each_widenable study ts network lawful.1 (rest_differ t.element (map (λ u. u.element) ts) apart) small,
)

pub tolerances_widenable : (study : Study) (network : Network) → IsLawful study → HaveSmallLaws network.branches → AreWidenable study.tolerances network
tolerances_widenable study network lawful small =
    each_widenable study study.tolerances network (recursion_from_All (IsLawfulTolerance study) study.tolerances lawful.tolerances) lawful.tolerances_differ small

-- a study of three phases has no tolerances
pub none_in_phases : (study : Study) → IsLawful study → study.model ≡ study_model.Phases → study.tolerances ≡ []
none_in_phases study lawful phases = go study.tolerances (recursion_from_All (IsLawfulTolerance study) study.tolerances lawful.tolerances)
  where
    go : (ts : List Tolerance) → AllByRecursion (IsLawfulTolerance study) ts → ts ≡ []
    go [] all = refl
    go (t ∷ ts) all = let sequences : study.model ≡ study_model.Sequence = all.0.model in absurd (cc)
