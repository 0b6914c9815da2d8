-- What the branches of an element of a lawful study are: uncoupled, at nodes that there are, with its number, and of laws that aren't zero
-- and have small values.
use Rattle.std.proofs.Common.{◌≡◌, ℕ, ◌+◌, ◌≤◌, ◌<◌, ◌^◌, ℤ, pos, unsigned_abs, Bool, true, false, List, [], map, refl, arith}
use Rattle.std.proofs.lemmas.Int.{ints}
use Rattle.std.specs.Prelude.{if◌then◌else◌}
use Rattle.std.specs.List.{AllByRecursion}
use Rattle.exact_algebra.specs.Ratio.{Ratio}
use Rattle.network_theory.specs.Branch.{Law, Branch}
use Rattle.network_theory.specs.Network.{IsUncoupled}
use Rattle.net_branch.proofs.Wholes.{each_weaker, each_map}
use Rattle.study_model.specs.Range.{IsIn}
use Rattle.study_model.specs.Rules.{AreNotBothZero}
use Rattle.study_model.specs.declared.range.TheConstants.Range.{BUS_KV, BASE_MVA, SKIN_K, SKIN_M}
use Rattle.element_parts.specs.PerUnit.{impedance_per_unit}
use Rattle.element_parts.specs.Expansion.{Expansion, to_ground, between, law_where, series, skin_series}
use Rattle.element_parts.specs.Plain.{IsPlainLaw, IsPlainBranch, ArePlain}
use Rattle.element_parts.specs.Small.{IsSmall, IsSmallLaw}
use Rattle.element_parts.proofs.PlainElements.{uncoupled}
use Rattle.element_parts.proofs.SmallValues.{small_zero, small_one, small_written, small_impedance}
use Rattle.element_parts.proofs.Values.{base_above}
use Rattle.element_parts.proofs.Numbers.{multiples}

pub record IsSoundLaw (law : Law) : Type 0 where
  pub plain : IsPlainLaw law
  pub small : IsSmallLaw law

abbrev pub AreSoundLaws : List Law → Type 0
AreSoundLaws laws = AllByRecursion IsSoundLaw laws

pub record IsSoundBranch (nodes number : ℕ) (b : Branch) : Type 0 where
  pub taps : AllByRecursion (λ t. t.node < nodes) b.taps
  pub group : b.group ≡ 0
  pub owner : b.owner ≡ number
  pub law : IsSoundLaw b.law

abbrev pub AreSound : ℕ → ℕ → List Branch → Type 0
AreSound nodes owner branches = AllByRecursion (IsSoundBranch nodes owner) branches

-- an element under its number, where the network's next node has the number `next`
abbrev pub IsSound : ℕ → ℕ → Expansion → Type 0
IsSound next owner e = AreSound (next + e.inner) owner e.branches

plain_of : (nodes owner : ℕ) (b : Branch) → IsSoundBranch nodes owner b → IsPlainBranch nodes b
plain_of nodes owner b h = record { taps = h.taps; group = h.group; law = h.law.plain }

pub all_plain : (nodes owner : ℕ) (bs : List Branch) → AreSound nodes owner bs → ArePlain nodes bs
all_plain nodes owner bs h = each_weaker (IsSoundBranch nodes owner) (IsPlainBranch nodes) (plain_of nodes owner) bs h

pub is_uncoupled : (nodes owner : ℕ) (b : Branch) → IsSoundBranch nodes owner b → IsUncoupled b
is_uncoupled nodes owner b h = uncoupled nodes b (plain_of nodes owner b h)

-- ---- laws that are there or not
pub sound_where : (b : Bool) (law : Law) → (b ≡ true → IsSoundLaw law) → AreSoundLaws (law_where b law)
sound_where true law h = (h refl, tt)
sound_where false law h = tt

pub sound_if : (b : Bool) (laws : List Law) → AreSoundLaws laws → AreSoundLaws (if b then laws else [])
sound_if true laws h = h
sound_if false laws h = tt

-- ---- branches of sound laws
pub sound_to_ground : (nodes node owner : ℕ) (law : Law) → node < nodes → IsSoundLaw law → IsSoundBranch nodes owner (to_ground node law owner)
sound_to_ground nodes node owner law h s = record { taps = (h, tt); group = refl; owner = refl; law = s }

pub sound_between : (nodes a b owner : ℕ) (law : Law) → a < nodes → b < nodes → IsSoundLaw law → IsSoundBranch nodes owner (between a b law owner)
sound_between nodes a b owner law h k s = record { taps = (h, (k, tt)); group = refl; owner = refl; law = s }

pub sound_to_grounds : (nodes node owner : ℕ) (laws : List Law) → node < nodes → AreSoundLaws laws → AreSound nodes owner (map (λ law. to_ground node law owner) laws)
sound_to_grounds nodes node owner laws h s =
    each_map (IsSoundBranch nodes owner) (λ law. to_ground node law owner) laws
    (each_weaker IsSoundLaw (λ law. IsSoundBranch nodes owner (to_ground node law owner)) (λ law. sound_to_ground nodes node owner law h) laws s)

pub sound_betweens : (nodes a b owner : ℕ) (laws : List Law) → a < nodes → b < nodes → AreSoundLaws laws → AreSound nodes owner (map (λ law. between a b law owner) laws)
sound_betweens nodes a b owner laws h k s =
    each_map (IsSoundBranch nodes owner) (λ law. between a b law owner) laws
    (each_weaker IsSoundLaw (λ law. IsSoundBranch nodes owner (between a b law owner)) (λ law. sound_between nodes a b owner law h k) laws s)

-- ---- laws in series
-- r and x ohms aren't a plain short, where they aren't both 0
pub plain_ohms : (r x s v : ℤ) → IsIn BASE_MVA s → AreNotBothZero r x → ¬ (((impedance_per_unit r s v).num ≡ pos 0) × ((impedance_per_unit x s v).num ≡ pos 0))
unfolding impedance_per_unit
plain_ohms r x s v h n z = multiples s r x (base_above s h).0 n z

pub sound_series : (r x : Ratio) → IsPlainLaw (series r x) → IsSmall r → IsSmall x → IsSoundLaw (series r x)
sound_series r x p h k = record { plain = p; small = (h, small_zero, small_one, k, small_zero) }

pub sound_skin : (r x : Ratio) (k m : ℤ) → IsIn SKIN_K k → IsIn SKIN_M m → IsPlainLaw (skin_series r k m x) → IsSmall r → IsSmall x → IsSoundLaw (skin_series r k m x)
sound_skin r x k m h l p s t = record { plain = p; small = (s, small_written k (omega (arith, ints, h.0, h.1)), small_written m (omega (arith, ints, l.0, l.1)), t, small_zero) }

-- of so many ohms
pub sound_ohms : (r x s v k m : ℤ) → unsigned_abs r ≤ 10 ^ 13 → unsigned_abs x ≤ 10 ^ 13 → AreNotBothZero r x → IsIn BASE_MVA s → IsIn BUS_KV v → IsIn SKIN_K k → IsIn SKIN_M m
    → IsSoundLaw (skin_series (impedance_per_unit r s v) k m (impedance_per_unit x s v))
sound_ohms r x s v k m h l n b w p q =
    sound_skin (impedance_per_unit r s v) (impedance_per_unit x s v) k m p q (λ z. plain_ohms r x s v b n (z.0, z.1)) (small_impedance r s v h b w) (small_impedance x s v l b w)
