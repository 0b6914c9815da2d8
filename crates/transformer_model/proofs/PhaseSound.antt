-- The branches of a transformer of a lawful study in the network of three phases are sound.
use Rattle.std.proofs.Common.{◌≡◌, ℕ, zero, suc, ◌+◌, ◌*◌, ◌<◌, ◌≤◌, ◌^◌, true, false, ◌||◌, List, [], ◌∷◌, map, length, ℤ, pos, negsuc, unsigned_abs, refl, arith}
use Rattle.std.proofs.lemmas.Int.{ints}
use Rattle.std.specs.Prelude.{int_lt}
use Rattle.std.specs.List.{AllByRecursion}
use Rattle.exact_algebra.specs.Ratio.{Ratio}
use Rattle.network_theory.specs.Branch.{Law}
use Rattle.net_branch.proofs.Wholes.{each_append}
use Rattle.study_model.specs.Rules.{AreNotBothZero, IsNeutral}
use Rattle.study_model.specs.Lawful.{IsLawful, IsLawfulTransformer}
use Rattle.study_model.specs.declared.words.Connection.{Connection}
use Rattle.study_model.specs.declared.words.Connection.TheVariants.{Grounded, Star, Delta}
use Rattle.study_model.specs.declared.records.Transformer.{Transformer}
use Rattle.study_model.specs.declared.records.Study.{Study}
use Rattle.element_parts.specs.Expansion.{to_ground}
use Rattle.element_parts.specs.Phases.{first_node, next_phase}
use Rattle.element_parts.proofs.Sound.{IsSoundLaw, AreSoundLaws, IsSoundBranch, AreSound, IsSound, sound_ohms, sound_where, sound_to_ground}
use Rattle.element_parts.proofs.Values.{kv_within}
use Rattle.transformer_model.specs.Transformers.{leakage}
use Rattle.transformer_model.specs.Windings.{from_ratio, to_ratio, winding_taps, from_taps, to_taps, winding_branch, phase_neutral, Side, side_of, from_side, between_sides, transformer_phases}
use Rattle.transformer_model.specs.declared.winding.FarEnd.{FarEnd}
use Rattle.transformer_model.specs.declared.winding.FarEnd.TheVariants.{Ground as AtGround, Neutral, NextPhase}
use Rattle.transformer_model.proofs.Sound.{leakage_sound}

-- ---- neutrals
some_there : (rn xn : ℤ) → (int_lt (pos 0) rn || int_lt (pos 0) xn) ≡ true → AreNotBothZero rn xn
some_there rn xn t z = let none : false ≡ true = rw (z.0, z.1) at t in absurd (cc)

neutral_size : (connection : Connection) (rn xn : ℤ) → IsNeutral connection rn xn → (unsigned_abs rn ≤ 10 ^ 13) × (unsigned_abs xn ≤ 10 ^ 13)
neutral_size Grounded rn xn h = (omega (arith, ints, h.0.0, h.0.1), omega (arith, ints, h.1.0, h.1.1))
neutral_size Star rn xn h = (omega (arith, ints, h.0), omega (arith, ints, h.1))
neutral_size Delta rn xn h = (omega (arith, ints, h.0), omega (arith, ints, h.1))

neutral_sound : (study : Study) (e : Transformer) (connection : Connection) (bus : ℕ) (rn xn : ℤ) → IsLawful study → IsLawfulTransformer study.buses e → bus < length study.buses → IsNeutral connection rn xn
    → AreSoundLaws (phase_neutral study e bus rn xn)
neutral_sound study e connection bus rn xn s t b n =
    let sizes = neutral_size connection rn xn n in
    sound_where (int_lt (pos 0) rn || int_lt (pos 0) xn) _
    (λ some. sound_ohms rn xn study.mva _ e.skin_k e.skin_m sizes.0 sizes.1 (some_there rn xn some) s.mva (kv_within study.buses bus s.buses b) t.skin_k t.skin_m)

-- ---- windings
abbrev IsWithin : ℕ → FarEnd → Type 0
IsWithin nodes AtGround = Unit {0}
IsWithin nodes (Neutral n) = n < nodes
IsWithin nodes NextPhase = Unit {0}

next_below : (p : ℕ) → next_phase p ≤ 2
next_below zero = omega arith
next_below (suc zero) = omega arith
next_below (suc (suc p)) = omega arith

taps_below : (nodes node : ℕ) (ratio opposite : Ratio) (end : FarEnd) (p : ℕ) → node + 2 < nodes → p ≤ 2 → IsWithin nodes end → AllByRecursion (λ t. t.node < nodes) (winding_taps node ratio opposite end p)
taps_below nodes node ratio opposite AtGround p h l w = (omega (arith, h, l), tt)
taps_below nodes node ratio opposite (Neutral n) p h l w = (omega (arith, h, l), (w, tt))
taps_below nodes node ratio opposite NextPhase p h l w = (omega (arith, h, l), (omega (arith, h, next_below p), tt))

-- the transformer's law, and the network that it is added to
record IsAddable (study : Study) (e : Transformer) (nodes : ℕ) : Type 0 where
  leakage : IsSoundLaw (leakage study e)
  from : first_node e.from + 2 < nodes
  to : first_node e.to + 2 < nodes

winding_sound : (nodes : ℕ) (study : Study) (e : Transformer) (from to : FarEnd) (owner p : ℕ) → IsAddable study e nodes → p ≤ 2 → IsWithin nodes from → IsWithin nodes to → IsSoundBranch nodes owner (winding_branch study e from to owner p)
winding_sound nodes study e from to owner p a l h k = record {
  taps = each_append (λ t. t.node < nodes) (from_taps study e from p) (to_taps study e to p)
      (taps_below nodes (first_node e.from) (from_ratio study e (pos 1000000)) (from_ratio study e (negsuc 999999)) from p a.from l h)
      (taps_below nodes (first_node e.to) (to_ratio study e (negsuc 0)) (to_ratio study e (pos 1)) to p a.to l k);
  group = refl;
  owner = refl;
  law = a.leakage;
}

-- ---- sides
record IsSoundSide (nodes owner next : ℕ) (side : Side) : Type 0 where
  end : IsWithin nodes side.end
  neutrals : AreSound nodes owner (map (λ law. to_ground next law owner) side.laws)

side_sound : (connection : Connection) (nodes owner next : ℕ) (laws : List Law) → next + (side_of connection next laws).inner ≤ nodes → AreSoundLaws laws → IsSoundSide nodes owner next (side_of connection next laws)
side_sound Grounded nodes owner next [] h s = record { end = tt; neutrals = tt }
side_sound Grounded nodes owner next (law ∷ laws) h s = let there : next < nodes = omega (arith, h) in record { end = there; neutrals = (sound_to_ground nodes next owner law there s.0, tt) }
side_sound Star nodes owner next laws h s = record { end = omega (arith, h); neutrals = tt }
side_sound Delta nodes owner next laws h s = record { end = tt; neutrals = tt }

from_sound : (from to : Connection) (nodes owner next : ℕ) (laws : List Law) → next + (from_side from to next laws).inner ≤ nodes → AreSoundLaws laws → IsSoundSide nodes owner next (from_side from to next laws)
from_sound Star Star nodes owner next laws h s = record { end = tt; neutrals = tt }
from_sound Star Grounded nodes owner next laws h s = side_sound Star nodes owner next laws h s
from_sound Star Delta nodes owner next laws h s = side_sound Star nodes owner next laws h s
from_sound Grounded to nodes owner next laws h s = side_sound Grounded nodes owner next laws h s
from_sound Delta to nodes owner next laws h s = side_sound Delta nodes owner next laws h s

sides_sound : (study : Study) (e : Transformer) (owner next : ℕ) (from to : Side) → IsAddable study e (next + (from.inner + to.inner)) → IsSoundSide (next + (from.inner + to.inner)) owner next from
    → IsSoundSide (next + (from.inner + to.inner)) owner (next + from.inner) to → IsSound next owner (between_sides study e owner next from to)
sides_sound study e owner next from to a f t =
    let nodes = next + (from.inner + to.inner) in
    let sound = IsSoundBranch nodes owner in
    let one = λ (p : ℕ) (l : p ≤ 2). winding_sound nodes study e from.end to.end owner p a l f.end t.end in
    each_append sound
    (winding_branch study e from.end to.end owner 0 ∷ winding_branch study e from.end to.end owner 1 ∷ winding_branch study e from.end to.end owner 2 ∷ []) _
    (one 0 (omega arith), (one 1 (omega arith), (one 2 (omega arith), tt)))
    (each_append sound (map (λ law. to_ground next law owner) from.laws) _ f.neutrals t.neutrals)

pub transformer_phases_sound : (study : Study) (e : Transformer) (owner next : ℕ) → IsLawful study → IsLawfulTransformer study.buses e → 3 * length study.buses ≤ next
    → IsSound next owner (transformer_phases study e owner next)
unfolding transformer_phases
transformer_phases_sound study e owner next s t n =
    let first = phase_neutral study e e.from e.from_rn e.from_xn in
    let second = phase_neutral study e e.to e.to_rn e.to_xn in
    let from = from_side e.from_conn e.to_conn next first in
    let to = side_of e.to_conn (next + from.inner) second in
    sides_sound study e owner next from to
    (record { leakage = leakage_sound study e s t; from = omega (arith, t.from, n); to = omega (arith, t.to.0, n) })
    (from_sound e.from_conn e.to_conn _ owner next first (omega arith) (neutral_sound study e e.from_conn e.from e.from_rn e.from_xn s t t.from t.from_rn_from_xn))
    (side_sound e.to_conn _ owner (next + from.inner) second (omega arith) (neutral_sound study e e.to_conn e.to e.to_rn e.to_xn s t t.to.0 t.to_rn_to_xn))
