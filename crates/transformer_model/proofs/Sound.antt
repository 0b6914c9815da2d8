-- The branches of a transformer of a lawful study are sound: at the nodes of the network and at its inner nodes.
use Rattle.std.proofs.Common.{◌≡◌, ℕ, ◌+◌, ◌<◌, ◌≤◌, ◌^◌, true, false, ◌||◌, List, [], ◌∷◌, length, ℤ, pos, ◌*ℤ◌, ◌≤ℤ◌, unsigned_abs, refl, arith}
use Rattle.std.proofs.lemmas.Int.{ints}
use Rattle.std.specs.Prelude.{int_lt}
use Rattle.exact_algebra.specs.Ratio.{Ratio, whole}
use Rattle.network_theory.specs.Branch.{Law}
use Rattle.net_branch.proofs.Wholes.{each_append}
use Rattle.study_model.specs.Rules.{AreNotBothZero, IsNeutral}
use Rattle.study_model.specs.Lawful.{IsLawful, IsLawfulTransformer}
use Rattle.study_model.specs.declared.words.Sequence.{Sequence}
use Rattle.study_model.specs.declared.words.Sequence.TheVariants.{Positive, Zero}
use Rattle.study_model.specs.declared.words.Connection.{Connection}
use Rattle.study_model.specs.declared.words.Connection.TheVariants.{Grounded, Star, Delta}
use Rattle.study_model.specs.declared.records.Transformer.{Transformer}
use Rattle.study_model.specs.declared.records.Study.{Study}
use Rattle.element_parts.specs.PerUnit.{percent_per_unit, inverse_ratio}
use Rattle.element_parts.proofs.Numbers.{product_not_nought}
use Rattle.element_parts.proofs.SmallValues.{small_percent}
use Rattle.element_parts.proofs.Sound.{IsSoundLaw, AreSoundLaws, IsSoundBranch, AreSound, IsSound, sound_skin, sound_ohms, sound_where, sound_betweens}
use Rattle.element_parts.proofs.Values.{kv_within, base_above}
use Rattle.transformer_model.specs.Transformers.{leakage, windings, neutral_laws, neutral, behind, both_grounded, one_grounded, zero_transformer, transformer_in, transformer_expansion}

-- ---- laws
pub leakage_sound : (study : Study) (e : Transformer) → IsLawful study → IsLawfulTransformer study.buses e → IsSoundLaw (leakage study e)
unfolding percent_per_unit
leakage_sound study e s t =
    let x : pos 1 ≤ℤ e.x = omega (arith, ints, t.x.0) in
    sound_skin _ _ e.skin_k e.skin_m t.skin_k t.skin_m (λ z. product_not_nought e.x study.mva x (base_above study.mva s.mva).0 z.1)
    (small_percent e.r study.mva e.mva (omega (arith, ints, t.r.0, t.r.1)) s.mva t.mva) (small_percent e.x study.mva e.mva (omega (arith, ints, t.x.0, t.x.1)) s.mva t.mva)

third : (z : ℤ) → pos 3 *ℤ z ≡ pos 0 → z ≡ pos 0
third z e = omega (arith, ints)

-- where one of two values is above 0, three times these aren't both 0
triple_some : (rn xn : ℤ) → (int_lt (pos 0) rn || int_lt (pos 0) xn) ≡ true → AreNotBothZero (pos 3 *ℤ rn) (pos 3 *ℤ xn)
triple_some rn xn t z =
    let r : rn ≡ pos 0 = third rn z.0 in
    let x : xn ≡ pos 0 = third xn z.1 in
    let none : false ≡ true = rw (r, x) at t in
    absurd (cc)

triple_size : (connection : Connection) (rn xn : ℤ) → IsNeutral connection rn xn → (unsigned_abs (pos 3 *ℤ rn) ≤ 10 ^ 13) × (unsigned_abs (pos 3 *ℤ xn) ≤ 10 ^ 13)
triple_size Grounded rn xn h = (omega (arith, ints, h.0.0, h.0.1), omega (arith, ints, h.1.0, h.1.1))
triple_size Star rn xn h = (omega (arith, ints, h.0), omega (arith, ints, h.1))
triple_size Delta rn xn h = (omega (arith, ints, h.0), omega (arith, ints, h.1))

neutral_sound : (study : Study) (e : Transformer) (connection : Connection) (bus : ℕ) (rn xn : ℤ) → IsLawful study → IsLawfulTransformer study.buses e → bus < length study.buses → IsNeutral connection rn xn
    → AreSoundLaws (neutral_laws study e bus rn xn)
neutral_sound study e connection bus rn xn s t b n =
    let sizes = triple_size connection rn xn n in
    sound_where (int_lt (pos 0) rn || int_lt (pos 0) xn) _
    (λ some. sound_ohms (pos 3 *ℤ rn) (pos 3 *ℤ xn) study.mva _ e.skin_k e.skin_m sizes.0 sizes.1 (triple_some rn xn some) s.mva (kv_within study.buses bus s.buses b) t.skin_k t.skin_m)

-- the laws of a transformer, and the network that it is added to
record IsAddable (study : Study) (e : Transformer) (nodes : ℕ) : Type 0 where
  leakage : IsSoundLaw (leakage study e)
  from_neutral : AreSoundLaws (neutral_laws study e e.from e.from_rn e.from_xn)
  to_neutral : AreSoundLaws (neutral_laws study e e.to e.to_rn e.to_xn)
  from : e.from < nodes
  to : e.to < nodes

-- ---- branches
neutrals_sound : (nodes bus next owner : ℕ) (laws : List Law) → bus < nodes → next + length laws ≤ nodes → AreSoundLaws laws → AreSound nodes owner (neutral bus next laws owner)
neutrals_sound nodes bus next owner [] h k s = tt
neutrals_sound nodes bus next owner (law ∷ laws) h k s = sound_betweens nodes bus next owner (law ∷ laws) h (omega arith) s

behind_below : (nodes bus next : ℕ) (laws : List Law) → bus < nodes → next + length laws ≤ nodes → behind bus next laws < nodes
behind_below nodes bus next [] h k = h
behind_below nodes bus next (law ∷ laws) h k = omega arith

windings_sound : (nodes : ℕ) (study : Study) (e : Transformer) (from to owner : ℕ) → from < nodes → to < nodes → IsSoundLaw (leakage study e) → IsSoundBranch nodes owner (windings study e from to owner)
windings_sound nodes study e from to owner h k s = record { taps = (h, (k, tt)); group = refl; owner = refl; law = s }

both_sound : (study : Study) (e : Transformer) (owner next : ℕ) (from to : List Law) → IsAddable study e next → AreSoundLaws from → AreSoundLaws to → IsSound next owner (both_grounded study e owner next from to)
both_sound study e owner next from to a f t =
    let nodes = next + (length from + length to) in
    let second = next + length from in
    let first : e.from < nodes = omega (arith, a.from) in
    let last : e.to < nodes = omega (arith, a.to) in
    each_append (IsSoundBranch nodes owner) (neutral e.from next from owner) _ (neutrals_sound nodes e.from next owner from first (omega arith) f)
    (each_append (IsSoundBranch nodes owner) (neutral e.to second to owner) _ (neutrals_sound nodes e.to second owner to last (omega arith) t)
    (windings_sound nodes study e _ _ owner (behind_below nodes e.from next from first (omega arith)) (behind_below nodes e.to second to last (omega arith)) a.leakage, tt))

one_sound : (study : Study) (e : Transformer) (owner next bus : ℕ) (ratio : Ratio) (laws : List Law) → bus < next → IsSoundLaw (leakage study e) → AreSoundLaws laws
    → IsSound next owner (one_grounded study e owner next bus ratio laws)
one_sound study e owner next bus ratio laws h l s =
    let nodes = next + length laws in
    let there : bus < nodes = omega arith in
    each_append (IsSoundBranch nodes owner) (neutral bus next laws owner) _ (neutrals_sound nodes bus next owner laws there (omega arith) s)
    (record { taps = (behind_below nodes bus next laws there (omega arith), tt); group = refl; owner = refl; law = l }, tt)

zero_sound : (study : Study) (e : Transformer) (owner next : ℕ) (from to : Connection) → IsAddable study e next → IsSound next owner (zero_transformer study e owner next from to)
zero_sound study e owner next Grounded Grounded a = both_sound study e owner next _ _ a a.from_neutral a.to_neutral
zero_sound study e owner next Grounded Delta a = one_sound study e owner next e.from (inverse_ratio e.ratio) _ a.from a.leakage a.from_neutral
zero_sound study e owner next Delta Grounded a = one_sound study e owner next e.to (whole (pos 1)) _ a.to a.leakage a.to_neutral
zero_sound study e owner next Grounded Star a = tt
zero_sound study e owner next Star to a = tt
zero_sound study e owner next Delta Star a = tt
zero_sound study e owner next Delta Delta a = tt

in_network : (study : Study) (e : Transformer) (owner next : ℕ) (sequence : Sequence) → IsAddable study e next → IsSound next owner (transformer_in study e owner next sequence)
in_network study e owner next Positive a = (windings_sound (next + 0) study e e.from e.to owner (omega (arith, a.from)) (omega (arith, a.to)) a.leakage, tt)
in_network study e owner next Zero a = zero_sound study e owner next e.from_conn e.to_conn a

pub transformer_sound : (study : Study) (e : Transformer) (owner : ℕ) (sequence : Sequence) (next : ℕ) → IsLawful study → IsLawfulTransformer study.buses e → length study.buses ≤ next
    → IsSound next owner (transformer_expansion study e owner sequence next)
unfolding transformer_expansion
transformer_sound study e owner sequence next s t n = in_network study e owner next sequence (record {
  leakage = leakage_sound study e s t;
  from_neutral = neutral_sound study e e.from_conn e.from e.from_rn e.from_xn s t t.from t.from_rn_from_xn;
  to_neutral = neutral_sound study e e.to_conn e.to e.to_rn e.to_xn s t t.to.0 t.to_rn_to_xn;
  from = omega (arith, t.from);
  to = omega (arith, t.to.0);
})
