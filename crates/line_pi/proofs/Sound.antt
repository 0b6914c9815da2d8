-- The branches of a line of a lawful study are sound: at the nodes of the network and at its inner nodes.
use Rattle.std.proofs.Common.{◌≡◌, ℕ, zero, suc, ◌+◌, ◌-◌, ◌*◌, ◌≤◌, ◌<◌, ℤ, pos, ◌≤ℤ◌, List, true, length, arith}
use Rattle.std.proofs.lemmas.Int.{ints}
use Rattle.std.specs.Prelude.{Option, Some, None, int_lt}
use Rattle.network_theory.specs.Branch.{Law, Shunt}
use Rattle.net_branch.proofs.Wholes.{each_append}
use Rattle.study_model.specs.Range.{IsIn}
use Rattle.study_model.specs.Rules.{AreNotBothZero, IsZeroSequence}
use Rattle.study_model.specs.Lawful.{IsLawful, IsLawfulLine}
use Rattle.study_model.specs.declared.range.TheConstants.Range.{ORDINARY, BUS_KV, BASE_MVA}
use Rattle.study_model.specs.declared.words.Sequence.{Sequence}
use Rattle.study_model.specs.declared.words.Sequence.TheVariants.{Positive, Zero}
use Rattle.study_model.specs.declared.records.Line.{Line}
use Rattle.study_model.specs.declared.records.Study.{Study}
use Rattle.study_model.specs.Voltages.{kv_of}
use Rattle.element_parts.specs.PerUnit.{impedance_share, susceptance_share}
use Rattle.element_parts.specs.Plain.{IsPlainLaw}
use Rattle.element_parts.proofs.Numbers.{multiples, product_not_nought}
use Rattle.element_parts.proofs.SmallValues.{small_share, small_susceptance_share}
use Rattle.element_parts.proofs.Sound.{IsSoundLaw, AreSoundLaws, IsSoundBranch, AreSound, IsSound, sound_skin, sound_where, sound_between, sound_to_grounds}
use Rattle.element_parts.proofs.Values.{kv_within, product_above, base_above}
use Rattle.line_pi.specs.Lines.{pi_section, cascade, section_series, end_laws, line_of, line_in, line_expansion}

section : (series : Law) (end : List Law) (nodes near far owner : ℕ) → near < nodes → far < nodes → IsSoundLaw series → AreSoundLaws end → AreSound nodes owner (pi_section series end near far owner)
section series end nodes near far owner h k s t =
    (sound_between nodes near far owner series h k s, each_append (IsSoundBranch nodes owner) _ _ (sound_to_grounds nodes near owner end h t) (sound_to_grounds nodes far owner end k t))

sections : (series : Law) (end : List Law) (nodes near next inner far owner : ℕ) → near < nodes → next + inner ≤ nodes → far < nodes → IsSoundLaw series → AreSoundLaws end
    → AreSound nodes owner (cascade series end near next inner far owner)
sections series end nodes near next zero far owner h n k s t = section series end nodes near far owner h k s t
sections series end nodes near next (suc inner) far owner h n k s t =
    let there : next < nodes = omega arith in
    let room : (next + 1) + inner ≤ nodes = omega arith in
    each_append (IsSoundBranch nodes owner) (pi_section series end near next owner) _ (section series end nodes near next owner h there s t) (sections series end nodes next (next + 1) inner far owner there room k s t)

-- what is known of a line and of the network that it is added to
record IsAddable (study : Study) (e : Line) (nodes : ℕ) : Type 0 where
  base : IsIn BASE_MVA study.mva
  kv : IsIn BUS_KV (kv_of study.buses e.from)
  line : IsLawfulLine study.model study.buses e
  room : length study.buses ≤ nodes

series : (study : Study) (e : Line) (nodes : ℕ) (r x : ℤ) → IsAddable study e nodes → IsIn ORDINARY r → IsIn ORDINARY x → AreNotBothZero r x → IsSoundLaw (section_series study e r x)
unfolding impedance_share
series study e nodes r x a h k n =
    let v = kv_of study.buses e.from in
    let few : e.sections ≤ 384 = omega (arith, a.line.sections.1) in
    sound_skin _ _ e.skin_k e.skin_m a.line.skin_k a.line.skin_m (λ z. multiples study.mva r x (base_above study.mva a.base).0 n (z.0, z.1))
    (small_share r study.mva v e.sections (omega (arith, ints, h.0, h.1)) a.base a.kv few) (small_share x study.mva v e.sections (omega (arith, ints, k.0, k.1)) a.base a.kv few)

pub shunt_plain : (b s v : ℤ) (n : ℕ) → IsIn BUS_KV v → int_lt (pos 0) b ≡ true → IsPlainLaw (Shunt (susceptance_share b s v n))
unfolding susceptance_share
shunt_plain b s v n h t =
    let above : pos 1 ≤ℤ v = omega (arith, ints, h.0) in
    product_not_nought b _ (grind (arith, ints)) (product_above v v above above)

end_sound : (study : Study) (e : Line) (nodes : ℕ) (b : ℤ) → IsAddable study e nodes → IsIn ORDINARY b → AreSoundLaws (end_laws study e b)
end_sound study e nodes b a h =
    let v = kv_of study.buses e.from in
    sound_where (int_lt (pos 0) b) _
    (λ t. record { plain = shunt_plain b study.mva v (2 * e.sections) a.kv t; small = small_susceptance_share b study.mva v (2 * e.sections) (omega (arith, ints, h.0, h.1)) a.base a.kv (omega (arith, a.line.sections.1)) })

of_values : (study : Study) (e : Line) (owner next : ℕ) (r x b : ℤ) → IsAddable study e next → IsIn ORDINARY r → IsIn ORDINARY x → AreNotBothZero r x → IsIn ORDINARY b → IsSound next owner (line_of study e owner next r x b)
of_values study e owner next r x b a h k n l =
    let near : e.from < next + (e.sections - 1) = omega (arith, a.line.from, a.room) in
    let far : e.to < next + (e.sections - 1) = omega (arith, a.line.to.0, a.room) in
    sections _ _ _ e.from next (e.sections - 1) e.to owner near (omega arith) far (series study e next r x a h k n) (end_sound study e next b a l)

in_network : (study : Study) (e : Line) (owner next : ℕ) (sequence : Sequence) (r0 x0 : Option ℤ) → IsAddable study e next → IsZeroSequence r0 x0 → IsSound next owner (line_in study e owner next sequence r0 x0)
in_network study e owner next Positive r0 x0 a z = of_values study e owner next e.r e.x e.b a a.line.r a.line.x.0 a.line.x.1 a.line.b
in_network study e owner next Zero (Some r0) (Some x0) a z = of_values study e owner next r0 x0 e.b0 a z.0 z.1 z.2 a.line.b0.0
in_network study e owner next Zero (Some r0) None a z = tt
in_network study e owner next Zero None x0 a z = tt

pub line_sound : (study : Study) (e : Line) (owner : ℕ) (sequence : Sequence) (next : ℕ) → IsLawful study → IsLawfulLine study.model study.buses e → length study.buses ≤ next
    → IsSound next owner (line_expansion study e owner sequence next)
unfolding line_expansion
line_sound study e owner sequence next s l n =
    in_network study e owner next sequence e.r0 e.x0 (record { base = s.mva; kv = kv_within study.buses e.from s.buses l.from; line = l; room = n }) l.r0_x0.0
