-- The branches of a line of a lawful study in the network of three phases are sound, and its groups are complete.
use Rattle.std.proofs.Common.{◌≡◌, negsuc, ℕ, zero, suc, ◌+◌, ◌-◌, ◌*◌, ◌≤◌, ◌<◌, ℤ, pos, ◌-ℤ◌, ◌≤ℤ◌, Bool, true, false, [], ◌∷◌, length, refl, arith}
use Rattle.std.proofs.lemmas.Int.{ints}
use Rattle.std.specs.Prelude.{Option, Some, None, int_lt, if◌then◌else◌}
use Rattle.exact_algebra.specs.Ratio.{whole}
use Rattle.network_theory.specs.Branch.{Law, Shunt, Coupling}
use Rattle.net_branch.proofs.Wholes.{each_append}
use Rattle.study_model.specs.Range.{IsIn}
use Rattle.study_model.specs.Rules.{IsZeroSequence, AreMutual}
use Rattle.study_model.specs.Lawful.{IsLawful, IsLawfulLine}
use Rattle.study_model.specs.declared.range.TheConstants.Range.{ORDINARY, BUS_KV, BASE_MVA}
use Rattle.study_model.specs.declared.words.StudyModel.{StudyModel}
use Rattle.study_model.specs.declared.words.StudyModel.TheVariants.{Sequence, Phases}
use Rattle.study_model.specs.declared.records.Line.{Line}
use Rattle.study_model.specs.declared.records.Study.{Study}
use Rattle.study_model.specs.Voltages.{kv_of}
use Rattle.element_parts.specs.PerUnit.{susceptance_share}
use Rattle.element_parts.specs.Phases.{first_node, group_between}
use Rattle.element_parts.specs.Plain.{IsPlainLaw}
use Rattle.element_parts.proofs.GroupedElements.{IsSmallCoupling, AreGroupSound, group_sound, alone_sound, sound_append, sound_within, coupling_small}
use Rattle.element_parts.proofs.Numbers.{product_not_nought}
use Rattle.element_parts.proofs.SmallValues.{small_share, small_susceptance_share}
use Rattle.element_parts.proofs.Sound.{IsSoundLaw, IsSoundBranch, AreSound, sound_to_ground, sound_between}
use Rattle.element_parts.proofs.Values.{kv_within, product_above}
use Rattle.line_pi.specs.PhaseLines.{with_mutual, line_coupling, phase_shunt, pair_shunt, each_to_ground, each_to_next, phase_end, phase_section, phase_cascade, phase_line, line_in_phases, line_phases}
use Rattle.line_pi.proofs.Sound.{shunt_plain}

-- ---- shunts of each phase
abbrev IsSoundOption : Option Law → Type 0
IsSoundOption None = Unit {0}
IsSoundOption (Some law) = IsSoundLaw law

option_sound : (b : Bool) (law : Law) → (b ≡ true → IsSoundLaw law) → IsSoundOption (if b then Some law else None)
option_sound true law h = h refl
option_sound false law h = tt

grounds_sound : (law : Option Law) (nodes node owner : ℕ) → node + 2 < nodes → IsSoundOption law → AreSound nodes owner (each_to_ground law node owner)
grounds_sound None nodes node owner h s = tt
grounds_sound (Some law) nodes node owner h s = (
  sound_to_ground nodes (node + 0) owner law (omega (arith, h)) s,
  (sound_to_ground nodes (node + 1) owner law (omega (arith, h)) s, (sound_to_ground nodes (node + 2) owner law h s, tt)),
)

nexts_sound : (law : Option Law) (nodes node owner : ℕ) → node + 2 < nodes → IsSoundOption law → AreSound nodes owner (each_to_next law node owner)
nexts_sound None nodes node owner h s = tt
nexts_sound (Some law) nodes node owner h s =
    let a : node + 0 < nodes = omega (arith, h) in
    let b : node + 1 < nodes = omega (arith, h) in (
      sound_between nodes (node + 0) (node + 1) owner law a b s,
      (sound_between nodes (node + 1) (node + 2) owner law b h s, (sound_between nodes (node + 2) (node + 0) owner law h a s, tt)),
    )

end_sound : (shunt pair : Option Law) (nodes node owner : ℕ) → node + 2 < nodes → IsSoundOption shunt → IsSoundOption pair → AreSound nodes owner (phase_end shunt pair node owner)
end_sound shunt pair nodes node owner h s t = each_append (IsSoundBranch nodes owner) (each_to_ground shunt node owner) _ (grounds_sound shunt nodes node owner h s) (nexts_sound pair nodes node owner h t)

-- ---- sections
record AreLineLaws (c : Coupling) (each both : Option Law) : Type 0 where
  values : IsSmallCoupling c
  shunt : IsSoundOption each
  pair : IsSoundOption both

section_sound : (values : Coupling) (shunt pair : Option Law) (nodes near far group owner : ℕ) → near + 2 < nodes → far + 2 < nodes → 1 ≤ group → AreLineLaws values shunt pair
    → AreGroupSound nodes owner group (group + 1) (phase_section values shunt pair near far group owner)
section_sound values shunt pair nodes near far group owner h k g l =
    sound_append nodes owner group (group + 1) (group + 1) (group_between near far values group owner) _ (omega arith) (omega arith)
    (group_sound nodes group owner (λ p. record { node = near + p; ratio = whole (pos 1) } ∷ record { node = far + p; ratio = whole (negsuc 0) } ∷ []) values (λ q. omega (arith, q, g))
    (λ p m. (omega (arith, m, h), (omega (arith, m, k), tt))) l.values)
    (alone_sound nodes owner (group + 1) (group + 1) _ (omega arith)
    (each_append (IsSoundBranch nodes owner) (phase_end shunt pair near owner) _ (end_sound shunt pair nodes near owner h l.shunt l.pair) (end_sound shunt pair nodes far owner k l.shunt l.pair)))

sections_sound : (values : Coupling) (shunt pair : Option Law) (nodes near next inner far group owner : ℕ) → near + 2 < nodes → next + 3 * inner ≤ nodes → far + 2 < nodes → 1 ≤ group
    → AreLineLaws values shunt pair → AreGroupSound nodes owner group (group + 1 + inner) (phase_cascade values shunt pair near next inner far group owner)
sections_sound values shunt pair nodes near next zero far group owner h n k g l =
    sound_within nodes owner group group (group + 1) (group + 1 + 0) _ (omega arith) (omega arith) (section_sound values shunt pair nodes near far group owner h k g l)
sections_sound values shunt pair nodes near next (suc inner) far group owner h n k g l =
    let there : next + 2 < nodes = omega (arith, n) in
    let rest = sections_sound values shunt pair nodes next (next + 3) inner far (group + 1) owner there (omega (arith, n)) k (omega arith) l in
    sound_append nodes owner group (group + 1) (group + 1 + suc inner) (phase_section values shunt pair near next group owner) _ (omega arith) (omega arith)
    (section_sound values shunt pair nodes near next group owner h there g l)
    (sound_within nodes owner (group + 1) (group + 1) (group + 1 + 1 + inner) (group + 1 + suc inner) _ (omega arith) (omega arith) rest)

-- ---- the laws of a line
mutual_small : (model : StudyModel) (study : Study) (e : Line) (xab xbc xca : Option ℤ) (values : Coupling) → IsIn BASE_MVA study.mva → IsIn BUS_KV (kv_of study.buses e.from) → e.sections ≤ 64 → AreMutual model xab xbc xca
    → IsSmallCoupling values → IsSmallCoupling (with_mutual study e xab xbc xca values)
mutual_small Phases study e (Some xab) (Some xbc) (Some xca) values b w n m s =
    let v = kv_of study.buses e.from in
    let few : e.sections ≤ 384 = omega (arith, n) in
    record {
      self_r = s.self_r;
      self_x = s.self_x;
      mutual_r = s.mutual_r;
      x_ab = small_share xab study.mva v e.sections (omega (arith, ints, m.0.0, m.0.1)) b w few;
      x_bc = small_share xbc study.mva v e.sections (omega (arith, ints, m.1.0, m.1.1)) b w few;
      x_ca = small_share xca study.mva v e.sections (omega (arith, ints, m.2.0, m.2.1)) b w few;
      k = s.k;
      m = s.m;
    }
mutual_small Sequence study e (Some xab) (Some xbc) (Some xca) values b w n m s = absurd m
mutual_small model study e (Some xab) (Some xbc) None values b w n m s = s
mutual_small model study e (Some xab) None xca values b w n m s = s
mutual_small model study e None xbc xca values b w n m s = s

-- what is known of a line and of the network that it is added to
record IsAddable (study : Study) (e : Line) (nodes : ℕ) : Type 0 where
  base : IsIn BASE_MVA study.mva
  kv : IsIn BUS_KV (kv_of study.buses e.from)
  line : IsLawfulLine study.model study.buses e
  room : 3 * length study.buses ≤ nodes

shunt_sound : (study : Study) (e : Line) (nodes : ℕ) → IsAddable study e nodes → IsSoundOption (phase_shunt study e e.b0)
shunt_sound study e nodes a =
    let v = kv_of study.buses e.from in
    let b0 = a.line.b0.0 in
    option_sound (int_lt (pos 0) e.b0) _
    (λ t. record { plain = shunt_plain e.b0 study.mva v (2 * e.sections) a.kv t; small = small_susceptance_share e.b0 study.mva v (2 * e.sections) (omega (arith, ints, b0.0, b0.1)) a.base a.kv (omega (arith, a.line.sections.1)) })

-- a susceptance that is greater than another
above : (b b0 s v : ℤ) (n : ℕ) → IsIn BUS_KV v → int_lt b0 b ≡ true → IsPlainLaw (Shunt (susceptance_share (b -ℤ b0) s v n))
unfolding susceptance_share
above b b0 s v n h t =
    let one : pos 1 ≤ℤ v = omega (arith, ints, h.0) in
    product_not_nought (b -ℤ b0) _ (grind (arith, ints)) (product_above v v one one)

mutual_sound : (study : Study) (e : Line) (nodes : ℕ) → IsAddable study e nodes → IsSoundOption (pair_shunt study e e.b0 e.b)
mutual_sound study e nodes a =
    let v = kv_of study.buses e.from in
    let b0 = a.line.b0.0 in
    option_sound (int_lt e.b0 e.b) _
    (λ t. record {
      plain = above e.b e.b0 study.mva v (6 * e.sections) a.kv t;
      small = small_susceptance_share (e.b -ℤ e.b0) study.mva v (6 * e.sections) (omega (arith, ints, a.line.b0.1, a.line.b.0, a.line.b.1, b0.0, b0.1)) a.base a.kv (omega (arith, a.line.sections.1));
    })

of_values : (study : Study) (e : Line) (owner group next : ℕ) (r0 x0 : ℤ) → IsAddable study e next → IsIn ORDINARY r0 → IsIn ORDINARY x0 → 1 ≤ group
    → AreGroupSound (next + (phase_line study e owner group next r0 x0).inner) owner group (group + 64) (phase_line study e owner group next r0 x0).branches
of_values study e owner group next r0 x0 a h k g =
    let inner = e.sections - 1 in
    let nodes = next + 3 * inner in
    let v = kv_of study.buses e.from in
    let few : e.sections ≤ 64 = omega (arith, a.line.sections.1) in
    let values = coupling_small (record { r = e.r; x = e.x; r0 = r0; x0 = x0 }) e.skin_k e.skin_m study.mva v e.sections
    (record { r = a.line.r; x = a.line.x.0; r0 = h; x0 = k; skin_k = a.line.skin_k; skin_m = a.line.skin_m; base = a.base; kv = a.kv }) few in
    let laws : AreLineLaws (line_coupling study e r0 x0) (phase_shunt study e e.b0) (pair_shunt study e e.b0 e.b) = record {
      values = mutual_small study.model study e e.xab e.xbc e.xca _ a.base a.kv few a.line.xab_xbc_xca values;
      shunt = shunt_sound study e next a;
      pair = mutual_sound study e next a;
    } in
    let near : first_node e.from + 2 < nodes = omega (arith, a.line.from, a.room) in
    let far : first_node e.to + 2 < nodes = omega (arith, a.line.to.0, a.room) in
    sound_within nodes owner group group (group + 1 + inner) (group + 64) _ (omega arith) (omega (arith, few, a.line.sections.0))
    (sections_sound (line_coupling study e r0 x0) (phase_shunt study e e.b0) (pair_shunt study e e.b0 e.b) nodes (first_node e.from) next inner (first_node e.to) group owner near (omega arith) far g laws)

in_phases_sound : (study : Study) (e : Line) (owner group next : ℕ) (r0 x0 : Option ℤ) → IsAddable study e next → IsZeroSequence r0 x0 → 1 ≤ group
    → AreGroupSound (next + (line_in_phases study e owner group next r0 x0).inner) owner group (group + 64) (line_in_phases study e owner group next r0 x0).branches
in_phases_sound study e owner group next (Some r0) (Some x0) a z g = of_values study e owner group next r0 x0 a z.0 z.1 g
in_phases_sound study e owner group next (Some r0) None a z g = absurd z
in_phases_sound study e owner group next None x0 a z g = alone_sound (next + 0) owner group (group + 64) [] (omega arith) tt

pub line_phases_sound : (study : Study) (e : Line) (owner group next : ℕ) → IsLawful study → IsLawfulLine study.model study.buses e → 3 * length study.buses ≤ next → 1 ≤ group
    → AreGroupSound (next + (line_phases study e owner group next).inner) owner group (group + 64) (line_phases study e owner group next).branches
unfolding line_phases
line_phases_sound study e owner group next s l n g =
    in_phases_sound study e owner group next e.r0 e.x0 (record { base = s.mva; kv = kv_within study.buses e.from s.buses l.from; line = l; room = n }) l.r0_x0.0 g
