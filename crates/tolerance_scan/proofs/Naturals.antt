-- The values of the elements of a lawful study are at least 0.
use Rattle.std.proofs.Common.{◌≡◌, ℕ, zero, suc, ◌+◌, ◌-◌, ◌*◌, ◌^◌, Bool, true, false, List, [], ◌∷◌, ◌++◌, map, ℤ, pos, negsuc, ◌*ℤ◌, ◌-ℤ◌, ◌≤ℤ◌, unsigned_abs, ◌||◌, length, arith}
use Rattle.std.proofs.lemmas.Int.{ints}
use Rattle.std.specs.Prelude.{Option, Some, None, int_lt, if◌then◌else◌}
use Rattle.std.specs.List.{AllByRecursion}
use Rattle.exact_algebra.specs.Ratio.{Ratio, over, whole}
use Rattle.exact_algebra.proofs.WholeOrder.{square_above}
use Rattle.network_theory.specs.Branch.{Law, Series, Shunt, Branch}
use Rattle.network_theory.specs.Network.{Network}
use Rattle.net_branch.proofs.Wholes.{each_append, each_map}
use Rattle.study_model.specs.Range.{IsIn}
use Rattle.study_model.specs.Rules.{IsZeroSequence, IsNeutral, IsPower, IsImpedance}
use Rattle.study_model.specs.Elements.{StudyElement, of_source, of_line, of_transformer, of_load, of_bank, of_filter, elements_of}
use Rattle.study_model.specs.Voltages.{kv_of}
use Rattle.study_model.specs.Lawful.{IsLawful, IsLawfulSource, IsLawfulLine, IsLawfulTransformer, IsLawfulLoad, IsLawfulBank, IsLawfulFilter}
use Rattle.study_model.specs.declared.range.TheConstants.Range.{ORDINARY, BASE_MVA}
use Rattle.study_model.specs.declared.words.Sequence.{Sequence}
use Rattle.study_model.specs.declared.words.Sequence.TheVariants.{Positive, Zero}
use Rattle.study_model.specs.declared.words.Connection.{Connection}
use Rattle.study_model.specs.declared.words.Connection.TheVariants.{Grounded, Star, Delta}
use Rattle.study_model.specs.declared.words.LoadModel.{LoadModel}
use Rattle.study_model.specs.declared.words.LoadModel.TheVariants as load_model
use Rattle.study_model.specs.declared.words.FilterKind.{FilterKind}
use Rattle.study_model.specs.declared.words.FilterKind.TheVariants.{Single, HighPass, CType}
use Rattle.study_model.specs.declared.records.Source.{Source}
use Rattle.study_model.specs.declared.records.Line.{Line}
use Rattle.study_model.specs.declared.records.Transformer.{Transformer}
use Rattle.study_model.specs.declared.records.Load.{Load}
use Rattle.study_model.specs.declared.records.Bank.{Bank}
use Rattle.study_model.specs.declared.records.Filter.{Filter}
use Rattle.study_model.specs.declared.records.Study.{Study}
use Rattle.element_parts.specs.PerUnit.{impedance_per_unit, impedance_share, susceptance_share, impedance_of_rating, susceptance_of_rating, percent_per_unit, inverse_ratio}
use Rattle.element_parts.specs.Expansion.{Expansion, with_element, to_ground, between, law_where, open_circuit}
use Rattle.sequence_network.specs.Networks.{IsLawfulElement, expansion_of, with_elements, bus_nodes, network_of}
use Rattle.sequence_network.proofs.Branches.{elements_lawful}
use Rattle.line_pi.specs.Lines.{pi_section, cascade, section_series, end_laws, line_of, line_in, line_expansion}
use Rattle.transformer_model.specs.Transformers.{leakage, windings, neutral_laws, neutral, behind, both_grounded, one_grounded, zero_transformer, transformer_in, transformer_expansion}
use Rattle.load_filter_model.specs.Presence.{is_present}
use Rattle.load_filter_model.specs.Ports.{Port, at_node}
use Rattle.load_filter_model.specs.Sources.{source_series, source_laws, source_expansion}
use Rattle.load_filter_model.specs.Loads.{cigre_series_reactance, cigre_parallel_reactance, cigre_laws, resistance_laws, parallel_laws, load_laws, load_expansion}
use Rattle.load_filter_model.specs.Banks.{bank_expansion}
use Rattle.load_filter_model.specs.Filters.{tuned_reactance, tuned_resistance, highpass_resistance, ctype_reactance, ctype_resistance, filter_port, filter_expansion}
use Rattle.tolerance_scan.specs.Natural.{IsNatural, IsNaturalLaw, HaveNaturalValues}

abbrev pub AreNaturalLaws : List Law → Type 0
AreNaturalLaws laws = AllByRecursion IsNaturalLaw laws

abbrev pub AreNaturalBranches : List Branch → Type 0
AreNaturalBranches bs = AllByRecursion (λ b. IsNaturalLaw b.law) bs

-- ---- values
natural_product : (a b : ℤ) → pos 0 ≤ℤ a → pos 0 ≤ℤ b → pos 0 ≤ℤ (a *ℤ b)
natural_product (pos m) (pos n) h k = omega (arith, ints)
natural_product (pos m) (negsuc n) h k = absurd (omega (arith, ints))
natural_product (negsuc m) b h k = absurd (omega (arith, ints))

natural_zero : IsNatural (whole (pos 0))
unfolding whole
natural_zero = record { num = omega (arith, ints) }

ordinary : (d : ℤ) → IsIn ORDINARY d → pos 0 ≤ℤ d
ordinary d h = omega (arith, ints, h.0)

base : (s : ℤ) → IsIn BASE_MVA s → pos 0 ≤ℤ s
base s h = omega (arith, ints, h.0)

natural_impedance : (z s v : ℤ) → pos 0 ≤ℤ z → pos 0 ≤ℤ s → IsNatural (impedance_per_unit z s v)
unfolding impedance_per_unit
natural_impedance z s v h k = record { num = natural_product z s h k }

natural_share : (z s v : ℤ) (n : ℕ) → pos 0 ≤ℤ z → pos 0 ≤ℤ s → IsNatural (impedance_share z s v n)
unfolding impedance_share
natural_share z s v n h k = record { num = natural_product z s h k }

natural_susceptance_share : (b s v : ℤ) (n : ℕ) → pos 0 ≤ℤ b → IsNatural (susceptance_share b s v n)
unfolding susceptance_share
natural_susceptance_share b s v n h = record { num = natural_product b (v *ℤ v) h (square_above v) }

natural_rating : (q s : ℤ) → pos 0 ≤ℤ s → IsNatural (impedance_of_rating q s)
unfolding impedance_of_rating
natural_rating q s h = record { num = h }

natural_susceptance : (q s : ℤ) → pos 0 ≤ℤ q → IsNatural (susceptance_of_rating q s)
unfolding susceptance_of_rating
natural_susceptance q s h = record { num = h }

natural_percent : (z s t : ℤ) → pos 0 ≤ℤ z → pos 0 ≤ℤ s → IsNatural (percent_per_unit z s t)
unfolding percent_per_unit
natural_percent z s t h k = record { num = natural_product z s h k }

natural_motor : (p s : ℤ) → pos 0 ≤ℤ s → IsNatural (cigre_series_reactance p s)
unfolding cigre_series_reactance
natural_motor p s h = record { num = natural_product (pos 73) s (omega (arith, ints)) h }

natural_beside : (p q s : ℤ) → pos 0 ≤ℤ s → IsNatural (cigre_parallel_reactance p q s)
unfolding cigre_parallel_reactance
natural_beside p q s h = record { num = natural_product (pos 100) s (omega (arith, ints)) h }

natural_tuned : (q n s : ℤ) → pos 0 ≤ℤ s → IsNatural (tuned_reactance q n s)
unfolding tuned_reactance
natural_tuned q n s h = record { num = natural_product s (pos (10 ^ 12)) h (omega (arith, ints)) }

natural_single : (q n w s : ℤ) → pos 0 ≤ℤ s → IsNatural (tuned_resistance q n w s)
unfolding tuned_resistance
natural_single q n w s h = record { num = natural_product s (pos (10 ^ 12)) h (omega (arith, ints)) }

natural_highpass : (q n w s : ℤ) → pos 0 ≤ℤ w → pos 0 ≤ℤ s → IsNatural (highpass_resistance q n w s)
unfolding highpass_resistance
natural_highpass q n w s k h = record { num = natural_product w s k h }

natural_ctype : (q n s : ℤ) → pos 0 ≤ℤ s → IsNatural (ctype_reactance q n s)
unfolding ctype_reactance
natural_ctype q n s h = record { num = natural_product s (pos (10 ^ 12)) h (omega (arith, ints)) }

natural_ctype_resistance : (q n w s : ℤ) → pos 0 ≤ℤ n → pos 0 ≤ℤ w → pos 0 ≤ℤ s → IsNatural (ctype_resistance q n w s)
unfolding ctype_resistance
natural_ctype_resistance q n w s l k h = record { num = natural_product (w *ℤ n) s (natural_product w n k l) h }

-- ---- laws that are there or not, and their branches
natural_where : (b : Bool) (law : Law) → IsNaturalLaw law → AreNaturalLaws (law_where b law)
natural_where true law h = (h, tt)
natural_where false law h = tt

natural_if : (b : Bool) (laws : List Law) → AreNaturalLaws laws → AreNaturalLaws (if b then laws else [])
natural_if true laws h = h
natural_if false laws h = tt

natural_present : (b : Bool) (e : Expansion) → AreNaturalBranches e.branches → AreNaturalBranches (if b then e else open_circuit).branches
natural_present true e h = h
natural_present false e h = tt

natural_grounded : (node owner : ℕ) (laws : List Law) → AreNaturalLaws laws → AreNaturalBranches (map (λ law. to_ground node law owner) laws)
natural_grounded node owner laws h = each_map (λ b. IsNaturalLaw b.law) (λ law. to_ground node law owner) laws h

natural_between : (a b owner : ℕ) (laws : List Law) → AreNaturalLaws laws → AreNaturalBranches (map (λ law. between a b law owner) laws)
natural_between a b owner laws h = each_map (λ o. IsNaturalLaw o.law) (λ law. between a b law owner) laws h

append : (xs ys : List Branch) → AreNaturalBranches xs → AreNaturalBranches ys → AreNaturalBranches (xs ++ ys)
append xs ys h k = each_append (λ b. IsNaturalLaw b.law) xs ys h k

-- ---- sources
source_of : (study : Study) (e : Source) (r x : ℤ) → IsLawful study → IsIn ORDINARY r → IsIn ORDINARY x → IsNaturalLaw (source_series study e r x)
source_of study e r x s h k = (natural_impedance r study.mva _ (ordinary r h) (base study.mva s.mva), natural_impedance x study.mva _ (ordinary x k) (base study.mva s.mva), natural_zero)

sources : (study : Study) (e : Source) (sequence : Sequence) (r0 x0 : Option ℤ) → IsLawful study → IsLawfulSource study.buses e → IsZeroSequence r0 x0 → AreNaturalLaws (source_laws study e sequence r0 x0)
sources study e Positive r0 x0 s l z = (source_of study e e.r e.x s l.r l.x.0, tt)
sources study e Zero (Some r0) (Some x0) s l z = (source_of study e r0 x0 s z.0 z.1, tt)
sources study e Zero (Some r0) None s l z = tt
sources study e Zero None x0 s l z = tt

pub source_natural : (study : Study) (e : Source) (owner : ℕ) (sequence : Sequence) → IsLawful study → IsLawfulSource study.buses e → AreNaturalBranches (source_expansion study e owner sequence).branches
unfolding source_expansion
source_natural study e owner sequence s l = natural_grounded e.bus owner _ (sources study e sequence e.r0 e.x0 s l l.r0_x0)

-- ---- lines
section : (series : Law) (end : List Law) (near far owner : ℕ) → IsNaturalLaw series → AreNaturalLaws end → AreNaturalBranches (pi_section series end near far owner)
section series end near far owner s t = (s, append (map (λ law. to_ground near law owner) end) _ (natural_grounded near owner end t) (natural_grounded far owner end t))

sections : (series : Law) (end : List Law) (near next inner far owner : ℕ) → IsNaturalLaw series → AreNaturalLaws end → AreNaturalBranches (cascade series end near next inner far owner)
sections series end near next zero far owner s t = section series end near far owner s t
sections series end near next (suc inner) far owner s t = append (pi_section series end near next owner) _ (section series end near next owner s t) (sections series end next (next + 1) inner far owner s t)

line_values : (study : Study) (e : Line) (owner next : ℕ) (r x b : ℤ) → IsLawful study → IsIn ORDINARY r → IsIn ORDINARY x → IsIn ORDINARY b → AreNaturalBranches (line_of study e owner next r x b).branches
line_values study e owner next r x b s h k l =
    let v = kv_of study.buses e.from in
    sections (section_series study e r x) (end_laws study e b) e.from next (e.sections - 1) e.to owner
    (natural_share r study.mva v e.sections (ordinary r h) (base study.mva s.mva), natural_share x study.mva v e.sections (ordinary x k) (base study.mva s.mva), natural_zero)
    (natural_where (int_lt (pos 0) b) _ (natural_susceptance_share b study.mva v (2 * e.sections) (ordinary b l)))

lines : (study : Study) (e : Line) (owner next : ℕ) (sequence : Sequence) (r0 x0 : Option ℤ) → IsLawful study → IsLawfulLine study.model study.buses e → IsZeroSequence r0 x0
    → AreNaturalBranches (line_in study e owner next sequence r0 x0).branches
lines study e owner next Positive r0 x0 s l z = line_values study e owner next e.r e.x e.b s l.r l.x.0 l.b
lines study e owner next Zero (Some r0) (Some x0) s l z = line_values study e owner next r0 x0 e.b0 s z.0 z.1 l.b0.0
lines study e owner next Zero (Some r0) None s l z = tt
lines study e owner next Zero None x0 s l z = tt

pub line_natural : (study : Study) (e : Line) (owner : ℕ) (sequence : Sequence) (next : ℕ) → IsLawful study → IsLawfulLine study.model study.buses e → AreNaturalBranches (line_expansion study e owner sequence next).branches
unfolding line_expansion
line_natural study e owner sequence next s l = lines study e owner next sequence e.r0 e.x0 s l l.r0_x0.0

-- ---- transformers
leakage_natural : (study : Study) (e : Transformer) → IsLawful study → IsLawfulTransformer study.buses e → IsNaturalLaw (leakage study e)
leakage_natural study e s l =
    let r : pos 0 ≤ℤ e.r = omega (arith, ints, l.r.0) in
    let x : pos 0 ≤ℤ e.x = omega (arith, ints, l.x.0) in
    (natural_percent e.r study.mva e.mva r (base study.mva s.mva), natural_percent e.x study.mva e.mva x (base study.mva s.mva), natural_zero)

-- the resistance and the reactance of a neutral, three times
triple : (connection : Connection) (rn xn : ℤ) → IsNeutral connection rn xn → (pos 0 ≤ℤ (pos 3 *ℤ rn)) × (pos 0 ≤ℤ (pos 3 *ℤ xn))
triple Grounded rn xn h = (omega (arith, ints, h.0.0), omega (arith, ints, h.1.0))
triple Star rn xn h = (omega (arith, ints, h.0), omega (arith, ints, h.1))
triple Delta rn xn h = (omega (arith, ints, h.0), omega (arith, ints, h.1))

neutral_natural : (study : Study) (e : Transformer) (connection : Connection) (bus : ℕ) (rn xn : ℤ) → IsLawful study → IsNeutral connection rn xn → AreNaturalLaws (neutral_laws study e bus rn xn)
neutral_natural study e connection bus rn xn s n =
    let above = triple connection rn xn n in
    natural_where (int_lt (pos 0) rn || int_lt (pos 0) xn) _
    (natural_impedance (pos 3 *ℤ rn) study.mva _ above.0 (base study.mva s.mva), natural_impedance (pos 3 *ℤ xn) study.mva _ above.1 (base study.mva s.mva), natural_zero)

-- the laws of a transformer
record HasNaturalLaws (study : Study) (e : Transformer) : Type 0 where
  leakage : IsNaturalLaw (leakage study e)
  from_neutral : AreNaturalLaws (neutral_laws study e e.from e.from_rn e.from_xn)
  to_neutral : AreNaturalLaws (neutral_laws study e e.to e.to_rn e.to_xn)

both : (study : Study) (e : Transformer) (owner next : ℕ) (from to : List Law) → IsNaturalLaw (leakage study e) → AreNaturalLaws from → AreNaturalLaws to → AreNaturalBranches (both_grounded study e owner next from to).branches
both study e owner next from to l f t =
    append (neutral e.from next from owner) _ (natural_between e.from next owner from f) (append (neutral e.to (next + length from) to owner) _ (natural_between e.to (next + length from) owner to t) (l, tt))

one : (study : Study) (e : Transformer) (owner next bus : ℕ) (ratio : Ratio) (laws : List Law) → IsNaturalLaw (leakage study e) → AreNaturalLaws laws → AreNaturalBranches (one_grounded study e owner next bus ratio laws).branches
one study e owner next bus ratio laws l h = append (neutral bus next laws owner) _ (natural_between bus next owner laws h) (l, tt)

zero_natural : (study : Study) (e : Transformer) (owner next : ℕ) (from to : Connection) → HasNaturalLaws study e → AreNaturalBranches (zero_transformer study e owner next from to).branches
zero_natural study e owner next Grounded Grounded h = both study e owner next _ _ h.leakage h.from_neutral h.to_neutral
zero_natural study e owner next Grounded Delta h = one study e owner next e.from (inverse_ratio e.ratio) _ h.leakage h.from_neutral
zero_natural study e owner next Delta Grounded h = one study e owner next e.to (whole (pos 1)) _ h.leakage h.to_neutral
zero_natural study e owner next Grounded Star h = tt
zero_natural study e owner next Star to h = tt
zero_natural study e owner next Delta Star h = tt
zero_natural study e owner next Delta Delta h = tt

transformer_by : (study : Study) (e : Transformer) (owner next : ℕ) (sequence : Sequence) → HasNaturalLaws study e → AreNaturalBranches (transformer_in study e owner next sequence).branches
transformer_by study e owner next Positive h = (h.leakage, tt)
transformer_by study e owner next Zero h = zero_natural study e owner next e.from_conn e.to_conn h

pub transformer_natural : (study : Study) (e : Transformer) (owner : ℕ) (sequence : Sequence) (next : ℕ) → IsLawful study → IsLawfulTransformer study.buses e
    → AreNaturalBranches (transformer_expansion study e owner sequence next).branches
unfolding transformer_expansion
transformer_natural study e owner sequence next s l = transformer_by study e owner next sequence (record {
  leakage = leakage_natural study e s l;
  from_neutral = neutral_natural study e e.from_conn e.from e.from_rn e.from_xn s l.from_rn_from_xn;
  to_neutral = neutral_natural study e e.to_conn e.to e.to_rn e.to_xn s l.to_rn_to_xn;
})

-- ---- loads
loads : (s v : ℤ) (m : LoadModel) (p q r x : Option ℤ) → pos 0 ≤ℤ s → IsImpedance m r x → AreNaturalLaws (load_laws s v m p q r x)
loads s v load_model.Cigre (Some p) (Some q) r x b z = (
  (natural_rating p s b, natural_motor p s b, natural_zero),
  natural_where (int_lt (pos 74 *ℤ p) (pos 670 *ℤ q)) _ (natural_zero, natural_beside p q s b, natural_zero),
)
loads s v load_model.Cigre (Some p) None r x b z = tt
loads s v load_model.Cigre None q r x b z = tt
loads s v load_model.Parallel (Some p) (Some q) r x b z =
    each_append IsNaturalLaw (resistance_laws s p) _ (natural_where (int_lt (pos 0) p) _ (natural_rating p s b, natural_zero, natural_zero)) (natural_where (int_lt (pos 0) q) _ (natural_zero, natural_rating q s b, natural_zero))
loads s v load_model.Parallel (Some p) None r x b z = tt
loads s v load_model.Parallel None q r x b z = tt
loads s v load_model.Series p q (Some r) (Some x) b z = ((natural_impedance r s v (ordinary r z.0) b, natural_impedance x s v (ordinary x z.1) b, natural_zero), tt)
loads s v load_model.Series p q (Some r) None b z = tt
loads s v load_model.Series p q None x b z = tt

pub load_natural : (study : Study) (e : Load) (owner : ℕ) (sequence : Sequence) → IsLawful study → IsLawfulLoad study.model study.buses e → AreNaturalBranches (load_expansion study e owner sequence).branches
unfolding load_expansion
load_natural study e owner sequence s l = natural_grounded e.bus owner _ (natural_if (is_present sequence e.grounded e.phase) _ (loads study.mva _ e.model e.p e.q e.r e.x (base study.mva s.mva) l.r_x))

-- ---- banks
pub bank_natural : (study : Study) (e : Bank) (owner : ℕ) (sequence : Sequence) → IsLawfulBank study.model study.buses e → AreNaturalBranches (bank_expansion study e owner sequence).branches
unfolding bank_expansion
bank_natural study e owner sequence l =
    let above : pos 0 ≤ℤ e.q = omega (arith, ints, l.q.0) in
    natural_grounded e.bus owner _ (natural_if (is_present sequence e.grounded e.phase) (Shunt (susceptance_of_rating e.q study.mva) ∷ []) (natural_susceptance e.q study.mva above, tt))

-- ---- filters
of_kind : (s : ℤ) (e : Filter) (q : ℤ) (kind : FilterKind) (node next owner : ℕ) → pos 0 ≤ℤ s → pos 0 ≤ℤ e.order → pos 0 ≤ℤ e.quality → AreNaturalBranches (at_node (filter_port s e q kind) node next owner).branches
of_kind s e q Single node next owner b n w = ((natural_single q e.order e.quality s b, natural_tuned q e.order s b, natural_rating q s b), tt)
of_kind s e q HighPass node next owner b n w = (
  (natural_zero, natural_zero, natural_rating q s b),
  ((natural_highpass q e.order e.quality s w b, natural_zero, natural_zero), ((natural_zero, natural_tuned q e.order s b, natural_zero), tt)),
)
of_kind s e q CType node next owner b n w = (
  (natural_zero, natural_zero, natural_rating q s b),
  ((natural_ctype_resistance q e.order e.quality s n w b, natural_zero, natural_zero), ((natural_zero, natural_ctype q e.order s b, natural_ctype q e.order s b), tt)),
)

pub filter_natural : (study : Study) (e : Filter) (owner : ℕ) (sequence : Sequence) (next : ℕ) → IsLawful study → IsLawfulFilter study.model study.buses e
    → AreNaturalBranches (filter_expansion study e owner sequence next).branches
unfolding filter_expansion
filter_natural study e owner sequence next s l =
    let order : pos 0 ≤ℤ e.order = omega (arith, ints, l.order.0) in
    let quality : pos 0 ≤ℤ e.quality = omega (arith, ints, l.quality.0) in
    natural_present (is_present sequence e.grounded e.phase) (at_node (filter_port study.mva e e.q e.kind) e.bus next owner)
    (of_kind study.mva e e.q e.kind e.bus next owner (base study.mva s.mva) order quality)

-- ---- networks
element_natural : (study : Study) (sequence : Sequence) (next owner : ℕ) (e : StudyElement) → IsLawful study → IsLawfulElement study e → AreNaturalBranches (expansion_of study sequence next e owner).branches
element_natural study sequence next owner (of_source e) s l = source_natural study e owner sequence s l
element_natural study sequence next owner (of_line e) s l = line_natural study e owner sequence next s l
element_natural study sequence next owner (of_transformer e) s l = transformer_natural study e owner sequence next s l
element_natural study sequence next owner (of_load e) s l = load_natural study e owner sequence s l
element_natural study sequence next owner (of_bank e) s l = bank_natural study e owner sequence l
element_natural study sequence next owner (of_filter e) s l = filter_natural study e owner sequence next s l

with_each : (study : Study) (sequence : Sequence) → IsLawful study → (n : Network) (owner : ℕ) (es : List StudyElement) → AllByRecursion (IsLawfulElement study) es → HaveNaturalValues n
    → HaveNaturalValues (with_elements study sequence n owner es)
with_each study sequence s n owner [] h p = p
with_each study sequence s n owner (e ∷ es) h p =
    let added = expansion_of study sequence n.nodes e owner in
    with_each study sequence s (with_element n added) (owner + 1) es h.1 (append n.branches added.branches p (element_natural study sequence n.nodes owner e s h.0))

-- no value of a sequence network of a lawful study is below 0
pub network_natural : (study : Study) (sequence : Sequence) → IsLawful study → HaveNaturalValues (network_of study sequence)
unfolding network_of
network_natural study sequence s = with_each study sequence s (bus_nodes study) 1 (elements_of study) (elements_lawful study s) tt
