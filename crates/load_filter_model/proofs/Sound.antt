-- The branches of sources, loads and banks of a lawful study are sound.
use Rattle.std.proofs.Common.{◌≡◌, ℕ, ◌+◌, ◌≤◌, ◌<◌, ◌*◌, ◌^◌, ◌*ℤ◌, ◌-ℤ◌, ℤ, pos, ◌≤ℤ◌, false, unsigned_abs, List, [], ◌∷◌, length, arith}
use Rattle.std.proofs.lemmas.Int.{ints}
use Rattle.std.specs.Prelude.{Option, Some, None, option_map, int_lt}
use Rattle.exact_algebra.specs.Ratio.{whole}
use Rattle.network_theory.specs.Branch.{Law, Shunt}
use Rattle.net_branch.proofs.Wholes.{each_append}
use Rattle.study_model.specs.Range.{IsIn}
use Rattle.study_model.specs.Rules.{AreNotBothZero, IsZeroSequence, IsPower, IsImpedance}
use Rattle.study_model.specs.Lawful.{IsLawful, IsLawfulSource, IsLawfulLoad, IsLawfulBank}
use Rattle.study_model.specs.declared.range.TheConstants.Range.{ORDINARY, ABOVE_ZERO, BASE_MVA, BUS_KV}
use Rattle.study_model.specs.declared.words.Sequence.{Sequence}
use Rattle.study_model.specs.declared.words.Sequence.TheVariants.{Positive, Zero}
use Rattle.study_model.specs.declared.words.Phase.{Phase}
use Rattle.study_model.specs.declared.words.LoadModel.{LoadModel}
use Rattle.study_model.specs.declared.words.LoadModel.TheVariants as load_model
use Rattle.study_model.specs.declared.records.Source.{Source}
use Rattle.study_model.specs.declared.records.Load.{Load}
use Rattle.study_model.specs.declared.records.Bank.{Bank}
use Rattle.study_model.specs.declared.records.Study.{Study}
use Rattle.element_parts.specs.PerUnit.{impedance_per_unit, impedance_of_rating, susceptance_of_rating}
use Rattle.element_parts.specs.Expansion.{grounded_at, series}
use Rattle.element_parts.specs.Small.{IsSmall}
use Rattle.element_parts.proofs.Numbers.{not_nought}
use Rattle.element_parts.proofs.SmallValues.{small_over, size, small_zero, small_impedance, small_rating, small_susceptance}
use Rattle.element_parts.proofs.Sound.{IsSoundLaw, AreSoundLaws, IsSound, plain_ohms, sound_ohms, sound_series, sound_where, sound_if, sound_to_grounds}
use Rattle.element_parts.proofs.Values.{kv_within, base_above}
use Rattle.element_parts.specs.Phases.{first_node, power_in}
use Rattle.element_parts.proofs.GroupedElements.{IsSmallCoupling, AreGroupSound, group_sound, alone_sound, coupling_small}
use Rattle.load_filter_model.specs.Presence.{is_present}
use Rattle.load_filter_model.specs.Ports.{single, at_phases}
use Rattle.load_filter_model.specs.Sources.{source_series, source_laws, source_expansion, source_coupling, source_in_phases, source_phases}
use Rattle.load_filter_model.specs.Loads.{cigre_series_reactance, cigre_parallel_reactance, cigre_laws, resistance_laws, parallel_laws, load_laws, load_expansion, load_port, load_phases}
use Rattle.load_filter_model.specs.Banks.{bank_expansion, bank_port, bank_phases}
use Rattle.load_filter_model.proofs.LawLists.{as_written}
use Rattle.load_filter_model.proofs.Ports.{at_phases_sound}

pub sound_grounded : (next bus owner : ℕ) (laws : List Law) → bus < next → AreSoundLaws laws → IsSound next owner (grounded_at bus laws owner)
sound_grounded next bus owner laws h s = sound_to_grounds (next + 0) bus owner laws (omega arith) s

-- ---- sources
source_of : (study : Study) (e : Source) (r x : ℤ) → IsLawful study → IsLawfulSource study.buses e → IsIn ORDINARY r → IsIn ORDINARY x → AreNotBothZero r x → IsSoundLaw (source_series study e r x)
source_of study e r x s l h k n =
    sound_ohms r x study.mva _ e.skin_k e.skin_m (omega (arith, ints, h.0, h.1)) (omega (arith, ints, k.0, k.1)) n s.mva (kv_within study.buses e.bus s.buses l.bus) l.skin_k l.skin_m

sources : (study : Study) (e : Source) (sequence : Sequence) (r0 x0 : Option ℤ) → IsLawful study → IsLawfulSource study.buses e → IsZeroSequence r0 x0 → AreSoundLaws (source_laws study e sequence r0 x0)
sources study e Positive r0 x0 s l z = (source_of study e e.r e.x s l l.r l.x.0 l.x.1, tt)
sources study e Zero (Some r0) (Some x0) s l z = (source_of study e r0 x0 s l z.0 z.1 z.2, tt)
sources study e Zero (Some r0) None s l z = tt
sources study e Zero None x0 s l z = tt

pub source_sound : (study : Study) (e : Source) (owner : ℕ) (sequence : Sequence) (next : ℕ) → IsLawful study → IsLawfulSource study.buses e → length study.buses ≤ next
    → IsSound next owner (source_expansion study e owner sequence)
unfolding source_expansion
source_sound study e owner sequence next s l n = sound_grounded next e.bus owner _ (omega (arith, l.bus)) (sources study e sequence e.r0 e.x0 s l l.r0_x0)

small_coupling : (study : Study) (e : Source) (r0 x0 : ℤ) → IsLawful study → IsLawfulSource study.buses e → IsIn ORDINARY r0 → IsIn ORDINARY x0 → IsSmallCoupling (source_coupling study e r0 x0)
small_coupling study e r0 x0 s l h k =
    coupling_small (record { r = e.r; x = e.x; r0 = r0; x0 = x0 }) e.skin_k e.skin_m study.mva _ 1 (record { r = l.r; x = l.x.0; r0 = h; x0 = k; skin_k = l.skin_k; skin_m = l.skin_m; base = s.mva; kv = kv_within study.buses e.bus s.buses l.bus }) (omega arith)

of_source : (study : Study) (e : Source) (owner group next : ℕ) (r0 x0 : Option ℤ) → IsLawful study → IsLawfulSource study.buses e → IsZeroSequence r0 x0 → 3 * length study.buses ≤ next → 1 ≤ group
    → AreGroupSound (next + (source_in_phases study e owner group next r0 x0).inner) owner group (group + 1) (source_in_phases study e owner group next r0 x0).branches
of_source study e owner group next (Some r0) (Some x0) s l z n g =
    group_sound (next + 0) group owner (λ p. record { node = first_node e.bus + p; ratio = whole (pos 1) } ∷ []) (source_coupling study e r0 x0) (λ q. omega (arith, q, g)) (λ p h. (omega (arith, l.bus, n, h), tt))
    (small_coupling study e r0 x0 s l z.0 z.1)
of_source study e owner group next (Some r0) None s l z n g = absurd z
of_source study e owner group next None (Some x0) s l z n g = absurd z
of_source study e owner group next None None s l z n g =
    let port = single (source_series study e e.r e.x) in
    alone_sound (next + 1) owner group (group + 1) (at_phases port false None e.bus next owner).branches (omega arith)
    (at_phases_sound port false None e.bus next owner (omega (arith, l.bus, n)) (record { capacitor = tt; laws = (source_of study e e.r e.x s l l.r l.x.0 l.x.1, tt) }))

pub source_phases_sound : (study : Study) (e : Source) (owner group next : ℕ) → IsLawful study → IsLawfulSource study.buses e → 3 * length study.buses ≤ next → 1 ≤ group
    → AreGroupSound (next + (source_phases study e owner group next).inner) owner group (group + 1) (source_phases study e owner group next).branches
unfolding source_phases
source_phases_sound study e owner group next s l n g = of_source study e owner group next e.r0 e.x0 s l l.r0_x0 n g

-- ---- loads
pub rating_there : (q s : ℤ) → IsIn BASE_MVA s → ¬ ((impedance_of_rating q s).num ≡ pos 0)
unfolding impedance_of_rating
rating_there q s b e = not_nought s (base_above s b).0 e

-- a power above 0, as it is written or three times that
pub record IsRating (q : ℤ) : Type 0 where
  pub above : pos 1 ≤ℤ q
  pub size : unsigned_abs q ≤ 3 * 10 ^ 12

pub rating_in : (phase : Option Phase) (q : ℤ) → IsIn ABOVE_ZERO q → IsRating (power_in phase q)
rating_in None q h = record { above = omega (arith, ints, h.0); size = omega (arith, ints, h.0, h.1) }
rating_in (Some phase) q h = record { above = omega (arith, ints, h.0); size = omega (arith, ints, h.0, h.1) }

power_size : (phase : Option Phase) (q : ℤ) → IsIn ORDINARY q → unsigned_abs (power_in phase q) ≤ 3 * 10 ^ 12
power_size None q h = omega (arith, ints, h.0, h.1)
power_size (Some phase) q h = omega (arith, ints, h.0, h.1)

motor_small : (p s : ℤ) → unsigned_abs p ≤ 3 * 10 ^ 12 → IsIn BASE_MVA s → IsSmall (cigre_series_reactance p s)
unfolding cigre_series_reactance
motor_small p s h b = small_over (pos 73 *ℤ s) (1000 * unsigned_abs p) (omega (arith, size (pos 73) s 73 (10 ^ 10) (omega arith) (base_above s b).1)) (omega (arith, h))

beside : (p q s : ℤ) → unsigned_abs p ≤ 3 * 10 ^ 12 → unsigned_abs q ≤ 3 * 10 ^ 12 → IsIn BASE_MVA s → IsSoundLaw (series (whole (pos 0)) (cigre_parallel_reactance p q s))
unfolding cigre_parallel_reactance
beside p q s h k b =
    let excess : unsigned_abs (pos 670 *ℤ q -ℤ pos 74 *ℤ p) ≤ 10 ^ 31 = omega (arith, ints, h, k) in
    let reactance : IsSmall (cigre_parallel_reactance p q s) = small_over (pos 100 *ℤ s) (unsigned_abs (pos 670 *ℤ q -ℤ pos 74 *ℤ p)) (omega (arith, size (pos 100) s 100 (10 ^ 10) (omega arith) (base_above s b).1)) excess in
    sound_series (whole (pos 0)) (cigre_parallel_reactance p q s) (λ z. not_nought s (base_above s b).0 (omega (arith, ints, z.1))) small_zero reactance

cigre : (s p q : ℤ) → unsigned_abs p ≤ 3 * 10 ^ 12 → unsigned_abs q ≤ 3 * 10 ^ 12 → IsIn BASE_MVA s → AreSoundLaws (cigre_laws s p q)
cigre s p q h k b = (
  sound_series (impedance_of_rating p s) (cigre_series_reactance p s) (λ e. rating_there p s b e.0) (small_rating p s (omega (arith, h)) b) (motor_small p s h b),
  sound_where (int_lt (pos 74 *ℤ p) (pos 670 *ℤ q)) _ (λ e. beside p q s h k b),
)

parallel : (s p q : ℤ) → unsigned_abs p ≤ 3 * 10 ^ 12 → unsigned_abs q ≤ 3 * 10 ^ 12 → IsIn BASE_MVA s → AreSoundLaws (parallel_laws s p q)
parallel s p q h k b = each_append IsSoundLaw (resistance_laws s p) _
    (sound_where (int_lt (pos 0) p) _ (λ e. sound_series (impedance_of_rating p s) (whole (pos 0)) (λ f. rating_there p s b f.0) (small_rating p s (omega (arith, h)) b) small_zero))
    (sound_where (int_lt (pos 0) q) _ (λ e. sound_series (whole (pos 0)) (impedance_of_rating q s) (λ f. rating_there q s b f.1) small_zero (small_rating q s (omega (arith, k)) b)))

-- of powers as written, or three times that
loads : (s v : ℤ) (m : LoadModel) (phase : Option Phase) (p q r x : Option ℤ) → IsIn BASE_MVA s → IsIn BUS_KV v → IsPower m p q → IsImpedance m r x
    → AreSoundLaws (load_laws s v m (option_map (power_in phase) p) (option_map (power_in phase) q) r x)
loads s v load_model.Cigre phase (Some p) (Some q) r x b w n z = cigre s (power_in phase p) (power_in phase q) (rating_in phase p n.0).size (power_size phase q n.1) b
loads s v load_model.Cigre phase (Some p) None r x b w n z = tt
loads s v load_model.Cigre phase None q r x b w n z = tt
loads s v load_model.Parallel phase (Some p) (Some q) r x b w n z = parallel s (power_in phase p) (power_in phase q) (power_size phase p n.0) (power_size phase q n.1) b
loads s v load_model.Parallel phase (Some p) None r x b w n z = tt
loads s v load_model.Parallel phase None q r x b w n z = tt
loads s v load_model.Series phase p q (Some r) (Some x) b w n z = (
  sound_series (impedance_per_unit r s v) (impedance_per_unit x s v) (λ e. plain_ohms r x s v b z.2 (e.0, e.1))
      (small_impedance r s v (omega (arith, ints, z.0.0, z.0.1)) b w) (small_impedance x s v (omega (arith, ints, z.1.0, z.1.1)) b w),
  tt,
)
loads s v load_model.Series phase p q (Some r) None b w n z = tt
loads s v load_model.Series phase p q None x b w n z = tt

pub load_sound : (study : Study) (e : Load) (owner : ℕ) (sequence : Sequence) (next : ℕ) → IsLawful study → IsLawfulLoad study.model study.buses e → length study.buses ≤ next
    → IsSound next owner (load_expansion study e owner sequence)
unfolding load_expansion
load_sound study e owner sequence next s l n =
    let laws = loads study.mva _ e.model None e.p e.q e.r e.x s.mva (kv_within study.buses e.bus s.buses l.bus) l.p_q l.r_x in
    sound_grounded next e.bus owner _ (omega (arith, l.bus)) (sound_if _ _ (rw (as_written e.p, as_written e.q) at laws))

pub load_phases_sound : (study : Study) (e : Load) (owner next : ℕ) → IsLawful study → IsLawfulLoad study.model study.buses e → 3 * length study.buses ≤ next
    → IsSound next owner (load_phases study e owner next)
unfolding load_phases
load_phases_sound study e owner next s l n =
    at_phases_sound (load_port study e e.phase) e.grounded e.phase e.bus next owner (omega (arith, l.bus, n))
    (record { capacitor = tt; laws = loads study.mva _ e.model e.phase e.p e.q e.r e.x s.mva (kv_within study.buses e.bus s.buses l.bus) l.p_q l.r_x })

-- ---- banks
bank_law : (q s : ℤ) → IsRating q → IsIn BASE_MVA s → IsSoundLaw (Shunt (susceptance_of_rating q s))
unfolding susceptance_of_rating
bank_law q s h b = record { plain = λ z. not_nought q h.above z; small = small_susceptance q s (omega (arith, h.size)) b }

pub bank_sound : (study : Study) (e : Bank) (owner : ℕ) (sequence : Sequence) (next : ℕ) → IsLawful study → IsLawfulBank study.model study.buses e → length study.buses ≤ next
    → IsSound next owner (bank_expansion study e owner sequence)
unfolding bank_expansion
bank_sound study e owner sequence next s l n =
    sound_grounded next e.bus owner _ (omega (arith, l.bus))
    (sound_if (is_present sequence e.grounded e.phase) (Shunt (susceptance_of_rating e.q study.mva) ∷ []) (bank_law e.q study.mva (rating_in None e.q l.q) s.mva, tt))

pub bank_phases_sound : (study : Study) (e : Bank) (owner next : ℕ) → IsLawful study → IsLawfulBank study.model study.buses e → 3 * length study.buses ≤ next
    → IsSound next owner (bank_phases study e owner next)
unfolding bank_phases
bank_phases_sound study e owner next s l n =
    at_phases_sound (bank_port study e e.phase) e.grounded e.phase e.bus next owner (omega (arith, l.bus, n))
    (record { capacitor = tt; laws = (bank_law (power_in e.phase e.q) study.mva (rating_in e.phase e.q l.q) s.mva, tt) })
