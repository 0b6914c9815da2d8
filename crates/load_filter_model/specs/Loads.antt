-- Loads as branches, of p MW and q MVAr, or of r and x ohms.
use Rattle.std.specs.Prelude.{ℕ, ◌*◌, ℤ, pos, ◌*ℤ◌, ◌-ℤ◌, unsigned_abs, int_lt, List, [], ◌∷◌, ◌++◌, Option, Some, None, option_map, if◌then◌else◌}
use Rattle.exact_algebra.specs.Ratio.{Ratio, whole, over}
use Rattle.network_theory.specs.Branch.{Law}
use Rattle.study_model.specs.declared.words.Sequence.{Sequence}
use Rattle.study_model.specs.declared.words.LoadModel.{LoadModel}
use Rattle.study_model.specs.declared.words.LoadModel.TheVariants as load_model
use Rattle.study_model.specs.declared.words.Phase.{Phase}
use Rattle.study_model.specs.declared.records.Load.{Load}
use Rattle.study_model.specs.declared.records.Study.{Study}
use Rattle.study_model.specs.Voltages.{kv_of}
use Rattle.element_parts.specs.PerUnit.{impedance_per_unit, impedance_of_rating}
use Rattle.element_parts.specs.Expansion.{Expansion, grounded_at, series, law_where}
use Rattle.element_parts.specs.Phases.{power_in}
use Rattle.load_filter_model.specs.Presence.{is_present}
use Rattle.load_filter_model.specs.Ports.{Port, at_phases}

-- the reactance in series with the resistance of a CIGRE load of p MW: 73·s/(1000·p)
unfoldable pub cigre_series_reactance : ℤ → ℤ → Ratio
cigre_series_reactance p s = over (pos 73 *ℤ s) (1000 * unsigned_abs p)

-- the reactance beside them, of a CIGRE load of p MW and q MVAr: 100·s/(670·q - 74·p)
unfoldable pub cigre_parallel_reactance : ℤ → ℤ → ℤ → Ratio
cigre_parallel_reactance p q s = over (pos 100 *ℤ s) (unsigned_abs (pos 670 *ℤ q -ℤ pos 74 *ℤ p))

-- cigre: Series r = s/p, x = 73·s/(1000·p) to ground; where 670·q > 74·p, Series x = 100·s/(670·q - 74·p) to ground
abbrev pub cigre_laws : ℤ → ℤ → ℤ → List Law
cigre_laws s p q =
    series (impedance_of_rating p s) (cigre_series_reactance p s)
    ∷ law_where (int_lt (pos 74 *ℤ p) (pos 670 *ℤ q)) (series (whole (pos 0)) (cigre_parallel_reactance p q s))

-- parallel: where p > 0 Series r = s/p; where q > 0 Series x = s/q; to ground
abbrev pub resistance_laws : ℤ → ℤ → List Law
resistance_laws s p = law_where (int_lt (pos 0) p) (series (impedance_of_rating p s) (whole (pos 0)))

abbrev pub reactance_laws : ℤ → ℤ → List Law
reactance_laws s q = law_where (int_lt (pos 0) q) (series (whole (pos 0)) (impedance_of_rating q s))

abbrev pub parallel_laws : ℤ → ℤ → ℤ → List Law
parallel_laws s p q = resistance_laws s p ++ reactance_laws s q

-- series: Series r, x to ground
abbrev pub load_laws : ℤ → ℤ → LoadModel → Option ℤ → Option ℤ → Option ℤ → Option ℤ → List Law
load_laws s v load_model.Cigre (Some p) (Some q) r x = cigre_laws s p q
load_laws s v load_model.Parallel (Some p) (Some q) r x = parallel_laws s p q
load_laws s v load_model.Series p q (Some r) (Some x) = series (impedance_per_unit r s v) (impedance_per_unit x s v) ∷ []
load_laws s v _ _ _ _ _ = []

-- in the zero network the same where grounded, else open
unfoldable pub load_expansion : Study → Load → ℕ → Sequence → Expansion
load_expansion study e owner sequence =
    grounded_at e.bus (if is_present sequence e.grounded e.phase then load_laws study.mva (kv_of study.buses e.bus) e.model e.p e.q e.r e.x else []) owner

-- the same at a node, where its powers are as written or three times that
abbrev pub load_port : Study → Load → Option Phase → Port
load_port study e phase = record { capacitor = None; laws = load_laws study.mva (kv_of study.buses e.bus) e.model (option_map (power_in phase) e.p) (option_map (power_in phase) e.q) e.r e.x }

-- in the network of three phases
unfoldable pub load_phases : Study → Load → ℕ → ℕ → Expansion
load_phases study e owner next = at_phases (load_port study e e.phase) e.grounded e.phase e.bus next owner
