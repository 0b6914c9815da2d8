-- Sources as branches: Series r, x to ground; in the zero network Series r0, x0 to ground where given, else open.
use Rattle.std.specs.Prelude.{ℕ, ℤ, false, List, [], ◌∷◌, Option, Some, None}
use Rattle.network_theory.specs.Branch.{Law, Coupling}
use Rattle.study_model.specs.declared.words.Sequence.{Sequence}
use Rattle.study_model.specs.declared.words.Sequence.TheVariants.{Positive, Zero}
use Rattle.study_model.specs.declared.records.Source.{Source}
use Rattle.study_model.specs.declared.records.Study.{Study}
use Rattle.study_model.specs.Voltages.{kv_of}
use Rattle.element_parts.specs.PerUnit.{impedance_per_unit}
use Rattle.element_parts.specs.Expansion.{Expansion, grounded_at, skin_series}
use Rattle.element_parts.specs.Phases.{first_node, group_to_ground, coupling_share}
use Rattle.load_filter_model.specs.Ports.{single, at_phases}

-- its impedance, with its skin coefficients
abbrev pub source_series : Study → Source → ℤ → ℤ → Law
source_series study e r x =
    let v = kv_of study.buses e.bus in
    skin_series (impedance_per_unit r study.mva v) e.skin_k e.skin_m (impedance_per_unit x study.mva v)

-- the law of its branch in a network, none where it is open
abbrev pub source_laws : Study → Source → Sequence → Option ℤ → Option ℤ → List Law
source_laws study e Positive r0 x0 = source_series study e e.r e.x ∷ []
source_laws study e Zero (Some r0) (Some x0) = source_series study e r0 x0 ∷ []
source_laws study e Zero _ _ = []

unfoldable pub source_expansion : Study → Source → ℕ → Sequence → Expansion
source_expansion study e owner sequence = grounded_at e.bus (source_laws study e sequence e.r0 e.x0) owner

-- three coupled phases, of ohms in both sequences
abbrev pub source_coupling : Study → Source → ℤ → ℤ → Coupling
source_coupling study e r0 x0 = coupling_share (record { r = e.r; x = e.x; r0 = r0; x0 = x0 }) e.skin_k e.skin_m study.mva (kv_of study.buses e.bus) 1

-- in the network of three phases where r0 is given a group of three, each to ground; else three Series r, x to one neutral, an inner node
abbrev pub source_in_phases : Study → Source → ℕ → ℕ → ℕ → Option ℤ → Option ℤ → Expansion
source_in_phases study e owner group next (Some r0) (Some x0) = record { inner = 0; branches = group_to_ground (first_node e.bus) (source_coupling study e r0 x0) group owner }
source_in_phases study e owner group next _ _ = at_phases (single (source_series study e e.r e.x)) false None e.bus next owner

-- its group has the number `group`
unfoldable pub source_phases : Study → Source → ℕ → ℕ → ℕ → Expansion
source_phases study e owner group next = source_in_phases study e owner group next e.r0 e.x0
