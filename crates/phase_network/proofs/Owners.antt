-- Whose the branches of the network of three phases are.
use Rattle.std.proofs.Common.{◌≡◌, ◌+◌, ◌*◌, length, refl, arith}
use Rattle.net_branch.proofs.Wholes.{each_weaker}
use Rattle.study_model.specs.Lawful.{IsLawful}
use Rattle.study_model.specs.Elements.{StudyElement, elements_of}
use Rattle.study_model.specs.declared.records.Study.{Study}
use Rattle.element_parts.proofs.GroupedElements.{IsGroupSound}
use Rattle.sequence_network.specs.Networks.{IsLawfulElement}
use Rattle.sequence_network.specs.Owners.{OwnTheirBranches}
use Rattle.sequence_network.proofs.Branches.{elements_lawful}
use Rattle.sequence_network.proofs.Owners.{AddsItsOwn, grown_owned}
use Rattle.phase_network.specs.Phases.{next_group, phases_added, phase_buses, phase_network_of}
use Rattle.phase_network.proofs.Branches.{element_sound}

adds_its_own : (study : Study) → IsLawful study → (e : StudyElement) → IsLawfulElement study e → AddsItsOwn (phases_added study) (3 * length study.buses) e
adds_its_own study s e l n owner b =
    let x = phases_added study n e owner in
    each_weaker (IsGroupSound (n.nodes + x.inner) owner (next_group n.branches) (next_group n.branches + 64)) (λ o. o.owner ≡ owner) (λ o k. k.owner) x.branches (element_sound study n owner e s l b).each

pub network_owned : (study : Study) → IsLawful study → OwnTheirBranches (phases_added study) (phase_buses study) (elements_of study) (phase_network_of study)
unfolding phase_network_of
network_owned study s =
    grown_owned (phases_added study) (3 * length study.buses) (phase_buses study) (elements_of study)
    (each_weaker (IsLawfulElement study) (AddsItsOwn (phases_added study) (3 * length study.buses)) (adds_its_own study s) (elements_of study) (elements_lawful study s)) (omega arith) refl
