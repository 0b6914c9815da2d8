-- The network of three phases of a lawful study is whole.
use Rattle.std.proofs.Common.{◌≢◌, ℕ, ◌+◌, ◌*◌, ◌≤◌, ◌<◌, List, [], ◌∷◌, length, arith}
use Rattle.std.specs.List.{AllByRecursion}
use Rattle.network_theory.specs.Network.{Network, IsWhole, done}
use Rattle.net_branch.proofs.Wholes.{each_append, each_weaker, grouped_append}
use Rattle.study_model.specs.Lawful.{IsLawful}
use Rattle.study_model.specs.Elements.{StudyElement, elements_of}
use Rattle.study_model.specs.declared.records.Study.{Study}
use Rattle.element_parts.specs.Expansion.{Expansion, with_element}
use Rattle.element_parts.proofs.GroupedElements.{IsGroupSound, AreGroupSound}
use Rattle.sequence_network.specs.Networks.{IsLawfulElement, grown}
use Rattle.sequence_network.proofs.Branches.{elements_lawful}
use Rattle.phase_network.specs.Phases.{next_group, phases_added, phase_buses, phase_network_of}
use Rattle.phase_network.specs.Built.{PhasesAreWhole}
use Rattle.phase_network.proofs.Groups.{groups_below}
use Rattle.phase_network.proofs.Branches.{element_sound}

-- an element of groups of the next numbers keeps a network whole
one_element : (n : Network) (x : Expansion) (owner last : ℕ) → IsWhole n → AreGroupSound (n.nodes + x.inner) owner (next_group n.branches) last x.branches → IsWhole (with_element n x)
one_element n x owner last w s =
    let nodes = n.nodes + x.inner in
    let first = next_group n.branches in
    let sound = IsGroupSound nodes owner first last in
    record {
      buses = omega (arith, w.buses);
      taps = each_append (λ b. AllByRecursion (λ t. t.node < nodes) b.taps) n.branches x.branches
          (each_weaker (λ b. AllByRecursion (λ t. t.node < n.nodes) b.taps) (λ b. AllByRecursion (λ t. t.node < nodes) b.taps) (λ b h. each_weaker (λ t. t.node < n.nodes) (λ t. t.node < nodes) (λ t k. omega (arith, k)) b.taps h) n.branches w.taps)
          (each_weaker sound (λ b. AllByRecursion (λ t. t.node < nodes) b.taps) (λ b h. h.taps) x.branches s.each);
      groups = grouped_append n.branches x.branches w.groups s.groups
          (each_weaker sound (λ y. y.group ≢ 0 → AllByRecursion (λ o. o.group ≢ y.group) n.branches)
          (λ y h d. each_weaker (λ o. o.group < first) (λ o. o.group ≢ y.group) (λ o k q. omega (arith, k, h.first d, q)) n.branches (groups_below n.branches)) x.branches s.each);
    }

with_whole : (study : Study) → IsLawful study → (n : Network) (owner : ℕ) (es : List StudyElement) → AllByRecursion (IsLawfulElement study) es → 3 * length study.buses ≤ n.nodes → IsWhole n
    → IsWhole (grown (phases_added study) n owner es)
with_whole study s n owner [] h b w = w
with_whole study s n owner (e ∷ es) h b w =
    let x = phases_added study n e owner in
    with_whole study s (with_element n x) (owner + 1) es h.1 (omega arith) (one_element n x owner (next_group n.branches + 64) w (element_sound study n owner e s h.0 b))

pub network_whole : PhasesAreWhole
unfolding phase_network_of
network_whole study s = with_whole study s (phase_buses study) 1 (elements_of study) (elements_lawful study s) (omega arith) (record { buses = omega arith; taps = tt; groups = done })
