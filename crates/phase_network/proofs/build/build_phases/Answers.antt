use Rattle.std.proofs.Common.{◌≡◌, ℕ, ◌*◌, ◌∙◌, ◌<◌, length, ap, arith}
use Rattle.std.proofs.lemmas.Result.{err_from_is_err_and}
use Rattle.network_theory.specs.Network.{Network}
use Rattle.net_branch.specs.declared.network.Network.{Network as BuiltNetwork}
use Rattle.study_model.specs.Elements.{elements_of}
use Rattle.element_parts.proofs.Adding.{room}
use Rattle.sequence_network.proofs.Growth.{next_of, one_more, passing_element, all_added, whole_fits}
use Rattle.phase_network.specs.Phases.{phases_added, phase_network_of}
use Rattle.phase_network.proofs.Branches.{network_small, groups_more, groups_fit, start_of, no_groups}
use Rattle.phase_network.proofs.Owners.{network_owned}
use Rattle.phase_network.proofs.build.build_phases.Goals as goal

pub loop-place-init : goal.loop-place-init
loop-place-init c =
    let buses : 3 * c.len-buses.result ≡ 3 * length c.args.study.now.buses = ap (λ (n : ℕ). 3 * n) c.len-buses.ensures in
    record {
      buses = ap (λ (n : BuiltNetwork). n.buses) c.in-Ok.ensures.made ∙ buses;
      whole = c.in-Ok.ensures.whole;
      groups = no_groups c.in-Ok.network (3 * c.len-buses.result) c.in-Ok.ensures.made;
      to_come = start_of c.args.study.now c.in-Ok.network (3 * c.len-buses.result) c.in-Ok.ensures.made buses;
    }

pub add_element-requires-clause-groups : goal.add_element-requires-clause-groups
add_element-requires-clause-groups c = groups_fit c.loop-place.place c.loop-place.network.branches (omega arith) c.loop-place.invariant.groups

pub loop-place-preserved : goal.loop-place-preserved
loop-place-preserved c =
    let study = c.args.study.now in
    let within : c.loop-place.place < length (elements_of study) = omega (arith, c.loop-place-test.true, c.element_count-place-end.ensures.count) in
    let next = next_of (elements_of study) c.loop-place.place within in
    let added = c.in_ok-add_element.ensures next.element next.there in
    record {
      buses = ap (λ (n : Network). n.buses) added.appended ∙ c.loop-place.invariant.buses;
      whole = added.whole;
      groups = groups_more study c.requires _ _ c.loop-place.place next.element next.there (room _ _ c.loop-place.invariant.whole c.loop-place.invariant.buses) added.appended c.loop-place.invariant.groups;
      to_come = one_more (phases_added study) (elements_of study) _ _ _ c.loop-place.place next added.appended c.loop-place.invariant.to_come;
    }

pub returns-in_err-add_element-clause-too_many : goal.returns-in_err-add_element-clause-too_many
returns-in_err-add_element-clause-too_many c =
    let p = err_from_is_err_and c.from_residual.result c.from_residual.ensures.1 in
    let study = c.args.study.now in
    let within : c.loop-place.place < length (elements_of study) = omega (arith, c.loop-place-test.true, c.element_count-place-end.ensures.count) in
    let next = next_of (elements_of study) c.loop-place.place within in
    let added = c.in_err-add_element.ensures next.element next.there in
    rw (p.1, p.2) (λ h. passing_element (phases_added study) (elements_of study) _ _ c.loop-place.place next (added.too_many h) c.loop-place.invariant.to_come)

pub returns-clause-network : goal.returns-clause-network
returns-clause-network c =
    let study = c.args.study.now in
    let exact = all_added (phases_added study) (elements_of study) _ _ c.loop-place.place (omega (arith, c.loop-place-test.false, c.element_count-place-end.ensures.count)) c.loop-place.invariant.to_come in
    record {
      exact = exact;
      buses = c.loop-place.invariant.buses;
      whole = c.loop-place.invariant.whole;
      fits = whole_fits c.loop-place.network (phase_network_of study) c.loop-place.invariant.whole.limits exact;
      small = network_small study c.requires;
      owners = network_owned study c.requires;
    }
