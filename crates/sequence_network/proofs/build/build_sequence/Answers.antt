use Rattle.std.proofs.Common.{◌∙◌, ◌<◌, length, ap, arith}
use Rattle.std.proofs.lemmas.Result.{err_from_is_err_and}
use Rattle.network_theory.specs.Network.{Network}
use Rattle.net_branch.specs.declared.network.Network.{Network as BuiltNetwork}
use Rattle.study_model.specs.Elements.{elements_of}
use Rattle.sequence_network.specs.Networks.{added_to, network_of}
use Rattle.sequence_network.proofs.Branches.{network_small, network_uncoupled}
use Rattle.sequence_network.proofs.Growth.{start_of, next_of, one_more, passing_element, all_added, whole_fits}
use Rattle.sequence_network.proofs.Owners.{network_owned}
use Rattle.sequence_network.proofs.build.build_sequence.Goals as goal

pub loop-place-init : goal.loop-place-init
loop-place-init c = record {
  buses = ap (λ (n : BuiltNetwork). n.buses) c.in-Ok.ensures.made ∙ c.len-buses.ensures;
  whole = c.in-Ok.ensures.whole;
  to_come = start_of c.args.study.now c.args.sequence c.in-Ok.network c.len-buses.result c.in-Ok.ensures.made c.len-buses.ensures;
}

pub loop-place-preserved : goal.loop-place-preserved
loop-place-preserved c =
    let study = c.args.study.now in
    let within : c.loop-place.place < length (elements_of study) = omega (arith, c.loop-place-test.true, c.element_count-place-end.ensures.count) in
    let next = next_of (elements_of study) c.loop-place.place within in
    let added = c.in_ok-add_element.ensures next.element next.there in
    record {
      buses = ap (λ (n : Network). n.buses) added.appended ∙ c.loop-place.invariant.buses;
      whole = added.whole;
      to_come = one_more (added_to study c.args.sequence) (elements_of study) _ _ _ c.loop-place.place next added.appended c.loop-place.invariant.to_come;
    }

pub returns-in_err-add_element-clause-too_many : goal.returns-in_err-add_element-clause-too_many
returns-in_err-add_element-clause-too_many c =
    let p = err_from_is_err_and c.from_residual.result c.from_residual.ensures.1 in
    let study = c.args.study.now in
    let within : c.loop-place.place < length (elements_of study) = omega (arith, c.loop-place-test.true, c.element_count-place-end.ensures.count) in
    let next = next_of (elements_of study) c.loop-place.place within in
    let added = c.in_err-add_element.ensures next.element next.there in
    rw (p.1, p.2) (λ h. passing_element (added_to study c.args.sequence) (elements_of study) _ _ c.loop-place.place next (added.too_many h) c.loop-place.invariant.to_come)

pub returns-clause-network : goal.returns-clause-network
returns-clause-network c =
    let study = c.args.study.now in
    let exact = all_added (added_to study c.args.sequence) (elements_of study) _ _ c.loop-place.place (omega (arith, c.loop-place-test.false, c.element_count-place-end.ensures.count)) c.loop-place.invariant.to_come in
    record {
      exact = exact;
      whole = c.loop-place.invariant.whole;
      fits = whole_fits c.loop-place.network (network_of study c.args.sequence) c.loop-place.invariant.whole.limits exact;
      small = network_small study c.args.sequence c.requires;
      uncoupled = network_uncoupled study c.args.sequence c.requires;
      owners = network_owned study c.args.sequence c.requires;
    }
