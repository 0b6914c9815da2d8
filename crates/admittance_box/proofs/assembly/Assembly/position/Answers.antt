use Rattle.std.proofs.Common.{◌∙◌, ap}
use Rattle.net_branch.specs.Exact.{exact_network}
use Rattle.admittance_box.specs.Places.{place_of}
use Rattle.admittance_box.proofs.NodeOrderings.{lists_live}
use Rattle.admittance_box.proofs.PairPlaces.{place_live, place_is}
use Rattle.admittance_box.proofs.assembly.Assembly.position.Goals as goal

pub returns-clause-live : goal.returns-clause-live
returns-clause-live g c =
    let kept = c.self.invariant in
    let ordering = c.self.inside.ordering.items in
    let node = c.args.node.number in
    rw (← c.self.view_is)
    (place_live (exact_network c.self.inside.low) ordering node c.find_place.result (lists_live _ _ _ kept.whole kept.ready.driven_is_live kept.ready.ordered) (c.find_place.ensures ∙ ap (λ l. place_of l node) c.as_slice.ensures.value))

pub returns-clause-place : goal.returns-clause-place
returns-clause-place g c =
    let ordering = c.self.inside.ordering.items in
    let node = c.args.node.number in
    rw (← c.self.view_is) (place_is ordering node c.find_place.result (c.find_place.ensures ∙ ap (λ l. place_of l node) c.as_slice.ensures.value))
