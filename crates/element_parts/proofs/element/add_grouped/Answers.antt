use Rattle.element_parts.specs.Grouped.{IsGroupedElement}
use Rattle.element_parts.specs.Parts.{exact_parts}
use Rattle.net_branch.specs.Exact.{exact_network}
use Rattle.element_parts.proofs.GroupedElements.{grouped_element}
use Rattle.element_parts.proofs.element.add_grouped.Goals as goal

pub append_element-requires-clause-element : goal.append_element-requires-clause-element
append_element-requires-clause-element c =
    let parts = c.in-Ok.built in
    let grouped : IsGroupedElement (exact_network c.args.network.now) (exact_parts parts) = rw c.in-Ok.is at c.requires.grouped in
    grouped_element c.args.network.now parts.inner parts.branches grouped
