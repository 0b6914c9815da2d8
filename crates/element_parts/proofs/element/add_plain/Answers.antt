use Rattle.std.proofs.Common.{◌+◌, map}
use Rattle.net_branch.specs.Exact.{exact_branch}
use Rattle.element_parts.specs.Plain.{ArePlain}
use Rattle.element_parts.proofs.PlainElements.{plain_element}
use Rattle.element_parts.proofs.element.add_plain.Goals as goal

pub append_element-requires-clause-element : goal.append_element-requires-clause-element
append_element-requires-clause-element c =
    let parts = c.in-Ok.parts in
    let plain : ArePlain (c.args.network.now.nodes + parts.inner) (map exact_branch parts.branches) = rw c.in-Ok.is at c.requires.plain in
    plain_element c.args.network.now parts.inner parts.branches plain
