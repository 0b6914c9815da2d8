-- What is built of an element, as the element that it is.
use Rattle.std.specs.Prelude.{map}
use Rattle.net_branch.specs.Exact.{exact_branch}
use Rattle.element_parts.specs.Expansion.{Expansion}
use Rattle.element_parts.specs.declared.element.Parts.{Parts}

abbrev pub exact_parts : Parts → Expansion
exact_parts p = record { inner = p.inner; branches = map exact_branch p.branches }
