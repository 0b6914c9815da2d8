-- What a call answers that adds an element to a network.
use Rattle.std.specs.Prelude.{◌≡◌, ◌≢◌, IsTrue, IsFalse, Result, IfErr, OnOk, OnErr}
use Rattle.net_branch.specs.Exact.{exact_network}
use Rattle.net_branch.specs.Whole.{IsWholeNetwork}
use Rattle.net_branch.specs.declared.fault.AddFault.{AddFault}
use Rattle.net_branch.specs.declared.fault.AddFault.TheVariants.{NoMemory}
use Rattle.net_branch.specs.declared.network.Network.{Network}
use Rattle.element_parts.specs.Expansion.{Expansion, with_element, passes_limits}

-- Ok: the network has the element too, and is within the limits. TooMany: with the element it would pass them. A refusal leaves the
-- network as it was.
pub record Adds (before after : Network) (result : Result (Unit {0}) AddFault) (expansion : Expansion) : Type 0 where
  pub appended : OnOk result (exact_network after ≡ with_element (exact_network before) expansion)
  pub fits : OnOk result (IsFalse (passes_limits (with_element (exact_network before) expansion)))
  pub too_many : IfErr result (λ fault. fault ≢ NoMemory → IsTrue (passes_limits (with_element (exact_network before) expansion)))
  pub unchanged : OnErr result (after ≡ before)
  pub whole : IsWholeNetwork after
