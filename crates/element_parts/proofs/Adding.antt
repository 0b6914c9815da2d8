-- What a call needs that adds an element.
use Rattle.std.proofs.Common.{◌≡◌, ℕ, ◌+◌, ◌≤◌, Result, Ok, Err, subst, sym, arith}
use Rattle.std.specs.Prelude.{IfOk}
use Rattle.std.specs.declared.alloc.AllocError.{AllocError}
use Rattle.net_branch.specs.Whole.{IsWholeNetwork}
use Rattle.net_branch.specs.declared.network.Network.{Network}
use Rattle.element_parts.specs.declared.element.Parts.{Parts}
use Rattle.element_parts.specs.Expansion.{Expansion}
use Rattle.element_parts.specs.Parts.{exact_parts}
use Rattle.element_parts.specs.Plain.{ArePlain}
use Rattle.element_parts.proofs.Sound.{IsSound, all_plain}

-- a network's nodes are its buses and more
pub room : (network : Network) (buses : ℕ) → IsWholeNetwork network → network.buses ≡ buses → buses ≤ network.nodes
room network buses h e = omega (arith, h.exact.buses, e)

-- what is built of a sound element is uncoupled
pub plain_parts : (parts : Result Parts AllocError) (next owner : ℕ) (e : Expansion) → IfOk parts (λ p. exact_parts p ≡ e) → IsSound next owner e
    → IfOk parts (λ p. ArePlain (next + p.inner) (exact_parts p).branches)
plain_parts (Ok p) next owner e h s = all_plain (next + p.inner) owner (exact_parts p).branches (subst (IsSound next owner) (sym h) s)
plain_parts (Err f) next owner e h s = tt
