-- Networks with one more shunt.
use Rattle.std.specs.Prelude.{ℕ, pos, int_lt, [], ◌∷◌, ◌++◌, if◌then◌else◌}
use Rattle.exact_algebra.specs.Ratio.{Ratio, whole}
use Rattle.exact_algebra.specs.Complex.{Complex, complex_numbers}
use Rattle.network_theory.specs.Order.{Order}
use Rattle.network_theory.specs.Branch.{Shunt, Branch}
use Rattle.network_theory.specs.Network.{Network}
use Rattle.network_theory.specs.Impedance.{shunt_admittance}
use Rattle.network_theory.specs.Reduced.{IsReducedTo}

-- a Shunt of susceptance e from node k to ground
abbrev pub shunt_at : ℕ → Ratio → Branch
shunt_at k e = record { taps = record { node = k; ratio = whole (pos 1) } ∷ []; law = Shunt e; group = 0; owner = 0 }

-- the network with this branch as its last
abbrev pub with_shunt : Network → ℕ → Ratio → Network
with_shunt network k e = record network { branches = network.branches ++ shunt_at k e ∷ [] }

-- a network that is scanned with an extra susceptance: it has one more Shunt of it from the driven node to ground, where it is above 0
abbrev pub scanned_network : Network → ℕ → Ratio → Network
scanned_network network driven e = if int_lt (pos 0) e.num then with_shunt network driven e else network

-- a shunt at the driven node adds jhe to the reduced value
abbrev pub ExtraShunt : Type 0
ExtraShunt = (network : Network) (h : Order) (k : ℕ) (y : Complex) (e : Ratio) → IsReducedTo network h k y → IsReducedTo (with_shunt network k e) h k (complex_numbers.◌⊕◌ y (shunt_admittance e h))
