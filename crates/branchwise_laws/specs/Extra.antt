-- One more shunt at the driven node, for the theorem.
use Rattle.std.specs.Prelude.{ℕ, ◌↔◌, List, [], ◌∷◌, ◌++◌}
use Rattle.exact_algebra.specs.Ratio.{Ratio}
use Rattle.network_theory.specs.Order.{Order}
use Rattle.network_theory.specs.Network.{Network}
use Rattle.network_theory.specs.Live.{Live}
use Rattle.network_theory.specs.Impedance.{shunt_admittance}
use Rattle.network_theory.specs.Admittance.{Part, Alone, HasAdmittances}
use Rattle.network_theory.specs.Nodal.{ListsLive}
use Rattle.network_theory.specs.Extra.{shunt_at, with_shunt}

-- the parts with the shunt after all others
abbrev pub with_shunt_part : List Part → Order → ℕ → Ratio → List Part
with_shunt_part parts h k e = parts ++ Alone (shunt_at k e) (shunt_admittance e h) ∷ []

-- of the network with a shunt at a live node: its parts, and the same live nodes
pub record SameWithShunt (network : Network) (h : Order) (parts : List Part) (order : List ℕ) (k : ℕ) (e : Ratio) : Type 0 where
  pub admitted : HasAdmittances (with_shunt network k e) h (with_shunt_part parts h k e)
  pub listed : ListsLive (with_shunt network k e) order
  pub live : (n : ℕ) → Live network n ↔ Live (with_shunt network k e) n

abbrev pub ShuntAdmitted : Type 0
ShuntAdmitted = (network : Network) (h : Order) (parts : List Part) (order : List ℕ) (k : ℕ) (e : Ratio) → HasAdmittances network h parts → ListsLive network order → Live network k → SameWithShunt network h parts order k e
