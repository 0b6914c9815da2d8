-- Transformers in the network of three phases: three branches of the leakage impedance, each with a winding of either side.
use Rattle.std.specs.Prelude.{ℕ, ◌+◌, ◌*◌, ◌^◌, ℤ, pos, negsuc, ◌*ℤ◌, unsigned_abs, int_lt, ◌||◌, List, [], ◌∷◌, ◌++◌, map, Option, Some, None}
use Rattle.exact_algebra.specs.Ratio.{Ratio, over}
use Rattle.network_theory.specs.Branch.{Tap, Law, Branch}
use Rattle.study_model.specs.declared.words.Connection.{Connection}
use Rattle.study_model.specs.declared.words.Connection.TheVariants.{Grounded, Star, Delta}
use Rattle.study_model.specs.declared.records.Transformer.{Transformer}
use Rattle.study_model.specs.declared.records.Study.{Study}
use Rattle.study_model.specs.Voltages.{kv_of}
use Rattle.element_parts.specs.PerUnit.{impedance_per_unit}
use Rattle.element_parts.specs.Expansion.{Expansion, to_ground, skin_series, law_where}
use Rattle.element_parts.specs.Phases.{first_node, next_phase, in_phases}
use Rattle.transformer_model.specs.Transformers.{leakage}
use Rattle.transformer_model.specs.declared.winding.FarEnd.{FarEnd}
use Rattle.transformer_model.specs.declared.winding.FarEnd.TheVariants.{Ground as AtGround, Neutral, NextPhase}

-- the tap at the far end of a winding in a phase, where it isn't at ground; `node` is the first node of the winding's bus
abbrev pub far_tap : ℕ → Ratio → FarEnd → ℕ → Option Tap
far_tap node opposite AtGround p = None
far_tap node opposite (Neutral n) p = Some (record { node = n; ratio = opposite })
far_tap node opposite NextPhase p = Some (record { node = node + next_phase p; ratio = opposite })

abbrev pub tap_list : Option Tap → List Tap
tap_list None = []
tap_list (Some tap) = tap ∷ []

-- the taps of a winding in a phase: the phase's node with the winding's ratio, and its far end with the opposite ratio
abbrev pub winding_taps : ℕ → Ratio → Ratio → FarEnd → ℕ → List Tap
winding_taps node ratio opposite end p = record { node = node + p; ratio = ratio } ∷ tap_list (far_tap node opposite end p)

-- a ratio n/d, over root 3 in a delta
abbrev pub winding_ratio : Connection → ℤ → ℕ → ℤ → Ratio
winding_ratio Grounded n d root3 = over n d
winding_ratio Star n d root3 = over n d
winding_ratio Delta n d root3 = over (n *ℤ pos (10 ^ 6)) (unsigned_abs root3 * d)

-- the from winding has the ratio 1/t, which is 10^6/t in millionths, the to winding -1; here with another numerator too, for the opposite ratios
abbrev pub from_ratio : Study → Transformer → ℤ → Ratio
from_ratio study e n = winding_ratio e.from_conn n (unsigned_abs e.ratio) study.root3

abbrev pub to_ratio : Study → Transformer → ℤ → Ratio
to_ratio study e n = winding_ratio e.to_conn n 1 study.root3

abbrev pub from_taps : Study → Transformer → FarEnd → ℕ → List Tap
from_taps study e end p = winding_taps (first_node e.from) (from_ratio study e (pos 1000000)) (from_ratio study e (negsuc 999999)) end p

abbrev pub to_taps : Study → Transformer → FarEnd → ℕ → List Tap
to_taps study e end p = winding_taps (first_node e.to) (to_ratio study e (negsuc 0)) (to_ratio study e (pos 1)) end p

-- the impedance of a neutral at a bus, where it isn't 0: Series rn, xn
abbrev pub phase_neutral : Study → Transformer → ℕ → ℤ → ℤ → List Law
phase_neutral study e bus rn xn =
    let v = kv_of study.buses bus in
    law_where (int_lt (pos 0) rn || int_lt (pos 0) xn) (skin_series (impedance_per_unit rn study.mva v) e.skin_k e.skin_m (impedance_per_unit xn study.mva v))

-- a side: how many inner nodes it adds, the far end of its windings, and the law from its neutral to ground where there is one
pub record Side : Type 0 where
  pub inner : ℕ
  pub end : FarEnd
  pub laws : List Law

-- by its connection, where its neutral has the number `next`
abbrev pub side_of : Connection → ℕ → List Law → Side
side_of Grounded next [] = record { inner = 0; end = AtGround; laws = [] }
side_of Grounded next (law ∷ laws) = record { inner = 1; end = Neutral next; laws = law ∷ [] }
side_of Star next laws = record { inner = 1; end = Neutral next; laws = [] }
side_of Delta next laws = record { inner = 0; end = NextPhase; laws = [] }

-- a star beside another star: the current of a phase enters one winding and leaves the other, so their neutrals are one node, the other side's
abbrev pub beside_star : Side
beside_star = record { inner = 0; end = AtGround; laws = [] }

-- the branch of a phase
abbrev pub winding_branch : Study → Transformer → FarEnd → FarEnd → ℕ → ℕ → Branch
winding_branch study e from to owner p = record { taps = from_taps study e from p ++ to_taps study e to p; law = leakage study e; group = 0; owner = owner }

-- the three branches, then those of the neutrals
abbrev pub between_sides : Study → Transformer → ℕ → ℕ → Side → Side → Expansion
between_sides study e owner next from to = record {
  inner = from.inner + to.inner;
  branches = in_phases (λ p. winding_branch study e from.end to.end owner p ∷ [])
      ++ (map (λ law. to_ground next law owner) from.laws ++ map (λ law. to_ground (next + from.inner) law owner) to.laws);
}

-- the from side by the connections of both
abbrev pub from_side : Connection → Connection → ℕ → List Law → Side
from_side Star Star next laws = beside_star
from_side from to next laws = side_of from next laws

unfoldable pub transformer_phases : Study → Transformer → ℕ → ℕ → Expansion
transformer_phases study e owner next =
    let from = from_side e.from_conn e.to_conn next (phase_neutral study e e.from e.from_rn e.from_xn) in
    between_sides study e owner next from (side_of e.to_conn (next + from.inner) (phase_neutral study e e.to e.to_rn e.to_xn))
