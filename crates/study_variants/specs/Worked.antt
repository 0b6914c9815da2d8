-- A bank at a node of a small network, worked by hand at scale 40 and order 1: as it is computed here, and from scratch.
use Rattle.std.specs.Prelude.{◌≡◌, ℕ, ℤ, pos, negsuc, ◌*ℤ◌, [], ◌∷◌, Option, Some, None}
use Rattle.exact_algebra.specs.Ratio.{whole, over}
use Rattle.complex_interval.specs.Rectangles.{Rectangle}
use Rattle.network_theory.specs.Branch.{Shunt, Branch}
use Rattle.network_theory.specs.Extra.{with_shunt}
use Rattle.network_theory.specs.Network.{Network}
use Rattle.admittance_box.specs.Exact.{zero_ends}
use Rattle.band_subdivision.specs.PairTest.{pair_value}
use Rattle.band_subdivision.specs.ScanSpec.{nothing}
use Rattle.band_subdivision.specs.declared.scan_spec.ScanSpec.{ScanSpec}
use Rattle.study_variants.specs.Scratch.{SumsInRange}
use Rattle.study_variants.specs.Sizes.{Sizing}

-- a susceptance to ground at a node
abbrev pub to_ground : ℕ → ℤ → Branch
to_ground node b = record { taps = record { node = node; ratio = whole (pos 1) } ∷ []; law = Shunt (whole b); group = 0; owner = 1 }

-- one of 1 between the nodes 0 and 1
abbrev pub between_nodes : Branch
between_nodes = record { taps = record { node = 0; ratio = whole (pos 1) } ∷ record { node = 1; ratio = whole (negsuc 0) } ∷ []; law = Shunt (whole (pos 1)); group = 0; owner = 2 }

-- a susceptance of 1 to ground at node 0, one of 1 between the nodes, and one more to ground at node 1, which is driven
abbrev pub of_two : ℤ → Network
of_two b = record { buses = 2; nodes = 2; branches = to_ground 0 (pos 1) ∷ between_nodes ∷ to_ground 1 b ∷ [] }

-- the admittance of node 1 with a bank of so many halves there, as it is computed here
abbrev pub with_bank_last : ℤ → ℤ → Option Rectangle
with_bank_last b halves = pair_value 40 (of_two b) (of_two b) (0 ∷ 1 ∷ []) (over halves 2) 1000000 1000000

-- and from scratch
abbrev pub with_bank_first : ℤ → ℤ → Option Rectangle
with_bank_first b halves = pair_value 40 (with_shunt (of_two b) 1 (over halves 2)) (with_shunt (of_two b) 1 (over halves 2)) (0 ∷ 1 ∷ []) nothing 1000000 1000000

-- this network with a size whose susceptance is 1/2, whatever else is asked
abbrev pub with_half : ScanSpec → ℤ → Sizing
with_half spec b = record { spec = record spec { mva = pos 2 }; network = of_two b; driven = 1; ordering = 0 ∷ 1 ∷ []; sizes = pos 1 ∷ []; given = 0 }

-- a susceptance of so many halves, with no error
abbrev pub exactly : ℤ → Option Rectangle
exactly n = Some (record { re = zero_ends; im = record { low = n *ℤ pos 549755813888; high = n *ℤ pos 549755813888 } })

pub record WorkedBanks : Type 0 where
  -- 3 + 1 - 1·1/2 and a bank of 1/2 on top: 4, in both ways
  pub last : with_bank_last (pos 3) (pos 1) ≡ exactly (pos 8)
  pub first : with_bank_first (pos 3) (pos 1) ≡ exactly (pos 8)
  -- at the end of the range, which is 2^22: 2^22 - 1/2 and 1/2 on top is still in it
  pub in_range : with_bank_last (pos 4194303) (pos 1) ≡ exactly (pos 8388608)
  -- but 2^22 + 1/2, from which 1/2 would be taken away, is not
  pub out_of_range : with_bank_first (pos 4194303) (pos 1) ≡ None
  -- so no sum of the first is out of range, and one of the second is
  pub fits : (spec : ScanSpec) → SumsInRange 40 (with_half spec (pos 3)) (pos 1) 1000000 1000000
  pub too_great : (spec : ScanSpec) → ¬ SumsInRange 40 (with_half spec (pos 4194303)) (pos 1) 1000000 1000000
