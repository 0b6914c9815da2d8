-- How far drops of given sizes reach, in whole numbers in units of 1/2^s. Each number that is kept is at most 2^62.
use Rattle.std.specs.Prelude.{ℕ, ◌+◌, ◌*◌, ◌/◌, ◌^◌, List, [], ◌∷◌, slice_get, max, Option, Some}
use Rattle.complex_interval.specs.Ends.{mag_of}
use Rattle.middle_inverse.specs.Lists.{each, each_two, greatest}
use Rattle.certified_inverse.specs.Certificate.{in_size, ceil_over}
use Rattle.admittance_box.specs.Addends.{PlacedTap}
use Rattle.admittance_box.specs.Steps.{◌>>=◌}
use Rattle.branchwise_test.specs.Drops.{DropEnds}
use Rattle.branchwise_test.specs.Sizes.{Bounds}

-- the sum, and on top of it e·v/2^s rounded up
abbrev pub add_up : ℕ → ℕ → ℕ → ℕ → Option ℕ
add_up s sum e v = in_size (sum + ceil_over (e * v) (2 ^ s))

-- so for each two numbers, up to the end of the shorter list. No part of a sum is greater than the sum, so it counts for nothing that the parts are kept too.
abbrev pub products_from : ℕ → ℕ → List ℕ → List ℕ → Option ℕ
products_from s sum [] vs = Some sum
products_from s sum (e ∷ es) [] = Some sum
products_from s sum (e ∷ es) (v ∷ vs) = add_up s sum e v >>= (λ more. products_from s more es vs)

-- so for a tap: the greatest size of the ratio, and the number at the tap's place
abbrev pub with_edge : ℕ → ℕ → PlacedTap → List ℕ → Option ℕ
with_edge s sum t ns = slice_get ns t.place >>= add_up s sum (mag_of t.ratio)

-- and for each tap
abbrev pub edge_from : ℕ → ℕ → List PlacedTap → List ℕ → Option ℕ
edge_from s sum [] ns = Some sum
edge_from s sum (t ∷ taps) ns = with_edge s sum t ns >>= (λ more. edge_from s more taps ns)

-- what sizes of drops reach: what (unit - C·P) makes of them at each drop alone, and with what the rests add
pub record Reached : Type 0 where
  pub edges : List ℕ
  pub all : List ℕ

-- where the first sizes are those of the nodes
abbrev pub reach : ℕ → Bounds → List DropEnds → List ℕ → Option Reached
reach s b drops vs = do
  nodes ← each (λ row. products_from s 0 row vs) b.left
  edges ← each (λ d. edge_from s 0 d.taps nodes) drops
  far ← each_two (add_up s 0) b.rests vs
  all ← each_two (λ edge row. products_from s edge row far) edges b.transfers
  Some (record { edges = edges; all = all })

-- weights above what is reached: by the greatest of it over 2^20, rounded down, and by 65536
abbrev pub weights_over : List ℕ → Option (List ℕ)
weights_over ss = each (λ n. in_size (n + greatest ss / 2 ^ 20 + 65536)) ss

-- the greatest of t·2^s/w, each rounded up
abbrev pub theta_over : ℕ → List ℕ → List ℕ → ℕ
theta_over s [] ws = 0
theta_over s (t ∷ ts) [] = 0
theta_over s (t ∷ ts) (w ∷ ws) = max (ceil_over (t * 2 ^ s) w) (theta_over s ts ws)

-- what the sizes of the driven node's column come to: the greatest part of a weight that the weights reach, what (unit - C·P) makes of the column at the driven node, and what the weights reach there
pub record Contraction : Type 0 where
  pub theta : ℕ
  pub edge : ℕ
  pub last : ℕ

abbrev pub contraction : ℕ → ℕ → Bounds → List DropEnds → List ℕ → Option Contraction
contraction s k b drops xs = do
  first ← reach s b drops xs
  weights ← weights_over first.all
  second ← reach s b drops weights
  theta ← in_size (theta_over s second.all weights)
  edge ← slice_get first.edges k
  last ← slice_get second.all k
  Some (record { theta = theta; edge = edge; last = last })
