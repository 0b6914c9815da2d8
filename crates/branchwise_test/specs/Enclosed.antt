-- The driving-point impedance of a pair of networks over a box of orders: an estimate, and how far the exact one lies from it at most. All sums go in ascending order.
use Rattle.std.specs.Prelude.{ℕ, ◌+◌, ◌-◌, ◌*◌, ◌^◌, List, [], ◌∷◌, length, slice_get, nat_le, Option, Some, None, Result, Ok, Err, if◌then◌else◌}
use Rattle.exact_algebra.specs.Ratio.{Ratio}
use Rattle.complex_interval.specs.Ends.{Ends}
use Rattle.complex_interval.specs.Rectangles.{Rectangle, add_rectangles, sub_rectangles, mul_rectangles}
use Rattle.network_theory.specs.Network.{Network}
use Rattle.plain_elimination.specs.Matrix.{nought_rectangle}
use Rattle.middle_inverse.specs.Inverse.{middle_inverse}
use Rattle.middle_inverse.specs.declared.fault.InverseFault.{InverseFault}
use Rattle.middle_inverse.specs.declared.fault.InverseFault.TheVariants.{NoInverse as NoPivot, OutOfRange as NoValue}
use Rattle.certified_inverse.specs.Certificate.{in_size, ceil_over}
use Rattle.middle_inverse.specs.Lists.{each}
use Rattle.admittance_box.specs.BoxMatrix.{nought_rows}
use Rattle.admittance_box.specs.Orders.{order_ends}
use Rattle.admittance_box.specs.Steps.{◌>>=◌}
use Rattle.branchwise_test.specs.declared.fault.BranchwiseFault.{BranchwiseFault}
use Rattle.branchwise_test.specs.declared.fault.BranchwiseFault.TheVariants.{NoInverse, NotContracting, OutOfRange}
use Rattle.branchwise_test.specs.Drops.{DropEnds, LiveBranch, node_drops, live_branches, with_extra_branch, with_branches, with_middles}
use Rattle.branchwise_test.specs.Sizes.{drop_over, all_voltages, kept_size, bounds_of}
use Rattle.branchwise_test.specs.Reach.{Contraction, contraction}

-- f of the value, if there is one
abbrev pub valued : {X Y : Type 0} → Option X → (X → Result Y BranchwiseFault) → Result Y BranchwiseFault
valued None f = Err OutOfRange
valued (Some x) f = f x

-- an estimate, and a bound of the distance from it, in the sum of the sizes of both parts and in units of 1/2^s
pub record Near : Type 0 where
  pub estimate : Rectangle
  pub error : ℕ

-- the first value, or the second where there is none
abbrev pub or_else : Option Rectangle → Option Rectangle → Option Rectangle
or_else (Some a) o = Some a
or_else None o = o

-- (K·X)·D
abbrev pub moved_first : ℕ → Rectangle → Rectangle → Rectangle → Option Rectangle
moved_first s k x d = mul_rectangles s k x >>= (λ kx. mul_rectangles s kx d)

-- K·(X·D)
abbrev pub moved_last : ℕ → Rectangle → Rectangle → Rectangle → Option Rectangle
moved_last s k x d = mul_rectangles s x d >>= (λ xd. mul_rectangles s k xd)

-- the first of these, or the second where that has no value
unfoldable pub moved : ℕ → Rectangle → Rectangle → Rectangle → Option Rectangle
moved s k x d = or_else (moved_first s k x d) (moved_last s k x d)

-- the sum, and on top of it this product for a drop: its current's voltage at the driven node, the drop at the driven node's column, and its rest
abbrev pub with_term : ℕ → ℕ → Rectangle → DropEnds → List Rectangle → Rectangle → Option Rectangle
with_term s k sum d v x = do
  voltage ← slice_get v k
  term ← moved s voltage x d.rest
  add_rectangles sum term

-- so for each drop
abbrev pub correction : ℕ → ℕ → Rectangle → List DropEnds → List (List Rectangle) → List Rectangle → Option Rectangle
correction s k sum [] vs xs = Some sum
correction s k sum (d ∷ ds) [] xs = None
correction s k sum (d ∷ ds) (v ∷ vs) [] = None
correction s k sum (d ∷ ds) (v ∷ vs) (x ∷ xs) = with_term s k sum d v x >>= (λ more. correction s k more ds vs xs)

-- where the sizes contract: the driven node's own entry less the correction, and the error
abbrev pub near_by : ℕ → ℕ → List DropEnds → List (List Rectangle) → List Rectangle → List Rectangle → Contraction → Option Near
near_by s k drops vs column xs c = do
  error ← in_size (c.edge + ceil_over (c.last * 2 ^ s) (2 ^ s - c.theta))
  value ← slice_get column k
  sum ← correction s k nought_rectangle drops vs xs
  estimate ← sub_rectangles value sum
  Some (record { estimate = estimate; error = error })

-- theta is below 1
abbrev pub contracting : ℕ → ℕ → List DropEnds → List (List Rectangle) → List Rectangle → List Rectangle → Contraction → Result Near BranchwiseFault
contracting s k drops vs column xs c = if nat_le (2 ^ s) c.theta then Err (NotContracting c.theta) else valued (near_by s k drops vs column xs c) (λ near. Ok near)

-- what a matrix C makes of the drops: all voltages, those at the driven node's column, the drops at these, and what their sizes come to
pub record Found : Type 0 where
  pub voltages : List (List Rectangle)
  pub column : List Rectangle
  pub drops : List Rectangle
  pub contraction : Contraction

-- in the place of the inverse of the rows P, for the node at place k
abbrev pub found : ℕ → ℕ → List DropEnds → List (List Rectangle) → List (List Rectangle) → Option Found
found s k drops ps cs = do
  vs ← all_voltages s cs drops
  b ← bounds_of s drops ps cs vs
  column ← slice_get vs k
  xs ← each (λ d. drop_over s d.taps column) drops
  sizes ← each kept_size xs
  c ← contraction s k b drops sizes
  Some (record { voltages = vs; column = column; drops = xs; contraction = c })

-- the estimate by it
abbrev pub near_with : ℕ → ℕ → List DropEnds → List (List Rectangle) → List (List Rectangle) → Result Near BranchwiseFault
near_with s k drops ps cs = valued (found s k drops ps cs) (λ f. contracting s k drops f.voltages f.column f.drops f.contraction)

-- so with the stated inverse of P's middle in the place of C, if there is one
abbrev pub by_inverse : ℕ → ℕ → List DropEnds → List (List Rectangle) → Result (List (List Rectangle)) InverseFault → Result Near BranchwiseFault
by_inverse s k drops ps (Err (NoPivot column)) = Err (NoInverse column)
by_inverse s k drops ps (Err NoValue) = Err OutOfRange
by_inverse s k drops ps (Ok cs) = near_with s k drops ps cs

-- by the drops, of which the first n are those of nodes, the last of these driven
abbrev pub near_of_drops : ℕ → ℕ → List DropEnds → Result Near BranchwiseFault
near_of_drops s n drops = valued (with_middles s drops (nought_rows n)) (λ ps. by_inverse s (n - 1) drops ps (middle_inverse s ps))

-- by the drops of nodes alone and the live branches, over the orders of an interval
unfoldable pub near_of : ℕ → Ends → List DropEnds → List LiveBranch → Result Near BranchwiseFault
near_of s h nodes branches = valued (with_branches s h branches nodes) (near_of_drops s (length nodes))

-- by so many nodes, the last of them driven, and their live branches, if these have intervals: with an extra susceptance e there, over the orders from lo to hi, in micro-orders
abbrev pub near_of_branches : ℕ → ℕ → Option (List LiveBranch) → Ratio → ℕ → ℕ → Result Near BranchwiseFault
near_of_branches s count branches e lo hi =
    valued (node_drops s 0 count) (λ nodes. valued (branches >>= with_extra_branch s (count - 1) e) (near_of s (order_ends s lo hi) nodes))

-- of a pair of networks with the nodes in this ordering
unfoldable pub impedance_near_with : ℕ → Network → Network → List ℕ → Ratio → ℕ → ℕ → Result Near BranchwiseFault
impedance_near_with s low high ordering e lo hi = near_of_branches s (length ordering) (live_branches s ordering low.branches high.branches) e lo hi
