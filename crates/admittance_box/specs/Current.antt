-- The terminal current of an element at a node over a box of orders, from the voltages of the nodes: c·(y·drop), summed over its branches and over their taps at the node; in a group y·drop is the sum over its three branches.
use Rattle.std.specs.Prelude.{ℕ, zero, suc, Bool, ◌&&◌, ◌||◌, ◌==◌, List, [], ◌∷◌, Option, Some, None, slice_get, if◌then◌else◌}
use Rattle.complex_interval.specs.Ends.{Ends, range_ends}
use Rattle.complex_interval.specs.Rectangles.{Rectangle, add_rectangles, mul_rectangles, scale_rectangle}
use Rattle.network_theory.specs.Branch.{Tap, Branch}
use Rattle.network_theory.specs.Network.{Network}
use Rattle.network_theory.specs.Reach.{has_in}
use Rattle.plain_elimination.specs.Matrix.{nought_rectangle}
use Rattle.admittance_box.specs.Addends.{tap_between, law_between, has_place, place_in_group}
use Rattle.admittance_box.specs.BoxMatrix.{law_rectangle}
use Rattle.admittance_box.specs.Coupling.{Columns, law_coupling, coupling_columns}
use Rattle.admittance_box.specs.Orders.{order_ends}
use Rattle.admittance_box.specs.Steps.{◌>>=◌}

-- a sum that each item of one list, with that of another at its place, takes further, in order
abbrev pub fold_pairs : {S A : Type 0} → (S → A → A → Option S) → S → List A → List A → Option S
fold_pairs f sum [] bs = Some sum
fold_pairs f sum (a ∷ rest) [] = None
fold_pairs f sum (a ∷ rest) (b ∷ bs) = f sum a b >>= (λ next. fold_pairs f next rest bs)

-- c·V of a tap
abbrev pub tap_voltage : ℕ → List ℕ → List Rectangle → Tap → Tap → Option Rectangle
tap_voltage s ordering volts t u = do
  tap ← tap_between s ordering t u
  v ← slice_get volts tap.place
  scale_rectangle s v tap.ratio

-- a sum with that
abbrev pub with_tap_voltage : ℕ → List ℕ → List Rectangle → Rectangle → Tap → Tap → Option Rectangle
with_tap_voltage s ordering volts sum t u = tap_voltage s ordering volts t u >>= add_rectangles sum

-- the drop of a branch: the sum over its taps
abbrev pub drop_between : ℕ → List ℕ → List Rectangle → List Tap → List Tap → Option Rectangle
drop_between s ordering volts ts us = fold_pairs (with_tap_voltage s ordering volts) nought_rectangle ts us

-- the current of a branch: y times its drop
abbrev pub branch_current : ℕ → Ends → List ℕ → List Rectangle → Branch → Branch → Option Rectangle
branch_current s h ordering volts a b = do
  law ← law_between s a.law b.law
  y ← law_rectangle s h law
  drop ← drop_between s ordering volts a.taps b.taps
  mul_rectangles s y drop

-- a sum with c times a current, for a tap that is at the node
abbrev pub with_tap_current : ℕ → ℕ → Rectangle → Rectangle → Tap → Tap → Option Rectangle
with_tap_current s node current sum t u = if t.node == node then range_ends s t.ratio u.ratio >>= (λ c. scale_rectangle s current c >>= add_rectangles sum) else Some sum

-- some tap is at the node
abbrev pub is_at : ℕ → List Tap → Bool
is_at node taps = has_in (λ m. m == node) taps

-- a sum with what leaves the node into a branch of its own, where that is of the owner and has a tap there
abbrev pub with_branch : ℕ → Ends → List ℕ → List Rectangle → ℕ → ℕ → Rectangle → Branch → Branch → Option Rectangle
with_branch s h ordering volts owner node sum a b =
    if a.owner == owner && is_at node a.taps
    then branch_current s h ordering volts a b >>= (λ current. fold_pairs (with_tap_current s node current) sum a.taps b.taps)
    else Some sum

-- ---- groups of three
-- the drops of a group's branches
pub record Drops : Type 0 where
  pub first : Rectangle
  pub second : Rectangle
  pub third : Rectangle

-- the drop of a branch of a group: 0 where its nodes are dead
abbrev pub live_drop : ℕ → List ℕ → List Rectangle → Branch → Branch → Option Rectangle
live_drop s ordering volts a b = if has_place ordering a.taps then drop_between s ordering volts a.taps b.taps else Some nought_rectangle

-- so for each branch of a group, from one network to the other
abbrev pub group_drops : ℕ → List ℕ → List Rectangle → Branch → Branch → Branch → Branch → Branch → Branch → Option Drops
group_drops s ordering volts a b c a' b' c' = do
  first ← live_drop s ordering volts a a'
  second ← live_drop s ordering volts b b'
  third ← live_drop s ordering volts c c'
  Some (record { first = first; second = second; third = third })

-- the current of the branch at a place of a group: the sum, over the group's branches, of its admittance with each times the drop of that
abbrev pub row_current : ℕ → Columns → Drops → ℕ → Option Rectangle
row_current s columns drops place = do
  a ← slice_get columns.first place
  b ← slice_get columns.second place
  c ← slice_get columns.third place
  x ← mul_rectangles s a drops.first
  y ← mul_rectangles s b drops.second
  z ← mul_rectangles s c drops.third
  two ← add_rectangles x y
  add_rectangles two z

-- a sum with what leaves the node into that branch, where it has a tap there
abbrev pub with_row : ℕ → ℕ → Columns → Drops → ℕ → Rectangle → Branch → Branch → Option Rectangle
with_row s node columns drops place sum a b =
    if is_at node a.taps then row_current s columns drops place >>= (λ current. fold_pairs (with_tap_current s node current) sum a.taps b.taps) else Some sum

-- so with each branch of the group
abbrev pub with_rows : ℕ → ℕ → Columns → Drops → Rectangle → Branch → Branch → Branch → Branch → Branch → Branch → Option Rectangle
with_rows s node columns drops sum a b c a' b' c' = do
  one ← with_row s node columns drops 0 sum a a'
  two ← with_row s node columns drops 1 one b b'
  with_row s node columns drops 2 two c c'

-- a group of the owner's that has a tap at the node
abbrev pub is_group_at : ℕ → ℕ → Branch → Branch → Branch → Bool
is_group_at owner node a b c = a.owner == owner && (is_at node a.taps || is_at node b.taps || is_at node c.taps)

-- a sum with what leaves the node into a group, where that is of the owner and has a tap there: the values are those of its first branch, which the others share
abbrev pub with_group : ℕ → Ends → List ℕ → List Rectangle → ℕ → ℕ → Rectangle → Branch → Branch → Branch → Branch → Branch → Branch → Option Rectangle
with_group s h ordering volts owner node sum a b c a' b' c' =
    if is_group_at owner node a b c
    then law_coupling s a.law a'.law >>= coupling_columns s h
    >>= (λ columns. group_drops s ordering volts a b c a' b' c' >>= (λ drops. with_rows s node columns drops sum a b c a' b' c'))
    else Some sum

-- ---- all branches
-- a sum with what leaves the node into the group of a branch and the next two; less than three branches, with which no whole network ends, are no group
abbrev pub with_first_group : ℕ → Ends → List ℕ → List Rectangle → ℕ → ℕ → Rectangle → Branch → List Branch → Branch → List Branch → Option Rectangle
with_first_group s h ordering volts owner node sum a (b ∷ c ∷ xs) a' (b' ∷ c' ∷ bs) = with_group s h ordering volts owner node sum a b c a' b' c'
with_first_group s h ordering volts owner node sum a _ a' _ = None

-- a sum with what leaves the node into a branch, by its place in a group and the branches after it: a group goes as one, at its first branch
abbrev pub with_first : ℕ → Ends → List ℕ → List Rectangle → ℕ → ℕ → Option ℕ → Rectangle → Branch → List Branch → Branch → List Branch → Option Rectangle
with_first s h ordering volts owner node None sum a xs b bs = with_branch s h ordering volts owner node sum a b
with_first s h ordering volts owner node (Some zero) sum a xs b bs = with_first_group s h ordering volts owner node sum a xs b bs
with_first s h ordering volts owner node (Some (suc place)) sum a xs b bs = Some sum

-- a sum with what leaves the node into each branch
abbrev pub with_all : ℕ → Ends → List ℕ → List Rectangle → ℕ → ℕ → Rectangle → List Branch → List Branch → Option Rectangle
with_all s h ordering volts owner node sum [] bs = Some sum
with_all s h ordering volts owner node sum (a ∷ xs) [] = None
with_all s h ordering volts owner node sum (a ∷ xs) (b ∷ bs) =
    with_first s h ordering volts owner node (place_in_group a.law) sum a xs b bs >>= (λ next. with_all s h ordering volts owner node next xs bs)

-- the terminal current of a pair of networks over the orders from lo to hi, in micro-orders, from the voltages of the nodes in their ordering; absent where a step has no value
unfoldable pub terminal_current : ℕ → Network → Network → List ℕ → ℕ → ℕ → ℕ → ℕ → List Rectangle → Option Rectangle
terminal_current s low high ordering lo hi owner node volts = with_all s (order_ends s lo hi) ordering volts owner node nought_rectangle low.branches high.branches
