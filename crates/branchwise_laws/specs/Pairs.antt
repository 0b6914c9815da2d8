-- How links stand for the parts of a network.
use Rattle.std.specs.Prelude.{◌≡◌, ℕ, pos, ◌⊎◌, List, [], ◌∷◌, ◌++◌}
use Rattle.std.specs.List.{AllByRecursion}
use Rattle.exact_algebra.specs.Ratio.{◌≈◌ as ◌≈ᵣ◌, times, plus, opposite, difference, whole}
use Rattle.exact_algebra.specs.Complex.{Complex, complex_numbers, real}
use Rattle.network_theory.specs.Order.{Order}
use Rattle.network_theory.specs.Branch.{Tap, Law, Series, Coupling, Branch}
use Rattle.network_theory.specs.Network.{Network}
use Rattle.network_theory.specs.Live.{Live}
use Rattle.network_theory.specs.Admittance.{Part, Alone, Group, IsAdmittance, IsGroupAdmittance}
use Rattle.branchwise_laws.specs.Link.{Link, admittance, AtLive, AddUp}
use Rattle.branchwise_laws.specs.Reach.{at_node}
open complex_numbers use {◌≈◌, nought, ◌⊕◌, ◌⊗◌}

-- the drop of `taps` drives y times it through the taps `out`
pub record Pair : Type 0 where
  pub out : List Tap
  pub taps : List Tap
  pub y : Complex

abbrev pub pair : Branch → Branch → Complex → Pair
pair a b y = record { out = a.taps; taps = b.taps; y = y }

-- the nine pairs of a group
abbrev pub nine_pairs : Branch → Branch → Branch → (ℕ → ℕ → Complex) → List Pair
nine_pairs a b c Y =
    pair a a (Y 0 0) ∷ pair a b (Y 0 1) ∷ pair a c (Y 0 2) ∷ pair b a (Y 1 0) ∷ pair b b (Y 1 1) ∷ pair b c (Y 1 2) ∷ pair c a (Y 2 0) ∷ pair c b (Y 2 1) ∷ pair c c (Y 2 2) ∷ []

-- taps with the opposite ratios
abbrev pub opposed : List Tap → List Tap
opposed [] = []
opposed (t ∷ taps) = record { node = t.node; ratio = opposite t.ratio } ∷ opposed taps

-- of taps by themselves
abbrev pub itself : List Tap → Complex → Pair
itself taps y = record { out = taps; taps = taps; y = y }

-- where the mutual reactances are equal: the differences of two phases with one admittance, and the sum of all three with another
abbrev pub four_pairs : Branch → Branch → Branch → Complex → Complex → List Pair
four_pairs a b c y1 y0 = itself (a.taps ++ opposed b.taps) y1 ∷ itself (b.taps ++ opposed c.taps) y1 ∷ itself (a.taps ++ opposed c.taps) y1 ∷ itself (a.taps ++ b.taps ++ c.taps) y0 ∷ []

-- the mutual reactances are equal
pub record IsEven (c : Coupling) : Type 0 where
  pub bc : c.x_bc ≈ᵣ c.x_ab
  pub ca : c.x_ca ≈ᵣ c.x_ab

-- a Series with three times the values that a difference of two phases meets
abbrev pub apart_law : Coupling → Law
apart_law c = Series (times (whole (pos 3)) (difference c.self_r c.mutual_r)) c.k c.m (times (whole (pos 3)) (difference c.self_x c.x_ab)) (whole (pos 0))

-- a Series with three times the values that a sum of all phases meets
abbrev pub common_law : Coupling → Law
common_law c = Series (times (whole (pos 3)) (plus c.self_r (times (whole (pos 2)) c.mutual_r))) c.k c.m (times (whole (pos 3)) (plus c.self_x (times (whole (pos 2)) c.x_ab))) (whole (pos 0))

-- pairs that stand for parts: for a branch alone one; for a group nine, or four where its branches have the same values with equal mutual reactances
pub data IsPaired (h : Order) : List Part → List Pair → Type 0 where
  end : IsPaired h [] []
  alone : (b : Branch) (y : Complex) (parts : List Part) (pairs : List Pair) → IsPaired h parts pairs → IsPaired h (Alone b y ∷ parts) (pair b b y ∷ pairs)
  group : (a b c : Branch) (Y : ℕ → ℕ → Complex) (parts : List Part) (pairs : List Pair) → IsPaired h parts pairs → IsPaired h (Group a b c Y ∷ parts) (nine_pairs a b c Y ++ pairs)
  even : (a b c : Branch) (Y : ℕ → ℕ → Complex) (values : Coupling) (y1 y0 : Complex) (parts : List Part) (pairs : List Pair) → IsGroupAdmittance h values values values Y → IsEven values
      → IsAdmittance h (apart_law values) y1 → IsAdmittance h (common_law values) y0 → IsPaired h parts pairs → IsPaired h (Group a b c Y ∷ parts) (four_pairs a b c y1 y0 ++ pairs)

-- no tap is at a live node
abbrev pub IsDead : Network → List Tap → Type 0
IsDead network taps = AllByRecursion (λ t. ¬ Live network t.node) taps

-- a link with a pair's taps, at live nodes, and its admittance, however it is split
pub record StandsFor (network : Network) (l : Link) (p : Pair) : Type 0 where
  pub out : l.out ≡ p.out
  pub taps : l.taps ≡ p.taps
  pub live_out : AtLive network l.out
  pub live_taps : AtLive network l.taps
  pub split : admittance l ≈ p.y

-- of a branch with the one tap t: the link l' of its node alone has t.ratio² times its admittance more than l
pub record Raises (l : Link) (p : Pair) (t : Tap) (l' : Link) : Type 0 where
  pub one_out : p.out ≡ t ∷ []
  pub one_tap : p.taps ≡ t ∷ []
  pub out : l.out ≡ at_node t.node
  pub taps : l.taps ≡ at_node t.node
  pub same_out : l'.out ≡ l.out
  pub same_taps : l'.taps ≡ l.taps
  pub sum : admittance l' ≈ admittance l ⊕ real (times t.ratio t.ratio) ⊗ p.y

-- the second taps are the first without some at dead nodes
pub data IsTrimmed (network : Network) : List Tap → List Tap → Type 0 where
  all : IsTrimmed network [] []
  kept : (t : Tap) (ts us : List Tap) → IsTrimmed network ts us → IsTrimmed network (t ∷ ts) (t ∷ us)
  dropped : (t : Tap) (ts us : List Tap) → ¬ Live network t.node → IsTrimmed network ts us → IsTrimmed network (t ∷ ts) us

-- a link that adds nothing
pub record AddsNothing (network : Network) (l : Link) : Type 0 where
  pub live_out : AtLive network l.out
  pub live_taps : AtLive network l.taps
  pub none : admittance l ≈ nought

-- the links count each pair, in whatever order: not at all where one side has no live node, without some taps at dead nodes, by a link of its own, or at its node
pub data Count (network : Network) : List Pair → List Link → Type 0 where
  none : (links : List Link) → AllByRecursion (AddsNothing network) links → Count network [] links
  dead : (ps : List Pair) (p : Pair) (qs : List Pair) (links : List Link) → IsDead network p.out ⊎ IsDead network p.taps → Count network (ps ++ qs) links → Count network (ps ++ p ∷ qs) links
  trimmed : (ps : List Pair) (taps : List Tap) (y : Complex) (less : List Tap) (qs : List Pair) (links : List Link) → IsTrimmed network taps less
      → Count network (ps ++ itself less y ∷ qs) links → Count network (ps ++ itself taps y ∷ qs) links
  own : (ps : List Pair) (p : Pair) (qs : List Pair) (before : List Link) (l : Link) (after : List Link) → StandsFor network l p
      → Count network (ps ++ qs) (before ++ after) → Count network (ps ++ p ∷ qs) (before ++ l ∷ after)
  at_its_node : (ps : List Pair) (p : Pair) (qs : List Pair) (before : List Link) (l : Link) (after : List Link) (t : Tap) (l' : Link) → Raises l p t l'
      → Count network (ps ++ qs) (before ++ l ∷ after) → Count network (ps ++ p ∷ qs) (before ++ l' ∷ after)

-- such links add up to the nodal matrix
abbrev pub CountedAddUp : Type 0
CountedAddUp = (network : Network) (h : Order) (parts : List Part) (pairs : List Pair) (links : List Link) → IsPaired h parts pairs → Count network pairs links → AddUp network parts links
