-- Boxes of orders, in micro-orders.
use Rattle.std.specs.Prelude.{◌≡◌, ℕ, ◌*◌, ◌^◌, ◌≤◌, ◌<◌, List, [], ◌∷◌}
use Rattle.network_theory.specs.Order.{Order}

-- the orders from lo to hi
pub record Box : Type 0 where
  pub lo : ℕ
  pub hi : ℕ

-- lo is at most hi
abbrev pub IsBox : Box → Type 0
IsBox box = box.lo ≤ box.hi

-- n/d lies in the box: lo·d ≤ 10^6·n ≤ hi·d
pub record LiesIn (h : Order) (box : Box) : Type 0 where
  pub low : box.lo * h.d ≤ 10 ^ 6 * h.n
  pub high : 10 ^ 6 * h.n ≤ box.hi * h.d

-- the boxes go on from `from` to `to`: each begins where the one before ends, and has lo < hi
abbrev pub GoesOn : ℕ → ℕ → List Box → Type 0
GoesOn from to [] = from ≡ to
GoesOn from to (box ∷ boxes) = (box.lo ≡ from) × (box.lo < box.hi) × GoesOn box.hi to boxes

-- a list of boxes covers the band: it isn't empty, and goes on from end to end
abbrev pub Covers : ℕ → ℕ → List Box → Type 0
Covers from to [] = ⊥
Covers from to (box ∷ boxes) = GoesOn from to (box ∷ boxes)
