-- The interval of the orders of a box.
use Rattle.std.specs.Prelude.{ℕ, ◌*◌, ◌^◌, pos}
use Rattle.exact_algebra.specs.Floor.{floor_div, ceil_div}
use Rattle.complex_interval.specs.Ends.{Ends, Encloses}
use Rattle.network_theory.specs.Order.{Order, IsOrder, fraction}
use Rattle.network_theory.specs.Box.{LiesIn}

-- lo·2^scale/10^6 rounded down, and hi·2^scale/10^6 rounded up, for lo and hi in micro-orders
abbrev pub order_ends : ℕ → ℕ → ℕ → Ends
order_ends s lo hi = record { low = floor_div (pos (lo * 2 ^ s)) (10 ^ 6); high = ceil_div (pos (hi * 2 ^ s)) (10 ^ 6) }

-- each order from lo to hi is held
abbrev pub HoldsOrders : ℕ → ℕ → ℕ → Ends → Type 0
HoldsOrders s lo hi a = (h : Order) → IsOrder h → LiesIn h (record { lo = lo; hi = hi }) → Encloses s a (fraction h)
