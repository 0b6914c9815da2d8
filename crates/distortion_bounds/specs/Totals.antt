-- Sums of squares.
use Rattle.std.specs.Prelude.{ℕ, ◌^◌, pos, nat_lt, List, [], ◌∷◌, sum_by, Option, Some, None, IfSome, if◌then◌else◌}
use Rattle.std.specs.List.{AllZip}
use Rattle.exact_algebra.specs.Ratio.{Ratio, whole, plus}
use Rattle.distortion_bounds.specs.declared.squares.Squares.{Squares}
use Rattle.distortion_bounds.specs.Squares.{HoldsSquare}

-- the sums of the low and of the high ones; none where the latter is 2^125 or more
abbrev pub total_of : List Squares → Option Squares
total_of list = if nat_lt (sum_by (λ q. q.hi) list) (2 ^ 125) then Some (record { lo = sum_by (λ q. q.lo) list; hi = sum_by (λ q. q.hi) list }) else None

-- the sum of exact squares
abbrev pub sum_of : List Ratio → Ratio
sum_of [] = whole (pos 0)
sum_of (x ∷ xs) = plus x (sum_of xs)

-- of squares that lie between those of a list, the sum lies between those of its total
abbrev pub HoldsTotal : List Squares → Option Squares → Type 0
HoldsTotal list total = (s : ℕ) (xs : List Ratio) → AllZip (HoldsSquare s) list xs → IfSome total (λ q. HoldsSquare s q (sum_of xs))
