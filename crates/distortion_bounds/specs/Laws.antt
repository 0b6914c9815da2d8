-- From squares that are held to bounds of distortion.
use Rattle.std.specs.Prelude.{ℕ, ℤ, pos, ◌<ℤ◌, ◌≤ℤ◌, List, map, Some, IfSome}
use Rattle.std.specs.List.{AllZip}
use Rattle.std.specs.Option.{option_and_then}
use Rattle.exact_algebra.specs.Complex.{Complex, square_size}
use Rattle.ieee519_limits.specs.ExactVerdicts.{Bounds}
use Rattle.distortion_bounds.specs.declared.squares.Squares.{Squares}
use Rattle.distortion_bounds.specs.Distortion.{voltage_square, current_square, voltage_rho, current_rho}
use Rattle.distortion_bounds.specs.Percents.{bounds_of}
use Rattle.distortion_bounds.specs.Squares.{HoldsSquare}
use Rattle.distortion_bounds.specs.Totals.{total_of, sum_of}

-- the squares hold that of the size of z
abbrev pub HoldsSizes : ℕ → Squares → Complex → Type 0
HoldsSizes s q z = HoldsSquare s q (square_size z)

-- the distortion of a voltage lies between its bounds
abbrev pub VoltageIsBounded : Type 0
VoltageIsBounded = (s : ℕ) (q : Squares) (V : Complex) → HoldsSizes s q V → IfSome (bounds_of 3 voltage_rho s q) (λ b. Bounds (Some b) (voltage_square V))

-- and that of a current, over a demand current
abbrev pub CurrentIsBounded : Type 0
CurrentIsBounded =
    (kv mva il : ℤ) → pos 0 <ℤ kv → pos 0 ≤ℤ mva → pos 0 <ℤ il → (s : ℕ) (q : Squares) (I : Complex) → HoldsSizes s q I
    → IfSome (bounds_of 1 (current_rho kv mva il) s q) (λ b. Bounds (Some b) (current_square kv mva il I))

-- the total distortion of voltages
abbrev pub TotalVoltageIsBounded : Type 0
TotalVoltageIsBounded =
    (s : ℕ) (list : List Squares) (Vs : List Complex) → AllZip (HoldsSizes s) list Vs
    → IfSome (option_and_then (bounds_of 3 voltage_rho s) (total_of list)) (λ b. Bounds (Some b) (sum_of (map voltage_square Vs)))

-- the total distortion of currents
abbrev pub TotalCurrentIsBounded : Type 0
TotalCurrentIsBounded =
    (kv mva il : ℤ) → pos 0 <ℤ kv → pos 0 ≤ℤ mva → pos 0 <ℤ il → (s : ℕ) (list : List Squares) (Is : List Complex) → AllZip (HoldsSizes s) list Is
    → IfSome (option_and_then (bounds_of 1 (current_rho kv mva il) s) (total_of list)) (λ b. Bounds (Some b) (sum_of (map (current_square kv mva il) Is)))
