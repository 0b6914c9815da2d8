-- What distortion is: squares of fractions of a nominal value, and of the value in ten-thousandths of a percent.
use Rattle.std.specs.Prelude.{◌^◌, ℤ, pos, ◌*ℤ◌, unsigned_abs}
use Rattle.exact_algebra.specs.Ratio.{Ratio, whole, times, over}
use Rattle.exact_algebra.specs.Complex.{Complex, square_size}

-- of a voltage of so much per unit, against the nominal phase voltage: 3·|V|²
abbrev pub voltage_square : Complex → Ratio
voltage_square V = times (whole (pos 3)) (square_size V)

-- the base of currents over a demand current of il amperes: 1000·s/(v·il), with s in MVA and v in kV, and all in millionths
abbrev pub current_base : ℤ → ℤ → ℤ → Ratio
current_base kv mva il = over (mva *ℤ pos (10 ^ 9)) (unsigned_abs (kv *ℤ il))

-- of a current of so much per unit, against the demand current: |I|²·(1000·s/(v·il))²
abbrev pub current_square : ℤ → ℤ → ℤ → Complex → Ratio
current_square kv mva il I = times (square_size I) (times (current_base kv mva il) (current_base kv mva il))

-- rho of the bounds of a voltage, and how many times its square counts
abbrev pub voltage_rho : Ratio
voltage_rho = over (pos (10 ^ 6)) 1

-- rho of the bounds of a current: 10^15·s/(v·il) in millionths
abbrev pub current_rho : ℤ → ℤ → ℤ → Ratio
current_rho kv mva il = over (mva *ℤ pos (10 ^ 15)) (unsigned_abs (kv *ℤ il))
