-- Thresholds of an impedance.
use Rattle.exact_algebra.specs.Ratio.{Ratio, ◌≼◌, ◌≺◌, ratio_numbers}
use Rattle.exact_algebra.specs.Complex.{Complex, square_size}
use Rattle.network_theory.specs.Order.{Order}
open ratio_numbers use {◌⊗◌, inverse}

-- a threshold in ohms at each order
abbrev pub Threshold : Type 0
Threshold = Order → Ratio

-- one threshold for every order
abbrev pub flat : Ratio → Threshold
flat ohms h = ohms

-- T = threshold·s/v² at an order, with s in MVA and v in kV
unfoldable pub per_unit : Threshold → Ratio → Ratio → Order → Ratio
per_unit threshold kv mva h = threshold h ⊗ mva ⊗ inverse (kv ⊗ kv)

-- |Z|² ≤ T²
abbrev pub IsWithin : Ratio → Complex → Type 0
IsWithin T Z = square_size Z ≼ (T ⊗ T)

-- |Z|² > T²
abbrev pub IsAbove : Ratio → Complex → Type 0
IsAbove T Z = (T ⊗ T) ≺ square_size Z
