-- Currents by admittances.
use Rattle.std.specs.Prelude.{ℕ, zero, suc, List, [], ◌∷◌}
use Rattle.exact_algebra.specs.Complex.{Complex, complex_numbers}
use Rattle.network_theory.specs.Branch.{Branch}
use Rattle.network_theory.specs.Admittance.{Part, Alone, Group}
open complex_numbers use {nought, ◌⊕◌, ◌⊗◌}

-- y_p1·d_1 + y_p2·d_2 + y_p3·d_3
abbrev pub by_row : Complex → Complex → Complex → Complex → Complex → Complex → Complex
by_row x y z u v w = x ⊗ u ⊕ (y ⊗ v ⊕ z ⊗ w)

-- the current of the branch at a place: its admittance times its drop, in a group the sum over the three
abbrev pub current_of : List Part → (Branch → Complex) → ℕ → Complex
current_of [] drop i = nought
current_of (Alone b y ∷ parts) drop zero = y ⊗ drop b
current_of (Alone b y ∷ parts) drop (suc i) = current_of parts drop i
current_of (Group a b c Y ∷ parts) drop zero = by_row (Y 0 0) (Y 0 1) (Y 0 2) (drop a) (drop b) (drop c)
current_of (Group a b c Y ∷ parts) drop (suc zero) = by_row (Y 1 0) (Y 1 1) (Y 1 2) (drop a) (drop b) (drop c)
current_of (Group a b c Y ∷ parts) drop (suc (suc zero)) = by_row (Y 2 0) (Y 2 1) (Y 2 2) (drop a) (drop b) (drop c)
current_of (Group a b c Y ∷ parts) drop (suc (suc (suc i))) = current_of parts drop i
