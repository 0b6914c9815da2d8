-- Impedances and admittances at an order.
use Rattle.std.specs.Prelude.{ℕ, zero, suc, List, [], ◌∷◌}
use Rattle.exact_algebra.specs.Ratio.{Ratio, ratio_numbers}
use Rattle.exact_algebra.specs.Complex.{Complex, ◌+j◌}
use Rattle.network_theory.specs.Order.{Order, fraction}
use Rattle.network_theory.specs.Branch.{Coupling}
open ratio_numbers use {nought, unit, ◌⊕◌, ◌⊗◌, minus, inverse}

-- R(h) = r(1 + k - km/(m + h²)), in which km/(m + h²) counts as 0 where k is 0: it is km times the inverse of m + h².
-- Where k isn't 0 and m + h² is 0, which takes a negative m, no value is meant, whatever the total inverse gives, and no claim may rest on it.
unfoldable pub resistance : Ratio → Ratio → Ratio → Order → Ratio
resistance r k m h = r ⊗ (unit ⊕ k ⊕ minus (k ⊗ m ⊗ inverse (m ⊕ fraction h ⊗ fraction h)))

-- hx - xc/h
unfoldable pub reactance : Ratio → Ratio → Order → Ratio
reactance x xc h = fraction h ⊗ x ⊕ minus (xc ⊗ inverse (fraction h))

-- Z of a Series branch: R(h) + j(hx - xc/h)
unfoldable pub series_impedance : Ratio → Ratio → Ratio → Ratio → Ratio → Order → Complex
series_impedance r k m x xc h = resistance r k m h +j reactance x xc h

-- the admittance of a Shunt branch: jhb
unfoldable pub shunt_admittance : Ratio → Order → Complex
shunt_admittance b h = nought +j (fraction h ⊗ b)

-- an entry of a group's Z: its resistance by the law above, and its reactance times h
unfoldable pub group_entry : Coupling → Order → Ratio → Ratio → Complex
group_entry c h r x = resistance r c.k c.m h +j (fraction h ⊗ x)

-- the row of a group's Z for a place: the self values on the diagonal and the mutual ones off it
abbrev pub group_row : Coupling → Order → ℕ → List Complex
group_row c h zero = group_entry c h c.self_r c.self_x ∷ group_entry c h c.mutual_r c.x_ab ∷ group_entry c h c.mutual_r c.x_ca ∷ []
group_row c h (suc zero) = group_entry c h c.mutual_r c.x_ab ∷ group_entry c h c.self_r c.self_x ∷ group_entry c h c.mutual_r c.x_bc ∷ []
group_row c h (suc (suc p)) = group_entry c h c.mutual_r c.x_ca ∷ group_entry c h c.mutual_r c.x_bc ∷ group_entry c h c.self_r c.self_x ∷ []
