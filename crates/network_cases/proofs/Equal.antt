-- Fractions that are at most one another, and couplings of them.
use Rattle.std.proofs.Common.{◌≡◌, ℤ, ◌≤ℤ◌, arith}
use Rattle.std.proofs.lemmas.Int.{ints}
use Rattle.exact_algebra.specs.Ratio.{Ratio, ◌≈◌, ◌≼◌}
use Rattle.network_theory.specs.Branch.{Coupling, SameCoupling}
use Rattle.network_theory.proofs.Couplings.{coupling_same}

same_whole : (a b : ℤ) → a ≤ℤ b → b ≤ℤ a → a ≡ b
same_whole a b p q = omega (arith, ints)

same_value : (x y : Ratio) → x ≼ y → y ≼ x → y ≈ x
same_value x y p q = record { cross = same_whole _ _ q.cross p.cross }

-- a coupling with another writing of its self reactance
pub same_but_self : (c : Coupling) (x : Ratio) → c.self_x ≼ x → x ≼ c.self_x → SameCoupling (record c { self_x = x }) c
same_but_self c x p q =
    let same = coupling_same c in
    record { self_r = same.self_r; self_x = same_value c.self_x x p q; mutual_r = same.mutual_r; x_ab = same.x_ab; x_bc = same.x_bc; x_ca = same.x_ca; k = same.k; m = same.m }
