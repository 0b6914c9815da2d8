-- The worked study.
use Rattle.std.proofs.Common.{◌≡◌, ℕ, zero, suc, ◌<◌, pos, negsuc, List, [], ◌∷◌, length, get_or, subst, refl, arith}
use Rattle.std.specs.Prelude.{Contains}
use Rattle.std.specs.List.{AllByRecursion, AllZip}
use Rattle.exact_algebra.specs.Ratio.{whole, plus, times, opposite, reciprocal, reciprocal_of, den, common}
use Rattle.exact_algebra.specs.Complex.{Complex, complex_numbers, complex_over, complex_times, complex_plus, complex_whole, real_part, imaginary_part, ◌+j◌}
use Rattle.network_theory.specs.Branch.{Branch}
use Rattle.network_theory.specs.Impedance.{resistance, reactance, series_impedance, shunt_admittance}
use Rattle.network_theory.specs.Admittance.{IsAdmittance}
use Rattle.network_theory.specs.OneNode.{ground_tap, IsOneNode, sum_of}
use Rattle.network_theory.proofs.OneNode.{one_node_reduced}
use Rattle.network_theory.proofs.Reduced.{reduced_impedance}
use Rattle.study_model.specs.declared.words.Sequence.TheVariants.{Positive}
use Rattle.element_parts.specs.PerUnit.{as_written, impedance_per_unit, impedance_of_rating, susceptance_of_rating}
use Rattle.load_filter_model.specs.Sources.{source_expansion}
use Rattle.load_filter_model.specs.Loads.{load_expansion}
use Rattle.load_filter_model.specs.Banks.{bank_expansion}
use Rattle.sequence_network.specs.Networks.{network_of}
use Rattle.sequence_network.specs.Worked.{worked_study, AtOrderTwo}
open complex_numbers use {◌≈◌, nought, unit, ◌⊗◌}

-- what holds of each branch, of one that the list has
contained : (P : Branch → Type 0) (bs : List Branch) (b : Branch) → AllByRecursion P bs → Contains bs b → P b
contained P [] b h k = absurd (omega (arith, k.1))
contained P (x ∷ xs) b h k = go k.0 k.1 k.2 (λ i l e. contained P xs b h.1 (i, l, e))
  where
    go : (i : ℕ) → i < suc (length xs) → get_or (x ∷ xs) i b ≡ b → ((i : ℕ) → i < length xs → get_or xs i b ≡ b → P b) → P b
    go zero l e more = subst P e h.0
    go (suc i) l e more = more i (omega arith) e

abbrev ys : List Complex
ys = complex_over (pos 0) (negsuc 0) 2 ∷ complex_over (pos 1) (pos 0) 25 ∷ complex_over (pos 0) (negsuc 0) 100 ∷ complex_over (pos 3) (negsuc 7) 73 ∷ complex_over (pos 0) (pos 2) 25 ∷ []

one_node : IsOneNode (network_of worked_study Positive)
unfolding network_of source_expansion load_expansion bank_expansion
one_node = record {
  first = _;
  has = (0, omega arith, refl);
  each = λ b k. contained (λ x. x.taps ≡ ground_tap ∷ []) (network_of worked_study Positive).branches b (refl, (refl, (refl, (refl, (refl, tt))))) k;
}

admittances : AllZip (λ b y. IsAdmittance (record { n = 2; d = 1 }) b.law y) (network_of worked_study Positive).branches ys
unfolding network_of source_expansion load_expansion bank_expansion as_written impedance_per_unit impedance_of_rating susceptance_of_rating series_impedance shunt_admittance resistance reactance ◌+j◌ times plus opposite whole common den reciprocal reciprocal_of complex_times complex_whole real_part imaginary_part
admittances = (record { re = record { cross = refl }; im = record { cross = refl } }, (record { re = record { cross = refl }; im = record { cross = refl } }, (record { re = record { cross = refl }; im = record { cross = refl } }, (record { re = record { cross = refl }; im = record { cross = refl } }, (record { re = record { cross = refl }; im = record { cross = refl } }, tt)))))

product : complex_over (pos 11840) (pos 78780) 43469 ⊗ sum_of ys ≈ unit
unfolding whole common den complex_plus complex_times complex_whole real_part imaginary_part
product = record { re = record { cross = refl }; im = record { cross = refl } }

apart : ¬ (sum_of ys ≈ nought)
unfolding whole common den complex_plus complex_times complex_whole real_part imaginary_part
apart e = let wrong = e.re.cross in absurd (cc)

pub at_order_two : AtOrderTwo
at_order_two = reduced_impedance (network_of worked_study Positive) (record { n = 2; d = 1 }) 0 (sum_of ys) (complex_over (pos 11840) (pos 78780) 43469)
    (one_node_reduced (network_of worked_study Positive) (record { n = 2; d = 1 }) ys one_node admittances) apart product
