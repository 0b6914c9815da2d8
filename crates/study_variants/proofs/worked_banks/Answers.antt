use Rattle.std.proofs.Common.{◌≡◌, true, false, refl}
use Rattle.exact_algebra.specs.Ratio.{whole}
use Rattle.network_theory.specs.Reach.{is_live}
use Rattle.element_parts.specs.PerUnit.{susceptance_of_rating}
use Rattle.admittance_box.specs.BoxMatrix.{box_matrix}
use Rattle.band_subdivision.specs.PairTest.{pair_value}
use Rattle.study_variants.proofs.worked_banks.Goals as goal

never : false ≡ true → ⊥
never e = cc

pub returns : goal.returns
unfolding whole is_live susceptance_of_rating pair_value box_matrix
returns c = record {
  worked = record {
    last = refl;
    first = refl;
    in_range = refl;
    out_of_range = refl;
    fits = λ spec. record { kept = λ _. ((λ _. (refl, tt), tt), tt); last = refl; matrix = refl; scratch = λ _. ((λ _. (refl, tt), tt), tt) };
    too_great = λ spec sums. never sums.matrix;
  };
}
