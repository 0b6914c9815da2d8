-- The laws of linear systems, as the contracts state them.
use Rattle.std.proofs.Common.{[], ◌∷◌}
use Rattle.exact_algebra.specs.Ratio.{ratio_numbers}
use Rattle.exact_algebra.specs.Complex.{complex_numbers}
use Rattle.exact_algebra.proofs.Complexes.{complex_field}
use Rattle.exact_algebra.proofs.Ratios.{ratio_field}
use Rattle.linear_systems.specs.Linear.{FrontOfZeroRows, EliminationLaw, InjectiveIsSolvable}
use Rattle.linear_systems.proofs.Elimination as E
use Rattle.linear_systems.proofs.Solvable as S

pub front : FrontOfZeroRows ratio_numbers
front n rows square h = S.front_of_zero_rows ratio_numbers ratio_field n rows h

pub step : EliminationLaw ratio_numbers
step n [] = tt
step n (first ∷ rest) = λ square pivot. E.elimination_step ratio_numbers ratio_field n first rest pivot

pub solvable : InjectiveIsSolvable ratio_numbers
solvable n rows square injective right l = S.injective_is_solvable ratio_numbers ratio_field n rows right square injective l

pub solvable_complex : InjectiveIsSolvable complex_numbers
solvable_complex n rows square injective right l = S.injective_is_solvable complex_numbers complex_field n rows right square injective l
