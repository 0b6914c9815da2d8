use Rattle.std.proofs.Common.{sym, subst}
use Rattle.std.specs.List.{AllByRecursion}
use Rattle.std.proofs.lemmas.List.Elements.{recursion_from_All}
use Rattle.study_model.specs.Curve.{IsLawfulPoint}
use Rattle.threshold_curve.specs.Curve.{AreRising}
use Rattle.threshold_curve.proofs.Rising.{are_rising}
use Rattle.threshold_curve.proofs.curve.least_over.Goals as goal

pub least_of-requires-clause-rising : goal.least_of-requires-clause-rising
least_of-requires-clause-rising c = subst AreRising (sym c.as_points.ensures) (are_rising _ c.requires.lawful.rising)

pub least_of-requires-clause-lawful : goal.least_of-requires-clause-lawful
least_of-requires-clause-lawful c = subst (AllByRecursion IsLawfulPoint) (sym c.as_points.ensures) (recursion_from_All IsLawfulPoint _ c.requires.lawful.points)
