use Rattle.std.proofs.Common.{◌∙◌, sym, ap}
use Rattle.std.specs.Prelude.{◌&&◌}
use Rattle.exact_fraction.specs.Fraction.{ratio_of}
use Rattle.branchwise_live.proofs.Same.{same_tests}
use Rattle.branchwise_live.proofs.even.is_same.Goals as goal

pub returns-then-below : goal.returns-then-below
returns-then-below c =
    sym (ap (λ t. t && c.at_most-above.result) c.if-below.true) ∙ same_tests (ratio_of c.args.x) (ratio_of c.args.y) c.at_most-below.result c.at_most-above.result c.at_most-below.ensures c.at_most-above.ensures

pub returns-else-below : goal.returns-else-below
returns-else-below c =
    c.if-below.false ∙ (sym (ap (λ t. t && c.at_most-above.result) c.if-below.false) ∙ same_tests (ratio_of c.args.x) (ratio_of c.args.y) c.at_most-below.result c.at_most-above.result c.at_most-below.ensures c.at_most-above.ensures)
