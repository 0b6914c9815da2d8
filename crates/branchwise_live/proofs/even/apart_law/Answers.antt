use Rattle.std.proofs.Common.{◌∙◌, ap₂}
use Rattle.exact_fraction.specs.Fraction.{ratio_of}
use Rattle.admittance_box.specs.Groups.{coupling_of}
use Rattle.branchwise_live.specs.Series.{series_of}
use Rattle.branchwise_live.proofs.Multiples.{apart_is}
use Rattle.branchwise_live.proofs.even.apart_law.Goals as goal

pub returns : goal.returns
returns g c =
    c.series_of.ensures ∙ ap₂ (λ r x. series_of g.E.Enclosure.SCALE r (ratio_of c.args.c.k) (ratio_of c.args.c.m) x) c.sum_interval-r.ensures c.sum_interval-x.ensures ∙ apart_is g.E.Enclosure.SCALE (coupling_of c.args.c)
