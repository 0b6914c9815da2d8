use Rattle.std.proofs.Common.{rules}
use Rattle.admittance_box.specs.Series.{series_ends}
use Rattle.admittance_box.proofs.Laws.{series_holds}
use Rattle.admittance_box.proofs.series.series_admittance.Goals as goal

pub returns-clause-holds : goal.returns-clause-holds
returns-clause-holds g c h i ho r k m x xc held =
    series_holds g.E.Enclosure.SCALE (series_ends g.E.Enclosure.ends c.args.p.now) (g.E.Enclosure.ends c.args.order) _ (search rules) h i ho r k m x xc held
