use Rattle.std.proofs.Common.{rules}
use Rattle.std.specs.Prelude.{Some}
use Rattle.admittance_box.proofs.Laws.{resistance_holds}
use Rattle.admittance_box.proofs.skin.resistance.Goals as goal

pub returns-then-plain-clause-holds : goal.returns-then-plain-clause-holds
returns-then-plain-clause-holds g c h i ho r k m hr hk hm n =
    resistance_holds g.E.Enclosure.SCALE c.args.plain (g.E.Enclosure.ends c.args.r) (g.E.Enclosure.ends c.args.k) (g.E.Enclosure.ends c.args.m) (g.E.Enclosure.ends c.args.order) (Some (g.E.Enclosure.ends c.args.r)) (search rules) h i ho r k m hr hk hm n

pub returns-clause-holds : goal.returns-clause-holds
returns-clause-holds g c h i ho r k m hr hk hm n =
    resistance_holds g.E.Enclosure.SCALE c.args.plain (g.E.Enclosure.ends c.args.r) (g.E.Enclosure.ends c.args.k) (g.E.Enclosure.ends c.args.m) (g.E.Enclosure.ends c.args.order) _ (search rules) h i ho r k m hr hk hm n
