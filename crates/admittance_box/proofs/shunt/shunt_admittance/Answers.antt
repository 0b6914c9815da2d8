use Rattle.std.proofs.Common.{rules}
use Rattle.std.specs.Prelude.{Some}
use Rattle.admittance_box.proofs.Laws.{shunt_holds}
use Rattle.admittance_box.proofs.shunt.shunt_admittance.Goals as goal

pub returns-clause-holds : goal.returns-clause-holds
returns-clause-holds g c h i ho x hb = shunt_holds g.E.Enclosure.SCALE (g.E.Enclosure.ends c.args.b) (g.E.Enclosure.ends c.args.order) (Some (record { re = g.E.Enclosure.ends c.exact_zero.result; im = g.E.Enclosure.ends c.in_ok-mul.field-0 })) (search rules) h i ho x hb
