use Rattle.std.proofs.Common.{◌-◌, refl}
use Rattle.outages_report.proofs.Named.{name_is}
use Rattle.outages_report.proofs.names.name_of_element.Goals as goal

pub returns : goal.returns
returns c = name_is c.args.study.now c.args.number (c.args.number - 1) c.name_at.result c.requires refl c.name_at.ensures
