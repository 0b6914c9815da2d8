use Rattle.std.proofs.Common.{rules}
use Rattle.std.specs.Prelude.{Some}
use Rattle.admittance_box.specs.Admittance.{SeriesEnds}
use Rattle.admittance_box.proofs.Between.{between_holds}
use Rattle.admittance_box.proofs.series.SeriesParameters.from_fractions.Goals as goal

pub returns-clause-holds : goal.returns-clause-holds
returns-clause-holds g c r k m x xc hr hk hm hx hc =
    let ends = g.E.Enclosure.ends in
    let p : SeriesEnds = record { r = ends c.in_ok-r.r; k = ends c.in_ok-k.k; m = ends c.in_ok-m.m; x = ends c.in_ok-x.x; xc = ends c.in_ok-xc.xc; plain = c.are_zero-plain.result } in
    between_holds g.E.Enclosure.SCALE c.args.low c.args.high (Some p) (search rules) r k m x xc hr hk hm hx hc
