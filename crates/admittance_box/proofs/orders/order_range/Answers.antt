use Rattle.std.proofs.Common.{sym, subst, pos, ◌<ℤ◌, arith}
use Rattle.exact_fraction.specs.Fraction.{ratio_of}
use Rattle.complex_interval.specs.Ends.{Ends, Encloses, range_ends}
use Rattle.network_theory.specs.Order.{fraction}
use Rattle.admittance_box.specs.Orders.{order_ends}
use Rattle.admittance_box.proofs.Ranges.{box_ordered, order_range-is, order_encloses, order_low_above}
use Rattle.admittance_box.proofs.Steps.{is_some-map, map-some}
use Rattle.admittance_box.proofs.orders.order_range.Goals as goal

pub from_range-requires : goal.from_range-requires
from_range-requires g c = rw (c.order_of.ensures, c.order_of-2.ensures) (box_ordered c.args.lo c.args.hi c.requires.ordered)

pub unwrap-requires : goal.unwrap-requires
unwrap-requires g c =
    let s = g.E.Enclosure.SCALE in
    let is = order_range-is s c.args.lo c.args.hi (ratio_of c.order_of.result) (ratio_of c.order_of-2.result) g.met.E.Enclosure.small_scale c.requires.ordered (omega arith) c.order_of.ensures c.order_of-2.ensures in
    is_some-map g.E.Enclosure.ends c.from_range.result (range_ends s (ratio_of c.order_of.result) (ratio_of c.order_of-2.result)) (order_ends s c.args.lo c.args.hi) c.from_range.ensures.value is

pub returns-clause-holds : goal.returns-clause-holds
returns-clause-holds g c h o l =
    let s = g.E.Enclosure.SCALE in
    let is = order_range-is s c.args.lo c.args.hi (ratio_of c.order_of.result) (ratio_of c.order_of-2.result) g.met.E.Enclosure.small_scale c.requires.ordered (omega arith) c.order_of.ensures c.order_of-2.ensures in
    let e = map-some g.E.Enclosure.ends c.from_range.result c.unwrap.result (range_ends s (ratio_of c.order_of.result) (ratio_of c.order_of-2.result)) (order_ends s c.args.lo c.args.hi) c.unwrap.ensures c.from_range.ensures.value is in
    let P : Ends → Type 0 = λ t. Encloses s t (fraction h) in
    subst P (sym e) (order_encloses s c.args.lo c.args.hi h o l)

pub returns-clause-above : goal.returns-clause-above
returns-clause-above g c k =
    let s = g.E.Enclosure.SCALE in
    let is = order_range-is s c.args.lo c.args.hi (ratio_of c.order_of.result) (ratio_of c.order_of-2.result) g.met.E.Enclosure.small_scale c.requires.ordered (omega arith) c.order_of.ensures c.order_of-2.ensures in
    let e = map-some g.E.Enclosure.ends c.from_range.result c.unwrap.result (range_ends s (ratio_of c.order_of.result) (ratio_of c.order_of-2.result)) (order_ends s c.args.lo c.args.hi) c.unwrap.ensures c.from_range.ensures.value is in
    let P : Ends → Type 0 = λ t. pos 0 <ℤ t.low in
    subst P (sym e) (order_low_above s c.args.lo c.args.hi k)
