use Rattle.std.proofs.Common.{◌∙◌, sym}
use Rattle.std.specs.Option.{option_map}
use Rattle.complex_interval.specs.Rect.{rectangle_of}
use Rattle.drop_bench.specs.Near.{near_of}
use Rattle.drop_bench.specs.Results.{result_of}
use Rattle.exact_fraction.specs.Fraction.{ratio_of}
use Rattle.band_subdivision.specs.Levels.{levels_in}
use Rattle.band_subdivision.specs.ScanSpec.{asked_of}
use Rattle.band_subdivision.proofs.Filled.{clear_first, clear_second, nothing_clear, far_clear, inverse_clear, drops_clear}
use Rattle.band_subdivision.proofs.pair_test.PairTest.is_clear.Goals as goal

pub returns-then-is_clear_of-clause-value : goal.returns-then-is_clear_of-clause-value
returns-then-is_clear_of-clause-value g c =
    let t = c.self.inside in
    rw (← c.self.view_is) (clear_first g.E.Enclosure.SCALE (asked_of t.spec) t.assembly (ratio_of t.extra) c.args.lo c.args.hi (levels_in c.levels-levels.result) c.levels-levels.ensures.value (option_map g.E.Enclosure.ends t.susceptance) c.self.invariant.1.is (option_map (rectangle_of g.E.Enclosure.ends) c.admittance-y.result) c.admittance-y.ensures.value c.bound_to_clear.result c.is_clear_of.result c.bound_to_clear.ensures c.is_clear_of.ensures (c.if-is_clear_of.true))

pub returns-in-Nothing-clause-value : goal.returns-in-Nothing-clause-value
returns-in-Nothing-clause-value g c =
    let t = c.self.inside in
    rw (← c.self.view_is) (clear_second g.E.Enclosure.SCALE (asked_of t.spec) t.assembly (ratio_of t.extra) c.args.lo c.args.hi (levels_in c.levels-levels.result) c.levels-levels.ensures.value (option_map g.E.Enclosure.ends t.susceptance) c.self.invariant.1.is (option_map (rectangle_of g.E.Enclosure.ends) c.admittance-y.result) c.admittance-y.ensures.value c.bound_to_clear.result c.is_clear_of.result _ c.bound_to_clear.ensures c.is_clear_of.ensures (c.if-is_clear_of.false)
    (nothing_clear g.E.Enclosure.SCALE (asked_of t.spec) t.assembly (ratio_of t.extra) c.args.lo c.args.hi (levels_in c.levels-levels.result) c.levels-levels.ensures.value g.row.E.Denot (sym c.in-Nothing.is ∙ c.self.invariant.2)))

pub returns-then-hi-lo-clause-value : goal.returns-then-hi-lo-clause-value
returns-then-hi-lo-clause-value g c =
    let t = c.self.inside in
    let stated = rw c.admittance-y.ensures.assembly at c.impedance-z.ensures.value in
    let told = rw c.SCALE.ensures at c.is_within.ensures in
    rw (← c.self.view_is) (clear_second g.E.Enclosure.SCALE (asked_of t.spec) t.assembly (ratio_of t.extra) c.args.lo c.args.hi (levels_in c.levels-levels.result) c.levels-levels.ensures.value (option_map g.E.Enclosure.ends t.susceptance) c.self.invariant.1.is (option_map (rectangle_of g.E.Enclosure.ends) c.admittance-y.result) c.admittance-y.ensures.value c.bound_to_clear.result c.is_clear_of.result _ c.bound_to_clear.ensures c.is_clear_of.ensures (c.if-is_clear_of.false)
    (inverse_clear g.E.Enclosure.SCALE (asked_of t.spec) t.assembly (ratio_of t.extra) c.args.lo c.args.hi (levels_in c.levels-levels.result) c.levels-levels.ensures.value (option_map g.E.Enclosure.ends t.susceptance) c.self.invariant.1.is g.row.E.Denot c.in-OfInverse.bench (sym c.in-OfInverse.is ∙ c.self.invariant.2) c.if-hi-lo.true c.impedance-z.result stated _ told))

pub returns-else-hi-lo-clause-value : goal.returns-else-hi-lo-clause-value
returns-else-hi-lo-clause-value g c =
    let t = c.self.inside in
    rw (← c.self.view_is) (clear_second g.E.Enclosure.SCALE (asked_of t.spec) t.assembly (ratio_of t.extra) c.args.lo c.args.hi (levels_in c.levels-levels.result) c.levels-levels.ensures.value (option_map g.E.Enclosure.ends t.susceptance) c.self.invariant.1.is (option_map (rectangle_of g.E.Enclosure.ends) c.admittance-y.result) c.admittance-y.ensures.value c.bound_to_clear.result c.is_clear_of.result _ c.bound_to_clear.ensures c.is_clear_of.ensures (c.if-is_clear_of.false)
    (far_clear g.E.Enclosure.SCALE (asked_of t.spec) t.assembly (ratio_of t.extra) c.args.lo c.args.hi (levels_in c.levels-levels.result) c.levels-levels.ensures.value (option_map g.E.Enclosure.ends t.susceptance) c.self.invariant.1.is g.row.E.Denot c.in-OfInverse.bench (sym c.in-OfInverse.is ∙ c.self.invariant.2) c.if-hi-lo.false))

pub returns-in-OfDrops-clause-value : goal.returns-in-OfDrops-clause-value
returns-in-OfDrops-clause-value g c =
    let t = c.self.inside in
    rw (← c.self.view_is) (clear_second g.E.Enclosure.SCALE (asked_of t.spec) t.assembly (ratio_of t.extra) c.args.lo c.args.hi (levels_in c.levels-levels.result) c.levels-levels.ensures.value (option_map g.E.Enclosure.ends t.susceptance) c.self.invariant.1.is (option_map (rectangle_of g.E.Enclosure.ends) c.admittance-y.result) c.admittance-y.ensures.value c.bound_to_clear.result c.is_clear_of.result _ c.bound_to_clear.ensures c.is_clear_of.ensures (c.if-is_clear_of.false)
    (drops_clear g.E.Enclosure.SCALE (asked_of t.spec) t.assembly (ratio_of t.extra) c.args.lo c.args.hi (levels_in c.levels-levels.result) c.levels-levels.ensures.value g.row.E.Denot c.in-OfDrops.bench (sym c.in-OfDrops.is ∙ c.self.invariant.2) (result_of (near_of g.E.Enclosure.ends) c.estimate-found.result) c.estimate-found.ensures.value _ c.is_within_near.ensures))
