use Rattle.admittance_box.specs.Exact.{one_ends}
use Rattle.admittance_box.proofs.Ranges.{one_ends-is}
use Rattle.admittance_box.proofs.Steps.{is_some-map}
use Rattle.admittance_box.proofs.exact.exact_one.Goals as goal

pub unwrap-requires : goal.unwrap-requires
unwrap-requires g c =
    let s = g.E.Enclosure.SCALE in
    is_some-map g.E.Enclosure.ends c.from_fraction.result _ (one_ends s) c.from_fraction.ensures.value (one_ends-is s g.met.E.Enclosure.small_scale)
