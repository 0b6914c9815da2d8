use Rattle.std.proofs.Common.{rules, FitsSigned, ◌∙◌, ap}
use Rattle.std.specs.Int.{w128}
use Rattle.std.proofs.lemmas.Int.{to_z-of_z}
use Rattle.exact_fraction.specs.Fraction.{ratio_of}
use Rattle.distortion_bounds.specs.Percents.{in_range}
use Rattle.distortion_bounds.proofs.RootBounds.{high_none, high_some}
use Rattle.exact_fraction.proofs.Roots.{root_ceil_only}
use Rattle.distortion_bounds.proofs.percents.high_of.Goals as goal

pub returns-in_err-ceil_times : goal.returns-in_err-ceil_times
returns-in_err-ceil_times c =
    let r = c.root_ceil.result in
    let root = root_ceil_only c.args.n r c.root_ceil.ensures.square c.root_ceil.ensures.least in
    rw c.from_residual.ensures (high_none (ratio_of c.args.rho) c.args.scale c.args.n r c.requires.rho c.requires.scale root c.in_err-ceil_times.ensures)

pub returns : goal.returns
returns c =
    let r = c.root_ceil.result in
    let root = root_ceil_only c.args.n r c.root_ceil.ensures.square c.root_ceil.ensures.least in
    let fits : FitsSigned w128 c.in_ok-ceil_times.field-0 = search rules in
    let small = simp to_z-of_z at c.small.ensures in
    small ∙ ap in_range (high_some (ratio_of c.args.rho) c.args.scale c.args.n r c.requires.rho c.requires.scale c.in_ok-ceil_times.field-0 root c.in_ok-ceil_times.ensures)
