use Rattle.std.proofs.Common.{rules, FitsSigned, ◌∙◌, ap}
use Rattle.std.specs.Int.{w128}
use Rattle.std.proofs.lemmas.Int.{to_z-of_z}
use Rattle.exact_fraction.specs.Fraction.{ratio_of}
use Rattle.distortion_bounds.specs.Percents.{in_range}
use Rattle.distortion_bounds.proofs.RootBounds.{low_none, low_some}
use Rattle.distortion_bounds.proofs.Roots.{root_floor_only}
use Rattle.distortion_bounds.proofs.percents.low_of.Goals as goal

pub returns-in_err-floor_times : goal.returns-in_err-floor_times
returns-in_err-floor_times c =
    let r = c.root_floor.result in
    let root = root_floor_only c.args.n r c.root_floor.ensures.square c.root_floor.ensures.greatest in
    rw c.from_residual.ensures (low_none (ratio_of c.args.rho) c.args.scale c.args.n r c.requires.rho c.requires.scale root c.in_err-floor_times.ensures)

pub returns : goal.returns
returns c =
    let r = c.root_floor.result in
    let root = root_floor_only c.args.n r c.root_floor.ensures.square c.root_floor.ensures.greatest in
    let fits : FitsSigned w128 c.in_ok-floor_times.field-0 = search rules in
    let small = simp to_z-of_z at c.small.ensures in
    small ∙ ap in_range (low_some (ratio_of c.args.rho) c.args.scale c.args.n r c.requires.rho c.requires.scale c.in_ok-floor_times.field-0 root c.in_ok-floor_times.ensures)
