use Rattle.exact_fraction.specs.Fraction.{ratio_of}
use Rattle.distortion_bounds.proofs.RootBounds.{bounds_none_low, bounds_none_high, bounds_some, roots_held, are_ordered}
use Rattle.distortion_bounds.proofs.percents.bounds.Goals as goal

pub returns-in_err-lo-clause-value : goal.returns-in_err-lo-clause-value
returns-in_err-lo-clause-value c = rw c.from_residual.ensures (bounds_none_low c.args.times (ratio_of c.args.rho) c.args.scale c.args.squares c.in_err-lo.ensures)

pub returns-in_err-hi-clause-value : goal.returns-in_err-hi-clause-value
returns-in_err-hi-clause-value c = rw c.from_residual-in_err-hi.ensures (bounds_none_high c.args.times (ratio_of c.args.rho) c.args.scale c.args.squares c.in_ok-lo.lo c.in_ok-lo.ensures c.in_err-hi.ensures)

pub returns-clause-value : goal.returns-clause-value
returns-clause-value c = bounds_some c.args.times (ratio_of c.args.rho) c.args.scale c.args.squares c.in_ok-lo.lo c.in_ok-hi.hi c.in_ok-lo.ensures c.in_ok-hi.ensures

pub returns-clause-ordered : goal.returns-clause-ordered
returns-clause-ordered c =
    are_ordered c.args.times (ratio_of c.args.rho) c.args.scale c.args.squares _ c.requires.rho (bounds_some c.args.times (ratio_of c.args.rho) c.args.scale c.args.squares c.in_ok-lo.lo c.in_ok-hi.hi c.in_ok-lo.ensures c.in_ok-hi.ensures)

pub returns-clause-holds : goal.returns-clause-holds
returns-clause-holds c =
    roots_held c.args.times (ratio_of c.args.rho) c.args.scale c.args.squares _ c.requires.rho (bounds_some c.args.times (ratio_of c.args.rho) c.args.scale c.args.squares c.in_ok-lo.lo c.in_ok-hi.hi c.in_ok-lo.ensures c.in_ok-hi.ensures)
