use Rattle.std.proofs.Common.{◌+◌, ◌-◌, ◌*◌, ◌/◌, ap, ◌∙◌}
use Rattle.certified_inverse.specs.Certificate.{in_size, ceil_over}
use Rattle.certified_inverse.proofs.size.error_over.Goals as goal

pub returns : goal.returns
unfolding ceil_over
returns c = c.in_size.ensures ∙ ap (λ one. in_size ((c.args.sigma * one + (one - c.args.theta - 1)) / (one - c.args.theta))) c.unit_of-one.ensures.value
