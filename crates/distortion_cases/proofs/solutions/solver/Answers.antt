use Rattle.distortion_cases.proofs.solutions.solver.Goals as goal

pub new-requires-clause-some : goal.new-requires-clause-some
new-requires-clause-some c = record { node = c.args.node.number; live = c.requires.live }
