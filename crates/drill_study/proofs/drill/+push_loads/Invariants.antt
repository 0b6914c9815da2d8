use Rattle.drill_study.proofs.drill.+push_loads.Given as goal

abbrev pub decreases-push_loads : goal.decreases-push_loads
decreases-push_loads l = l.count
