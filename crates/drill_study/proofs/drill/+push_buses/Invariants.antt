use Rattle.drill_study.proofs.drill.+push_buses.Given as goal

abbrev pub decreases-push_buses : goal.decreases-push_buses
decreases-push_buses l = l.count
