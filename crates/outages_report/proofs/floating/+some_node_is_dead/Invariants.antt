use Rattle.outages_report.proofs.floating.+some_node_is_dead.Given as goal

abbrev pub decreases-some_node_is_dead : goal.decreases-some_node_is_dead
decreases-some_node_is_dead l = l.count
