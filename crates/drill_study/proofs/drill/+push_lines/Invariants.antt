use Rattle.drill_study.proofs.drill.+push_lines.Given as goal

abbrev pub decreases-push_lines : goal.decreases-push_lines
decreases-push_lines l = l.count
