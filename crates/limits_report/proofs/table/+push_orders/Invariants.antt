use Rattle.limits_report.proofs.table.+push_orders.Given as goal

abbrev pub decreases-push_orders : goal.decreases-push_orders
decreases-push_orders g l = l.left
