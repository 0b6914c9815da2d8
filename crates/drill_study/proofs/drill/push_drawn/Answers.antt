use Rattle.drill_study.proofs.Steps.{all_lines, all_loads, all_drawn}
use Rattle.drill_study.proofs.drill.push_drawn.Goals as goal

pub returns-clause-lines : goal.returns-clause-lines
returns-clause-lines c = all_lines c.args.number c.args.lines.now c.push_lines.new.lines c.requires.no_lines c.in_ok-after_lines.ensures.lines

pub returns-clause-loads : goal.returns-clause-loads
returns-clause-loads c = all_loads c.args.number c.in_ok-after_lines.after_lines c.args.loads.now c.push_loads.new.loads c.in_ok-after_lines.ensures.state c.requires.no_loads c.in_ok-after_loads.ensures.loads

pub returns-clause-state : goal.returns-clause-state
returns-clause-state c = all_drawn c.args.number c.in_ok-after_lines.after_lines c.in_ok-after_loads.after_loads c.in_ok-after_lines.ensures.state c.in_ok-after_loads.ensures.state
