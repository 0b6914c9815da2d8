use Rattle.std.proofs.Common.{◌≤◌, arith}
use Rattle.drill_study.proofs.Steps.{state_with, state_without}
use Rattle.drill_study.proofs.drill.+push_loads.Goals as goal

pub returns-then-drawn-eq0-clause-state : goal.returns-then-drawn-eq0-clause-state
returns-then-drawn-eq0-clause-state t c =
    let some : 1 ≤ c.args.count = omega (arith, c.if-count-eq0.false) in
    state_with c.push_loads.result c.args.count c.args.j c.args.z c.next-drawn_once.result c.drawn.result c.next-drawn_twice.result some c.next-drawn_once.ensures.value c.drawn.ensures.value c.if-drawn-eq0.true
    c.next-drawn_twice.ensures.value c.push_loads.ensures.state

pub returns-clause-state : goal.returns-clause-state
returns-clause-state t c =
    let some : 1 ≤ c.args.count = omega (arith, c.if-count-eq0.false) in
    state_without c.push_loads-2.result c.args.count c.args.j c.args.z c.next-drawn_once.result c.drawn.result some c.next-drawn_once.ensures.value c.drawn.ensures.value c.if-drawn-eq0.false c.push_loads-2.ensures.state
