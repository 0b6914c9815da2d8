use Rattle.std.proofs.Common.{◌≡◌, true, subst, sym, arith}
use Rattle.net_branch.specs.Refusal.{is_at_nodes}
use Rattle.net_branch.specs.Whole.{IsGrowing}
use Rattle.net_branch.proofs.Wholes.{grown_whole, pushed_growing}
use Rattle.net_branch.proofs.build.push_branch.Goals as goal

pub returns-then-not-is_at_nodes-clause-whole : goal.returns-then-not-is_at_nodes-clause-whole
returns-then-not-is_at_nodes-clause-whole c h = grown_whole c.args.network.now c.requires.growing h

pub returns-then-len-clause-whole : goal.returns-then-len-clause-whole
returns-then-len-clause-whole c h = grown_whole c.args.network.now c.requires.growing h

pub returns-then-is_zero_law-clause-whole : goal.returns-then-is_zero_law-clause-whole
returns-then-is_zero_law-clause-whole c h = grown_whole c.args.network.now c.requires.growing h

pub returns-in-Ok-clause-growing : goal.returns-in-Ok-clause-growing
returns-in-Ok-clause-growing c =
    let n = c.args.network.now in
    let at : is_at_nodes n.nodes c.args.branch ≡ true = sym c.if-not-is_at_nodes.ensures in
    subst (λ bs. IsGrowing (record n { branches = bs })) (sym c.in-Ok.ensures.ok) (pushed_growing n c.args.branch c.requires.growing c.requires.next at (omega (arith, c.if-len.false, c.len.ensures)))

pub returns-in-Ok-clause-whole : goal.returns-in-Ok-clause-whole
returns-in-Ok-clause-whole c h =
    let n = c.args.network.now in
    let at : is_at_nodes n.nodes c.args.branch ≡ true = sym c.if-not-is_at_nodes.ensures in
    grown_whole (record n { branches = c.push.new.self })
    (subst (λ bs. IsGrowing (record n { branches = bs })) (sym c.in-Ok.ensures.ok) (pushed_growing n c.args.branch c.requires.growing c.requires.next at (omega (arith, c.if-len.false, c.len.ensures)))) h

pub returns-in-Err-clause-whole : goal.returns-in-Err-clause-whole
returns-in-Err-clause-whole c h =
    let n = c.args.network.now in
    grown_whole (record n { branches = c.push.new.self }) (subst (λ bs. IsGrowing (record n { branches = bs })) (sym c.in-Err.ensures.err) c.requires.growing) h
