use Rattle.std.proofs.Common.{◌++◌, ◌∙◌, sym, ap, map, append-nil}
use Rattle.net_branch.specs.Exact.{exact_branch}
use Rattle.admittance_box.specs.Pattern.{branch_spots}
use Rattle.admittance_box.proofs.FirstTwo.{none_behind}
use Rattle.admittance_box.proofs.spots.spots_of.Goals as goal

pub returns : goal.returns
returns c =
    let none = none_behind c.args.branches.now c.loop-i.i c.loop-i-test.false in
    sym (append-nil c.loop-i.spots.items)
    ∙ ap (λ bs. c.loop-i.spots.items ++ branch_spots c.args.ordering.now (map exact_branch bs)) (sym none)
    ∙ c.loop-i.invariant
