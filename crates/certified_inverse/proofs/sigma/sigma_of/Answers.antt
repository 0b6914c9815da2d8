use Rattle.std.proofs.Common.{Some, map, ap, ◌∙◌}
use Rattle.certified_inverse.specs.Certificate.{and_then, greatest, size_of, rows_times, in_size}
use Rattle.certified_inverse.proofs.sigma.sigma_of.Goals as goal

pub returns-in_err-residual : goal.returns-in_err-residual
returns-in_err-residual g c =
    let s = g.E.Enclosure.SCALE in
    let cs = c.args.inverse.now.rows in
    rw c.from_residual.ensures (ap (λ o. and_then (and_then o (λ left. and_then (rows_times s cs left) (λ moved. Some (greatest (map size_of moved))))) in_size) c.in_err-residual.ensures)

pub returns-in_err-sigma : goal.returns-in_err-sigma
returns-in_err-sigma g c =
    let s = g.E.Enclosure.SCALE in
    let cs = c.args.inverse.now.rows in
    let moved = ap (λ o. and_then (and_then o (λ left. and_then (rows_times s cs left) (λ moved. Some (greatest (map size_of moved))))) in_size) c.in_ok-residual.ensures in
    rw c.from_residual-in_err-sigma.ensures (ap (λ o. and_then o in_size) c.in_err-sigma.ensures ∙ moved)

pub returns : goal.returns
returns g c =
    let s = g.E.Enclosure.SCALE in
    let cs = c.args.inverse.now.rows in
    let moved = ap (λ o. and_then (and_then o (λ left. and_then (rows_times s cs left) (λ moved. Some (greatest (map size_of moved))))) in_size) c.in_ok-residual.ensures in
    c.in_size.ensures ∙ ap (λ o. and_then o in_size) c.in_ok-sigma.ensures ∙ moved
