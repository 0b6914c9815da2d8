use Rattle.std.proofs.Common.{◌≡◌, sym, ◌+◌, ◌∷◌, [], ◌++◌, rules, subst, drop}
use Rattle.scan_report.specs.Reading.{between}
use Rattle.scan_report.specs.Stands.{stage_of, IsRead, BeginsWith}
use Rattle.scan_report.proofs.Ordered.{read_none, read_more, rest_is}
use Rattle.scan_report.proofs.reading.read_report.Goals as goal

pub rows-init : goal.rows-init
rows-init c = subst (λ rows. IsRead c.args.bytes.now 0 between rows) (sym c.new-rows.ensures) (read_none c.args.bytes.now)

pub rows-preserved : goal.rows-preserved
rows-preserved c =
    let pushed : c.keep.new.items ≡ c.rows.rows ++ c.in-Some.found.row ∷ [] = search rules in
    let begins : BeginsWith (stage_of c.rows.stand) (drop c.rows.place c.args.bytes.now) c.in-Some.found.row c.in-Some.found.len = rw rest_is at c.in-Some.ensures.some in
    let more = read_more c.args.bytes.now c.rows.place c.in-Some.found.len (stage_of c.rows.stand) c.rows.rows c.in-Some.found.row c.rows.invariant begins in
    let staged = subst (λ s. IsRead c.args.bytes.now (c.rows.place + c.in-Some.found.len) s (c.rows.rows ++ c.in-Some.found.row ∷ [])) (sym c.stand_after-stand.ensures) more in
    subst (λ rows. IsRead c.args.bytes.now (c.rows.place + c.in-Some.found.len) (stage_of c.stand_after-stand.result) rows) (sym pushed) staged
