use Rattle.std.proofs.Common.{refl, subst, Option}
use Rattle.harmscan_core.specs.Outcome.{HappensFor, reports}
use Rattle.harmscan_core.specs.Subject.{drilled}
use Rattle.harmscan_core.specs.Words.{Reading}
use Rattle.harmscan_core.proofs.WordCounts.{read_as}
use Rattle.harmscan_core.proofs.perform.perform.Goals as goal

pub returns-in-Some-Scan : goal.returns-in-Some-Scan
returns-in-Some-Scan g c =
    subst (λ (w : Option Reading). HappensFor w (g.F.Shelf.state c.args.shelf.now) (g.F.Shelf.state c.scan.new.shelf) (g.O.Sink.state c.args.out.now) (g.O.Sink.state c.scan.new.out) c.scan.result)
    (read_as c.reading.result _ _ _ c.reading.ensures c.in-Some-Scan.is c.in-Some-Scan.field-0-is) c.scan.ensures

pub returns-in-Some-Candidates : goal.returns-in-Some-Candidates
returns-in-Some-Candidates g c =
    subst (λ (w : Option Reading). HappensFor w (g.F.Shelf.state c.args.shelf.now) (g.F.Shelf.state c.candidates.new.shelf) (g.O.Sink.state c.args.out.now) (g.O.Sink.state c.candidates.new.out) c.candidates.result)
    (read_as c.reading.result _ _ _ c.reading.ensures c.in-Some-Candidates.is c.in-Some-Candidates.field-0-is) c.candidates.ensures

pub returns-in-Some-Tolerance : goal.returns-in-Some-Tolerance
returns-in-Some-Tolerance g c =
    subst (λ (w : Option Reading). HappensFor w (g.F.Shelf.state c.args.shelf.now) (g.F.Shelf.state c.tolerance.new.shelf) (g.O.Sink.state c.args.out.now) (g.O.Sink.state c.tolerance.new.out) c.tolerance.result)
    (read_as c.reading.result _ _ _ c.reading.ensures c.in-Some-Tolerance.is c.in-Some-Tolerance.field-0-is) c.tolerance.ensures

pub returns-in-Some-Outages : goal.returns-in-Some-Outages
returns-in-Some-Outages g c =
    subst (λ (w : Option Reading). HappensFor w (g.F.Shelf.state c.args.shelf.now) (g.F.Shelf.state c.outages.new.shelf) (g.O.Sink.state c.args.out.now) (g.O.Sink.state c.outages.new.out) c.outages.result)
    (read_as c.reading.result _ _ _ c.reading.ensures c.in-Some-Outages.is c.in-Some-Outages.field-0-is) c.outages.ensures

pub returns-in-Some-Limits : goal.returns-in-Some-Limits
returns-in-Some-Limits g c =
    subst (λ (w : Option Reading). HappensFor w (g.F.Shelf.state c.args.shelf.now) (g.F.Shelf.state c.limits.new.shelf) (g.O.Sink.state c.args.out.now) (g.O.Sink.state c.limits.new.out) c.limits.result)
    (read_as c.reading.result _ _ _ c.reading.ensures c.in-Some-Limits.is c.in-Some-Limits.field-0-is) c.limits.ensures

pub returns-in-Some-Drill : goal.returns-in-Some-Drill
returns-in-Some-Drill g c =
    subst (λ (w : Option Reading). HappensFor w (g.F.Shelf.state c.args.shelf.now) (g.F.Shelf.state c.args.shelf.now) (g.O.Sink.state c.args.out.now) (g.O.Sink.state c.drill.new.out) c.drill.result)
    (read_as c.reading.result _ _ _ c.reading.ensures c.in-Some-Drill.is c.in-Some-Drill.field-0-is) (reports (drilled c.in-Some-Drill.number) (record { stays = refl; answer = refl }) c.drill.ensures)

pub returns-in-Some-Verify : goal.returns-in-Some-Verify
returns-in-Some-Verify g c =
    subst (λ (w : Option Reading). HappensFor w (g.F.Shelf.state c.args.shelf.now) (g.F.Shelf.state c.verify.new.shelf) (g.O.Sink.state c.args.out.now) (g.O.Sink.state c.verify.new.out) c.verify.result)
    (read_as c.reading.result _ _ _ c.reading.ensures c.in-Some-Verify.is c.in-Some-Verify.field-0-is) c.verify.ensures
