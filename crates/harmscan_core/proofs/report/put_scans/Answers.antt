use Rattle.harmscan_core.proofs.Plans.{putting_start, putting_first, putting_next, putting_stop}
use Rattle.harmscan_core.proofs.report.put_scans.Goals as goal

pub scans-init : goal.scans-init
scans-init g c = putting_start c.args.study.now c.args.plan.now.items (g.O.Sink.state c.args.out.now) c.requires.plan

pub put_scan-requires-clause-scan : goal.put_scan-requires-clause-scan
put_scan-requires-clause-scan g c = (putting_first c.args.study.now c.args.plan.now.items c.scans.plan.items c.in-Some.planned c.pop_front.new.self.items c.scans.found _ _ c.in-Some.ensures.items c.scans.invariant).lawful

pub put_scan-requires-clause-text : goal.put_scan-requires-clause-text
put_scan-requires-clause-text g c = (putting_first c.args.study.now c.args.plan.now.items c.scans.plan.items c.in-Some.planned c.pop_front.new.self.items c.scans.found _ _ c.in-Some.ensures.items c.scans.invariant).texts

pub put_scan-requires-clause-few : goal.put_scan-requires-clause-few
put_scan-requires-clause-few g c = (putting_first c.args.study.now c.args.plan.now.items c.scans.plan.items c.in-Some.planned c.pop_front.new.self.items c.scans.found _ _ c.in-Some.ensures.items c.scans.invariant).few

pub returns-in-Err-clause-wrote : goal.returns-in-Err-clause-wrote
returns-in-Err-clause-wrote g c =
    putting_stop c.args.study.now c.args.plan.now.items c.scans.plan.items c.in-Some.planned c.pop_front.new.self.items c.scans.found _ _ _ c.in-Err.fault c.in-Some.ensures.items c.scans.invariant c.in-Err.ensures.wrote

pub scans-preserved : goal.scans-preserved
scans-preserved g c =
    putting_next c.args.study.now c.args.plan.now.items c.scans.plan.items c.in-Some.planned c.pop_front.new.self.items c.scans.found c.and-found.result c.in-Ok.counts _ _ _
    c.in-Some.ensures.items c.scans.invariant c.in-Ok.ensures.wrote c.in-Ok.ensures.counts c.and-found.ensures

pub scans-preserved-in-Ok : goal.scans-preserved-in-Ok
scans-preserved-in-Ok g c =
    putting_next c.args.study.now c.args.plan.now.items c.scans.plan.items c.in-Some.planned c.pop_front.new.self.items c.scans.found c.and-found.result c.in-Ok.counts _ _ _
    c.in-Some.ensures.items c.scans.invariant c.in-Ok.ensures.wrote c.in-Ok.ensures.counts c.and-found.ensures

pub scans-preserved-in-Ok-2 : goal.scans-preserved-in-Ok-2
scans-preserved-in-Ok-2 g c =
    putting_next c.args.study.now c.args.plan.now.items c.scans.plan.items c.in-Some.planned c.pop_front.new.self.items c.scans.found c.and-found.result c.in-Ok.counts _ _ _
    c.in-Some.ensures.items c.scans.invariant c.in-Ok.ensures.wrote c.in-Ok.ensures.counts c.and-found.ensures

pub scans-preserved-in-Ok-3 : goal.scans-preserved-in-Ok-3
scans-preserved-in-Ok-3 g c =
    putting_next c.args.study.now c.args.plan.now.items c.scans.plan.items c.in-Some.planned c.pop_front.new.self.items c.scans.found c.and-found.result c.in-Ok.counts _ _ _
    c.in-Some.ensures.items c.scans.invariant c.in-Ok.ensures.wrote c.in-Ok.ensures.counts c.and-found.ensures
