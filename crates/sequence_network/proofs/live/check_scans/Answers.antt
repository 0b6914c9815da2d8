use Rattle.std.proofs.Common.{◌≡◌, ◌+◌, ℕ, sym, subst, arith}
use borrow.Author.Count.{below_more}
use Rattle.net_branch.specs.Exact.{exact_network}
use Rattle.study_model.specs.declared.fault.StudyFault.TheVariants.{Floating}
use Rattle.study_model.specs.declared.fault.Section.TheVariants as section
use Rattle.study_model.specs.declared.fault.Key.TheVariants as key
use Rattle.sequence_network.specs.Refusals.{IsLiveScan, IsFloatingScan}
use Rattle.sequence_network.specs.Refusals.IsFloatingScan.{floating_scan}
use Rattle.sequence_network.proofs.Liveness.{some_at, all_at}
use Rattle.sequence_network.proofs.live.check_scans.Goals as goal

pub returns-then-is_floating-clause-floating : goal.returns-then-is_floating-clause-floating
returns-then-is_floating-clause-floating c =
    let zero = exact_network c.args.network.now in
    let scans = c.args.scans.now in
    let i = c.loop-scan.scan-index in
    let dead = some_at (λ s. ¬ IsLiveScan zero s) scans i c.scan-item.result (omega arith) c.scan-item.is (c.is_floating.ensures.dead c.if-is_floating.true) in
    let number : i + 1 ≡ c.loop-scan.number = sym c.loop-scan.invariant.number in
    subst (λ (n : ℕ). IsFloatingScan zero scans (Floating (record { section = section.Scan; entry = n; key = key.Bus }))) number (floating_scan i dead c.loop-scan.invariant.live)

pub loop-scan-preserved : goal.loop-scan-preserved
loop-scan-preserved c = record {
  number = omega (arith, c.loop-scan.invariant.number);
  live = below_more _ _ c.loop-scan.invariant.live
      (some_at (IsLiveScan (exact_network c.args.network.now)) c.args.scans.now c.loop-scan.scan-index c.scan-item.result (omega arith) c.scan-item.is (c.is_floating.ensures.live c.if-is_floating.false));
}

pub returns-clause-ok : goal.returns-clause-ok
returns-clause-ok c = all_at (IsLiveScan (exact_network c.args.network.now)) c.args.scans.now (λ k l. c.loop-scan.invariant.live k (omega arith))
