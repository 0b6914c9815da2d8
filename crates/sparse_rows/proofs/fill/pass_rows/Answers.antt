use Rattle.std.proofs.Common.{below_more, arith, ◌+◌, ◌*◌, ◌≤◌}
use Rattle.std.proofs.Math.Nat.{mul-le-mul_right}
use Rattle.sparse_rows.specs.Marks.{PassesOn}
use Rattle.sparse_rows.proofs.Marks.{grown_none, grown_then, grown_less, passes_kept}
use Rattle.sparse_rows.proofs.fill.pass_rows.Goals as goal

pub loop-k-init : goal.loop-k-init
loop-k-init c = record { passed = λ k l. absurd (omega arith); grown = grown_none c.args.size 0 c.args.marks.now }

pub loop-k-preserved : goal.loop-k-preserved
loop-k-preserved c =
    let size = c.args.size in
    let k = c.loop-k.k in
    let mid = c.loop-k.marks in
    let new = c.pass_row.new.marks in
    let step = c.pass_row.ensures in
    record {
      passed = below_more (λ i. PassesOn size new i) k
          (λ i l.
          let before : (i + 1) * size ≤ (k + 1) * size = mul-le-mul_right size (omega arith) in
          passes_kept size ((k + 1) * size) i mid new before step.grown (c.loop-k.invariant.passed i l))
          step.passed;
      grown = grown_then size 0 c.args.marks.now mid new c.loop-k.invariant.grown (grown_less size ((k + 1) * size) 0 mid new (omega arith) step.grown);
    }
