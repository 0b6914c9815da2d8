use Rattle.std.proofs.Common.{◌+◌, ◌*◌, arith}
use Rattle.std.proofs.Math.Nat.{mul-le-mul_right}
use Rattle.sparse_rows.specs.Marks.{Grown}
use Rattle.sparse_rows.proofs.Marks.{passed_none, passed_more, passed_over}
use Rattle.sparse_rows.proofs.fill.pass_on.Goals as goal
use Rattle.sparse_rows.proofs.fill.pass_on.Goals.{then-marks-k, else-marks-k}

pub loop-j-init : goal.loop-j-init
loop-j-init c = passed_none c.args.size c.args.k c.args.p c.args.marks.now

pub loop-j-preserved : goal.loop-j-preserved
loop-j-preserved c =
    let size = c.args.size in
    let k = c.args.k in
    let p = c.args.p in
    let j = c.loop-j.j in
    let old = c.args.marks.now in
    let mid = c.loop-j.marks in
    elim c.if-marks-k.branch [
      | then-marks-k w ↦
          let above = mul-le-mul_right {m = k + 1} {n = p} size (omega arith) in
          let behind = mul-le-mul_right {m = k + 1} {n = j} size (omega arith) in
          let more : Grown size ((k + 1) * size) mid w.mark.new.marks = w.mark.ensures.grown ((k + 1) * size) (omega arith) (omega arith) in
          rw w.marks-is (passed_more size k p j old mid w.mark.new.marks more w.mark.ensures.here c.loop-j.invariant)
      | else-marks-k w ↦ rw w.marks-is (passed_over size k p j old mid (omega arith) w.if-marks-k.false c.loop-j.invariant)
    ]
