use Rattle.std.proofs.Common.{arith}
use Rattle.report_verify.proofs.lines.check_count.Goals as goal

pub overflow_add-told : goal.overflow_add-told
overflow_add-told c = omega (arith, c.requires.told.few, c.requires.begins, c.requires.up, c.requires.short)
