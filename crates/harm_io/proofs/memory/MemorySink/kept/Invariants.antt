use Rattle.std.proofs.Common.{◌≡◌, None, drop}
use Rattle.harm_io.specs.Listed.{kept_from}
use Rattle.harm_io.proofs.memory.MemorySink.kept.Given as goal

abbrev pub invariant-loop-failing : goal.invariant-loop-failing
invariant-loop-failing l = kept_from l.kept (drop l.failing-index l.self.failing.items) l.self.calls ≡ kept_from None l.self.failing.items l.self.calls
