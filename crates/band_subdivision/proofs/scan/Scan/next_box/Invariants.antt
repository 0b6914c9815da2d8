use Rattle.std.proofs.Common.{◌≡◌}
use Rattle.band_subdivision.specs.Left.{boxes_left}
use Rattle.band_subdivision.specs.Scan.{IsScan}
use Rattle.band_subdivision.specs.ScanSpec.{widths_of}
use Rattle.band_subdivision.specs.Stack.{top_width}
use Rattle.band_subdivision.specs.Testing.{Testing, box_test}
use Rattle.band_subdivision.proofs.scan.Scan.next_box.Given as goal

abbrev pub invariant-walking : goal.invariant-walking
invariant-walking g l = record {
  scan : IsScan l.self-inside.test l.self-inside.stack;
  test : ◌≡◌ {A = Testing} l.self-inside.test (record { spec = l.fn.self.spec; low = l.fn.self.low; high = l.fn.self.high; driven = l.fn.self.driven; ordering = l.fn.self.ordering; extra = l.fn.self.extra });
  left : boxes_left (box_test g.E.Enclosure.SCALE l.self-inside.test) (widths_of l.self-inside.test.spec) l.self-inside.stack ≡ l.fn.self.left;
}

abbrev pub decreases-walking : goal.decreases-walking
decreases-walking g l = top_width l.self-inside.stack
