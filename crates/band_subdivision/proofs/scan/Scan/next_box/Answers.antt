use Rattle.std.proofs.Common.{◌≡◌, ◌+◌, ◌-◌, ◌/◌, ◌∙◌, sym, ap, arith}
use Rattle.band_subdivision.specs.Boxes.{middle}
use Rattle.band_subdivision.specs.ScanSpec.{widths_of}
use Rattle.band_subdivision.specs.Stack.{split_top}
use Rattle.band_subdivision.specs.Testing.{box_test}
use Rattle.band_subdivision.proofs.Levels.{top_is, top_above, left_settled, left_split, kind_none}
use Rattle.band_subdivision.proofs.Scans.{true_here, scan_split}
use Rattle.band_subdivision.proofs.scan.Scan.next_box.Goals as goal

pub returns-in-Some-settle-clause-next : goal.returns-in-Some-settle-clause-next
returns-in-Some-settle-clause-next g c =
    let scan = c.walking.invariant.scan in
    let top = top_is c.walking.self-inside.stack c.in-Some.lo c.in-Some.hi c.in-Some.ensures in
    let above = top_above c.walking.self-inside.test.spec.from c.walking.self-inside.test.spec.finest c.walking.self-inside.stack c.in-Some.lo c.in-Some.hi scan.stack top in
    rw (← c.walking.invariant.left, c.settle.ensures.same, c.pop.ensures)
    (left_settled (box_test g.E.Enclosure.SCALE c.walking.self-inside.test) (widths_of c.walking.self-inside.test.spec)
    c.walking.self-inside.stack c.in-Some.lo c.in-Some.hi c.in-Some-settle.kind scan.stack.split above top c.in-Some-settle.ensures.value)

pub returns-in-Some-settle-clause-truth : goal.returns-in-Some-settle-clause-truth
returns-in-Some-settle-clause-truth g c =
    let top = top_is c.walking.self-inside.stack c.in-Some.lo c.in-Some.hi c.in-Some.ensures in
    true_here g.E.Enclosure.SCALE c.walking.self-inside.test c.args.self.now c.walking.self-inside.stack c.walking.invariant.test c.walking.invariant.scan
    c.in-Some.lo c.in-Some.hi c.in-Some-settle.kind top c.in-Some-settle.ensures.value

pub walking-preserved : goal.walking-preserved
walking-preserved g c =
    let scan = c.walking.invariant.scan in
    let top = top_is c.walking.self-inside.stack c.in-Some.lo c.in-Some.hi c.in-Some.ensures in
    let above = top_above c.walking.self-inside.test.spec.from c.walking.self-inside.test.spec.finest c.walking.self-inside.stack c.in-Some.lo c.in-Some.hi scan.stack top in
    let wide = kind_none (box_test g.E.Enclosure.SCALE c.walking.self-inside.test) (widths_of c.walking.self-inside.test.spec) c.in-Some.lo c.in-Some.hi (sym c.in-None.ensures.value) in
    let at : c.in-Some.lo + (c.in-Some.hi - c.in-Some.lo) / 2 ≡ middle c.in-Some.lo c.in-Some.hi = omega (arith, above) in
    let split : c.split.new.self ≡ split_top c.walking.self-inside.stack (middle c.in-Some.lo c.in-Some.hi)
    = c.split.ensures ∙ ap (λ m. split_top c.walking.self-inside.stack m) at in
    record {
      scan = rw (c.settle.ensures.same, split) (scan_split c.walking.self-inside.test c.walking.self-inside.stack c.in-Some.lo c.in-Some.hi scan top wide);
      test = c.settle.ensures.same ∙ c.walking.invariant.test;
      left = rw (c.settle.ensures.same, split) (left_split (box_test g.E.Enclosure.SCALE c.walking.self-inside.test) (widths_of c.walking.self-inside.test.spec)
          c.walking.self-inside.stack c.in-Some.lo c.in-Some.hi scan.stack.split above top c.in-None.ensures.value ∙ c.walking.invariant.left);
    }
