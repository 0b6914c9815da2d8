use Rattle.std.proofs.Common.{◌≡◌, ◌∙◌, ap, sym}
use Rattle.band_subdivision.specs.Scan.{Scanning}
use Rattle.band_subdivision.specs.ScanSpec.{IsScanSpec}
use Rattle.band_subdivision.specs.Testing.{Testing}
use Rattle.band_subdivision.proofs.Scans.{band_covers}
use Rattle.band_subdivision.proofs.scan.Scan.restart.Goals as goal

pub returns-clause-covers : goal.returns-clause-covers
returns-clause-covers g c =
    let kept : c.set_extra.new.self.spec ≡ c.self.inside.test.spec = ap (λ (t : Testing). t.spec) c.set_extra.ensures in
    let same : c.args.self.now.spec ≡ c.set_extra.new.self.spec = sym (ap (λ (s : Scanning). s.spec) c.self.view_is) ∙ sym kept in
    let in_range : IsScanSpec c.set_extra.new.self.spec = rw kept c.self.invariant.spec in
    rw (same, c.new-self-inside.ensures, c.spec-spec.ensures) (band_covers g.E.Enclosure.SCALE c.set_extra.new.self in_range)
