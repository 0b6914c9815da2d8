use Rattle.std.proofs.Common.{refl, arith}
use Rattle.std.proofs.lemmas.Int.{ints}
use Rattle.band_subdivision.specs.ScanSpec.{nothing}
use Rattle.band_subdivision.specs.Testing.{Testing}
use Rattle.band_subdivision.proofs.Scans.{band_left, band_covers, scan_begins}
use Rattle.band_subdivision.proofs.scan.scan_by.Goals as goal

pub returns : goal.returns
returns g c =
    let t : Testing = record { spec = c.args.spec; low = c.args.assembly.low; high = c.args.assembly.high; driven = c.args.assembly.driven; ordering = c.args.assembly.ordering; extra = nothing } in
    rw (c.new-stack.ensures, c.new.ensures) (record {
      same_spec = refl;
      from_low = refl;
      to_high = refl;
      at = refl;
      ready = c.requires.ready;
      no_extra = refl;
      left = band_left g.E.Enclosure.SCALE t;
      covers = band_covers g.E.Enclosure.SCALE t c.requires.spec;
    })

pub invariant_of-result : goal.invariant_of-result
invariant_of-result g c =
    let t : Testing = record { spec = c.args.spec; low = c.args.assembly.low; high = c.args.assembly.high; driven = c.args.assembly.driven; ordering = c.args.assembly.ordering; extra = nothing } in
    rw (c.new-stack.ensures, c.new.ensures) (scan_begins t c.requires.spec c.requires.ready (omega (arith, ints)))
