-- A bank at the bus of a scan, in one size after another.
use Rattle.std.specs.Prelude.{ℤ, List, map}
use Rattle.network_theory.specs.Network.{Network}
use Rattle.sequence_network.specs.Networks.{network_of}
use Rattle.study_model.specs.declared.records.ScanItem.{ScanItem}
use Rattle.study_model.specs.declared.records.Study.{Study}
use Rattle.study_model.specs.declared.words.Sequence.TheVariants.{Positive}
use Rattle.study_scans.specs.Scan.{spec_of, ordering_of}
use Rattle.study_variants.specs.Sizes.{Sizing, size_row}
use Rattle.study_variants.specs.declared.size_row.SizeRow.{SizeRow}

-- the network that a bank is added to
abbrev pub kept_network : Study → Network
kept_network study = network_of study Positive

-- it is scanned at the bus, with a bank there in each of these sizes
abbrev pub sizing_of : Study → ScanItem → List ℤ → Sizing
sizing_of study scan sizes = record {
  spec = spec_of study scan;
  network = kept_network study;
  driven = scan.bus;
  ordering = ordering_of (kept_network study) scan.bus;
  sizes = sizes;
  given = 0;
}

-- the sizes in their order, each with the counts of its boxes
unfoldable pub sizes_of : Study → ScanItem → List ℤ → List SizeRow
sizes_of study scan sizes = map (size_row study.scale (sizing_of study scan sizes)) sizes
