-- Worked studies: one of a single bus, the same with a curve, and a plant with entries in every section.
use Rattle.std.specs.Prelude.{ℕ, ℤ, pos, false, true, [], ◌∷◌, codes, Some, None}
use Rattle.study_model.specs.Curve.{curve_of, flat_points}
use Rattle.study_model.specs.declared.words.StudyModel.TheVariants as study_model
use Rattle.study_model.specs.declared.words.Method.TheVariants as method
use Rattle.study_model.specs.declared.words.Sequence.TheVariants as sequence
use Rattle.study_model.specs.declared.words.Connection.TheVariants as connection
use Rattle.study_model.specs.declared.words.LoadModel.TheVariants as load_model
use Rattle.study_model.specs.declared.words.FilterKind.TheVariants as filter_kind
use Rattle.study_model.specs.declared.records.Bus.{Bus}
use Rattle.study_model.specs.declared.records.Source.{Source}
use Rattle.study_model.specs.declared.records.Line.{Line}
use Rattle.study_model.specs.declared.records.Transformer.{Transformer}
use Rattle.study_model.specs.declared.records.Load.{Load}
use Rattle.study_model.specs.declared.records.Bank.{Bank}
use Rattle.study_model.specs.declared.records.Filter.{Filter}
use Rattle.study_model.specs.declared.records.ScanItem.{ScanItem}
use Rattle.study_model.specs.declared.records.Pcc.{Pcc}
use Rattle.study_model.specs.declared.records.Candidate.{Candidate}
use Rattle.study_model.specs.declared.records.Tolerance.{Tolerance}
use Rattle.study_model.specs.declared.records.Outage.{Outage}
use Rattle.study_model.specs.declared.records.Study.{Study}

-- 10 kV
abbrev pub worked_bus : Bus
worked_bus = record { name = codes "B1"; kv = pos 10000000 }

-- one ohm of reactance
abbrev pub worked_source : Source
worked_source = record { name = codes "S1"; bus = 0; r = pos 0; x = pos 1000000; r0 = None; x0 = None; skin_k = pos 0; skin_m = pos 1000000 }

-- from order 1 to an order in millionths, threshold 20 ohms, finest width 0.001
abbrev pub worked_scan : ℤ → ScanItem
worked_scan to = record { name = codes "s1"; bus = 0; network = sequence.Positive; phase = None; from = pos 1000000; to = to; threshold = Some (pos 20000000); curve = curve_of (flat_points 20000000); finest = pos 1000; locate = pos 1000 }

abbrev pub worked_study : ℤ → Study
worked_study to = record {
  version = 1;
  mva = pos 100000000;
  hz = pos 50000000;
  model = study_model.Sequence;
  scale = 40;
  method = method.Elimination;
  root3 = pos 1732051;
  buses = worked_bus ∷ [];
  sources = worked_source ∷ [];
  lines = [];
  transformers = [];
  loads = [];
  banks = [];
  filters = [];
  scans = worked_scan to ∷ [];
  points = [];
  candidates = [];
  tolerances = [];
  outages = [];
}

-- a study of version 2: from order 1 to 10, a threshold from 2 ohms at order 1 to 20 ohms at an order in millionths
abbrev pub worked_curved : ℕ → Study
worked_curved last = record (worked_study (pos 10000000)) {
  version = 2;
  scans = record (worked_scan (pos 10000000)) {
    threshold = None;
    curve = curve_of (record { at = 1000000; ohms = 2000000 } ∷ record { at = last; ohms = 20000000 } ∷ []);
  } ∷ [];
}

-- a line of two sections between buses 1 and 2
abbrev pub worked_line : Line
worked_line = record {
  name = codes "L1";
  from = 1;
  to = 2;
  r = pos 600000;
  x = pos 1800000;
  b = pos 40000000;
  r0 = None;
  x0 = None;
  b0 = pos 0;
  sections = 2;
  xab = None;
  xbc = None;
  xca = None;
  skin_k = pos 500000;
  skin_m = pos 50000000;
}

-- a transformer between buses 0 and 1, grounded at the first
abbrev pub worked_transformer : Transformer
worked_transformer = record {
  name = codes "T1";
  from = 0;
  to = 1;
  mva = pos 60000000;
  r = pos 500000;
  x = pos 12000000;
  ratio = pos 1025000;
  from_conn = connection.Grounded;
  to_conn = connection.Delta;
  from_rn = pos 2000000;
  from_xn = pos 0;
  to_rn = pos 0;
  to_xn = pos 0;
  skin_k = pos 0;
  skin_m = pos 1000000;
}

-- a load by its power
abbrev pub worked_load : Load
worked_load = record { name = codes "D1"; bus = 1; model = load_model.Cigre; p = Some (pos 6000000); q = Some (pos 2000000); r = None; x = None; grounded = false; phase = None }

-- a load by its impedance
abbrev pub worked_motor : Load
worked_motor = record { name = codes "D2"; bus = 2; model = load_model.Series; p = None; q = None; r = Some (pos 0); x = Some (pos 9000000); grounded = true; phase = None }

-- a bank of 5 MVAr
abbrev pub worked_bank : Bank
worked_bank = record { name = codes "K1"; bus = 2; q = pos 5000000; grounded = false; phase = None }

-- a filter of 4 MVAr that is tuned to order 11
abbrev pub worked_filter : Filter
worked_filter = record { name = codes "X1"; bus = 2; kind = filter_kind.Single; q = pos 4000000; order = pos 11000000; quality = pos 40000000; grounded = false; phase = None }

-- a point at bus 1, by the number of its element
abbrev pub worked_point : ℕ → Pcc
worked_point element = record { name = codes "P1"; bus = 1; element = element; isc = pos 6000000000; il = pos 200000000 }

-- a bank of 4 or of half an MVAr at the bus of the scan of a number
abbrev pub worked_candidate : ℕ → Candidate
worked_candidate scan = record { scan = scan; sizes = pos 4000000 ∷ pos 500000 ∷ [] }

-- 100 thousandths of the values of the element of a number
abbrev pub worked_tolerance : ℕ → Tolerance
worked_tolerance element = record { element = element; permille = 100 }

-- the element of a number out of service
abbrev pub worked_outage : ℕ → Outage
worked_outage element = record { element = element }

-- one element of each kind and two loads: the source is 1, the line 2, the transformer 3, the loads 4 and 5, the bank 6 and the filter 7
abbrev pub worked_plant : ℕ → Study
worked_plant element = record {
  version = 1;
  mva = pos 100000000;
  hz = pos 50000000;
  model = study_model.Sequence;
  scale = 48;
  method = method.Both;
  root3 = pos 1732051;
  buses = record { name = codes "GRID"; kv = pos 132000000 } ∷ record { name = codes "MAIN"; kv = pos 33000000 } ∷ record { name = codes "F1"; kv = pos 33000000 } ∷ [];
  sources = worked_source ∷ [];
  lines = worked_line ∷ [];
  transformers = worked_transformer ∷ [];
  loads = worked_load ∷ worked_motor ∷ [];
  banks = worked_bank ∷ [];
  filters = worked_filter ∷ [];
  scans = worked_scan (pos 10000000) ∷ [];
  points = worked_point element ∷ [];
  candidates = worked_candidate 1 ∷ [];
  tolerances = worked_tolerance 2 ∷ worked_tolerance 1 ∷ [];
  outages = worked_outage 6 ∷ worked_outage 7 ∷ [];
}

-- the plant with a point at the transformer, a candidate at the scan of a number, tolerances of an element and of the source, and outages of an element and of the filter
abbrev pub worked_variants : ℕ → ℕ → ℕ → Study
worked_variants scan tolerant out = record (worked_plant 3) {
  candidates = worked_candidate scan ∷ [];
  tolerances = worked_tolerance tolerant ∷ worked_tolerance 1 ∷ [];
  outages = worked_outage out ∷ worked_outage 7 ∷ [];
}
