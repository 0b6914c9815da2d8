-- A study of one bus that can be worked by hand: at 10 kV and 100 MVA one ohm is one per unit.
use Rattle.std.specs.Prelude.{pos, false, [], ◌∷◌, codes, Some, None}
use Rattle.exact_algebra.specs.Complex.{complex_over}
use Rattle.network_theory.specs.DrivingPoint.{IsDrivingPoint}
use Rattle.study_model.specs.declared.words.StudyModel.TheVariants as study_model
use Rattle.study_model.specs.declared.words.Method.TheVariants as method
use Rattle.study_model.specs.declared.words.Sequence.TheVariants as sequence
use Rattle.study_model.specs.declared.words.LoadModel.TheVariants as load_model
use Rattle.study_model.specs.declared.records.Study.{Study}
use Rattle.sequence_network.specs.Networks.{network_of}

-- a source of 1 ohm, a load of 4 MW and 2 MVAr in parallel, one of 3 and 4 ohms in series, and a bank of 4 MVAr
abbrev pub worked_study : Study
worked_study = record {
  version = 1;
  mva = pos 100000000;
  hz = pos 50000000;
  model = study_model.Sequence;
  scale = 40;
  method = method.Elimination;
  root3 = pos 1732051;
  buses = record { name = codes "B1"; kv = pos 10000000 } ∷ [];
  sources = record { name = codes "S1"; bus = 0; r = pos 0; x = pos 1000000; r0 = None; x0 = None; skin_k = pos 0; skin_m = pos 1000000 } ∷ [];
  lines = [];
  transformers = [];
  loads = record { name = codes "D1"; bus = 0; model = load_model.Parallel; p = Some (pos 4000000); q = Some (pos 2000000); r = None; x = None; grounded = false; phase = None }
      ∷ record { name = codes "D2"; bus = 0; model = load_model.Series; p = None; q = None; r = Some (pos 3000000); x = Some (pos 4000000); grounded = false; phase = None } ∷ [];
  banks = record { name = codes "K1"; bus = 0; q = pos 4000000; grounded = false; phase = None } ∷ [];
  filters = [];
  scans = [];
  points = [];
  candidates = [];
  tolerances = [];
  outages = [];
}

-- At order 2 its admittances are -j/2, 1/25, -j/100, (3 - 8j)/73 and 2j/25; the impedance is (11840 + 78780j)/43469.
abbrev pub AtOrderTwo : Type 0
AtOrderTwo = IsDrivingPoint (network_of worked_study sequence.Positive) (record { n = 2; d = 1 }) 0 (complex_over (pos 11840) (pos 78780) 43469)
