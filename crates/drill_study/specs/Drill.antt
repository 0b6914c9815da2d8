-- The study of a drill: 60 buses of 33 kV, each but the last with a line to a later one, and loads at some.
use Rattle.std.specs.Prelude.{ℕ, zero, suc, ◌+◌, ◌*◌, ◌-◌, ◌/◌, ◌%◌, ◌==◌, nat_lt, pos, Bool, false, if◌then◌else◌, List, [], ◌∷◌, Some, None, codes}
use Rattle.study_model.specs.Curve.{curve_of, flat_points}
use Rattle.study_model.specs.declared.words.StudyModel.TheVariants as study_model
use Rattle.study_model.specs.declared.words.Method.TheVariants as method
use Rattle.study_model.specs.declared.words.Sequence.TheVariants as sequence
use Rattle.study_model.specs.declared.words.LoadModel.TheVariants as load_model
use Rattle.study_model.specs.declared.words.FilterKind.TheVariants as filter_kind
use Rattle.study_model.specs.declared.records.Bus.{Bus}
use Rattle.study_model.specs.declared.records.Source.{Source}
use Rattle.study_model.specs.declared.records.Line.{Line}
use Rattle.study_model.specs.declared.records.Load.{Load}
use Rattle.study_model.specs.declared.records.Bank.{Bank}
use Rattle.study_model.specs.declared.records.Filter.{Filter}
use Rattle.study_model.specs.declared.records.ScanItem.{ScanItem}
use Rattle.study_model.specs.declared.records.Study.{Study}
use Rattle.drill_study.specs.Draws.{drawn, after}

-- a name: a letter and a number from 1 to 99
abbrev pub numbered : ℕ → ℕ → List ℕ
numbered letter n = if nat_lt n 10 then letter ∷ (48 + n) ∷ [] else letter ∷ (48 + n / 10) ∷ (48 + n % 10) ∷ []

-- so many buses, from bus j on; buses have their numbers from 0, and their names from 1
abbrev pub buses_from : ℕ → ℕ → List Bus
buses_from zero j = []
buses_from (suc count) j = record { name = numbered 66 (j + 1); kv = pos 33000000 } ∷ buses_from count (j + 1)

-- the line from bus j to a later one, with four draws after the state z
abbrev pub line_of : ℕ → ℕ → Line
line_of j z = record {
  name = numbered 76 (j + 1);
  from = j;
  to = j + 1 + drawn (after 1 z) (59 - j);
  r = pos ((10 + drawn (after 2 z) 50) * 1000);
  x = pos ((100 + drawn (after 3 z) 400) * 1000);
  b = pos ((20 + drawn (after 4 z) 200) * 1000000);
  r0 = None;
  x0 = None;
  b0 = pos 0;
  sections = 2;
  xab = None;
  xbc = None;
  xca = None;
  skin_k = pos 0;
  skin_m = pos 1000000;
}

-- so many lines, from bus j on
abbrev pub lines_from : ℕ → ℕ → ℕ → List Line
lines_from zero j z = []
lines_from (suc count) j z = line_of j z ∷ lines_from count (j + 1) (after 4 z)

-- the load at bus j, with a draw after the state z
abbrev pub load_of : ℕ → ℕ → Load
load_of j z = record {
  name = numbered 68 (j + 1);
  bus = j;
  model = load_model.Cigre;
  p = Some (pos ((1 + drawn (after 1 z) 4) * 1000000));
  q = Some (pos 1000000);
  r = None;
  x = None;
  grounded = false;
  phase = None;
}

-- whether a bus has a load, by the draw after a state
abbrev pub has_load : ℕ → Bool
has_load z = drawn (after 1 z) 3 == 0

-- the loads at so many buses, from bus j on
abbrev pub loads_from : ℕ → ℕ → ℕ → List Load
loads_from zero j z = []
loads_from (suc count) j z = if has_load z then load_of j (after 1 z) ∷ loads_from count (j + 1) (after 2 z) else loads_from count (j + 1) (after 1 z)

-- the state after the draws for loads at so many buses
abbrev pub after_loads : ℕ → ℕ → ℕ
after_loads zero z = z
after_loads (suc count) z = if has_load z then after_loads count (after 2 z) else after_loads count (after 1 z)

-- the buses of each drill
unfoldable pub drill_buses : List Bus
drill_buses = buses_from 60 0

-- the lines of a number, and the state after their draws
unfoldable pub drill_lines : ℕ → List Line
drill_lines number = lines_from 59 0 number

unfoldable pub drawn_lines : ℕ → ℕ
drawn_lines number = after 236 number

-- the loads of a number, and the state after their draws
unfoldable pub drill_loads : ℕ → List Load
drill_loads number = loads_from 59 0 (drawn_lines number)

unfoldable pub drawn_all : ℕ → ℕ
drawn_all number = after_loads 59 (drawn_lines number)

-- 0.05 and 0.5 ohms at the last bus
abbrev pub drill_source : Source
drill_source = record { name = codes "S1"; bus = 59; r = pos 50000; x = pos 500000; r0 = None; x0 = None; skin_k = pos 0; skin_m = pos 1000000 }

-- at the first bus, with a draw after the state z
abbrev pub bank_of : ℕ → Bank
bank_of z = record { name = codes "K1"; bus = 0; q = pos ((1 + drawn (after 1 z) 6) * 1000000); grounded = false; phase = None }

-- 2 MVAr at bus 30, tuned to order 11
abbrev pub drill_filter : Filter
drill_filter = record { name = codes "H1"; bus = 29; kind = filter_kind.HighPass; q = pos 2000000; order = pos 11000000; quality = pos 3000000; grounded = false; phase = None }

-- from order 2 to 12 at the last bus, with a threshold of 20 ohms
abbrev pub drill_scan : ScanItem
drill_scan = record {
  name = codes "s1";
  bus = 59;
  network = sequence.Positive;
  phase = None;
  from = pos 2000000;
  to = pos 12000000;
  threshold = Some (pos 20000000);
  curve = curve_of (flat_points 20000000);
  finest = pos 50000;
  locate = pos 100000;
}

-- the study of a number
unfoldable pub drill_of : ℕ → Study
drill_of number = record {
  version = 1;
  mva = pos 100000000;
  hz = pos 50000000;
  model = study_model.Sequence;
  scale = 40;
  method = method.Elimination;
  root3 = pos 1732051;
  buses = drill_buses;
  sources = drill_source ∷ [];
  lines = drill_lines number;
  transformers = [];
  loads = drill_loads number;
  banks = bank_of (drawn_all number) ∷ [];
  filters = drill_filter ∷ [];
  scans = drill_scan ∷ [];
  points = [];
  candidates = [];
  tolerances = [];
  outages = [];
}
