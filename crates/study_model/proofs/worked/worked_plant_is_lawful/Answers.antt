use Rattle.std.proofs.Common.{rules, arith, pos, ℕ, zero, suc, ◌≡◌, ◌<◌, [], ◌∷◌, get_or}
use Rattle.std.proofs.lemmas.List.Elements.{All-cons, All-nil}
use Rattle.study_model.specs.Lawful.{IsLawfulScan}
use Rattle.study_model.specs.Worked.{worked_scan, worked_point, worked_plant}
use Rattle.study_model.specs.declared.words.StudyModel.TheVariants as study_model
use Rattle.study_model.proofs.WorkedScans.{scan_lawful}
use Rattle.study_model.proofs.worked.worked_plant_is_lawful.Goals as goal

-- the source touches bus 0 alone
not_there : (k : ℕ) → k < 1 → get_or {A = ℕ} (0 ∷ []) k 1 ≡ 1 → ⊥
not_there zero lt e = omega (arith, e)
not_there (suc k) lt e = omega arith

pub returns-clause-elsewhere : goal.returns-clause-elsewhere
returns-clause-elsewhere c h =
    let point = h.points 0 (worked_point 1) (omega arith) in
    let touched = point.element.1 in
    not_there touched.0 touched.1 touched.2

pub returns-clause-absent : goal.returns-clause-absent
returns-clause-absent c h =
    let point = h.points 0 (worked_point 8) (omega arith) in
    point.element.1

pub returns-clause-lawful : goal.returns-clause-lawful
returns-clause-lawful c = record {
  version = search rules;
  mva = search rules;
  hz = search rules;
  scale = search rules;
  root3 = search rules;
  buses_count = search rules;
  buses = search rules;
  sources_count = search rules;
  sources = search rules;
  lines_count = search rules;
  lines = search rules;
  transformers_count = search rules;
  transformers = search rules;
  loads_count = search rules;
  loads = search rules;
  banks_count = search rules;
  banks = search rules;
  filters_count = search rules;
  filters = search rules;
  scans_count = search rules;
  scans = All-cons (IsLawfulScan 1 study_model.Sequence (worked_plant 3).buses) (worked_scan (pos 10000000)) [] (scan_lawful (worked_plant 3).buses (omega arith)) (All-nil (IsLawfulScan 1 study_model.Sequence (worked_plant 3).buses));
  points_count = search rules;
  points = search rules;
  candidates_count = search rules;
  candidates = search rules;
  tolerances_count = search rules;
  tolerances = search rules;
  tolerances_differ = search rules;
  outages_count = search rules;
  outages = search rules;
  outages_differ = search rules;
  names = search rules;
}
