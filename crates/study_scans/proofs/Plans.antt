-- Scans that are planned one after another.
use Rattle.std.proofs.Common.{◌≡◌, ◌∙◌, ◌<◌, ◌≤◌, ◌+◌, ℕ, suc, List, [], ◌∷◌, ◌++◌, map, drop, length, get_or, ap, sym, refl, arith, append-nil, drop-cons}
use Rattle.std.proofs.lemmas.List.{drop_all}
use Rattle.std.specs.List.{AllByRecursion}
use Rattle.band_subdivision.specs.Boxes.{BoxTest}
use Rattle.study_model.specs.declared.records.ScanItem.{ScanItem}
use Rattle.study_model.specs.declared.records.Study.{Study}
use Rattle.study_scans.specs.Plan.{IsPlannedBy, IsPlanBy}
use Rattle.study_scans.specs.declared.plan.PlannedScan.{PlannedScan}

abbrev pub scans_of : {E : Type 0} → List (PlannedScan E) → List ScanItem
scans_of plan = map (λ planned. planned.scan) plan

-- the scans before this one are planned
pub record Planning {E : Type 0} (tests : ScanItem → BoxTest) (study : Study) (plan : List (PlannedScan E)) (scans : List ScanItem) (i : ℕ) : Type 0 where
  pub before : scans_of plan ++ drop i scans ≡ scans
  pub each : AllByRecursion (IsPlannedBy tests study) plan

scans_of_more : {E : Type 0} (plan : List (PlannedScan E)) (planned : PlannedScan E) (rest : List ScanItem) → scans_of (plan ++ planned ∷ []) ++ rest ≡ scans_of plan ++ planned.scan ∷ rest
scans_of_more [] planned rest = refl
scans_of_more (p ∷ plan) planned rest = ap (λ (l : List ScanItem). p.scan ∷ l) (scans_of_more plan planned rest)

each_more : {E : Type 0} (tests : ScanItem → BoxTest) (study : Study) (plan : List (PlannedScan E)) (planned : PlannedScan E) → AllByRecursion (IsPlannedBy tests study) plan → IsPlannedBy tests study planned → AllByRecursion (IsPlannedBy tests study) (plan ++ planned ∷ [])
each_more tests study [] planned h p = (p, tt)
each_more tests study (q ∷ plan) planned h p = (h.0, each_more tests study plan planned h.1 p)

pub planning_next : {E : Type 0} (tests : ScanItem → BoxTest) (study : Study) (plan : List (PlannedScan E)) (planned : PlannedScan E) (scans : List ScanItem) (i : ℕ) (scan : ScanItem) → i < length scans → scan ≡ get_or scans i scan
    → planned.scan ≡ scan → IsPlannedBy tests study planned → Planning tests study plan scans i → Planning tests study (plan ++ planned ∷ []) scans (i + 1)
planning_next tests study plan planned scans i scan inside there is can p =
    let next : suc i ≡ i + 1 = omega arith in
    let rest : drop i scans ≡ scan ∷ drop (i + 1) scans
    = drop-cons scans i scan inside ∙ ap (λ (x : ScanItem). x ∷ drop (suc i) scans) (sym there) ∙ ap (λ (k : ℕ). scan ∷ drop k scans) next in
    record {
      before = scans_of_more plan planned (drop (i + 1) scans) ∙ ap (λ (x : ScanItem). scans_of plan ++ x ∷ drop (i + 1) scans) is ∙ sym (ap (λ (l : List ScanItem). scans_of plan ++ l) rest) ∙ p.before;
      each = each_more tests study plan planned p.each can;
    }

pub planning_end : {E : Type 0} (tests : ScanItem → BoxTest) (study : Study) (plan : List (PlannedScan E)) (scans : List ScanItem) (i : ℕ) → i ≡ length scans → scans ≡ study.scans → Planning tests study plan scans i → IsPlanBy tests study plan
planning_end tests study plan scans i last same p =
    let past : length scans ≤ i = omega (arith, last) in
    record {
      scans = sym (append-nil (scans_of plan)) ∙ sym (ap (λ (l : List ScanItem). scans_of plan ++ l) (drop_all i scans past)) ∙ p.before ∙ same;
      each = p.each;
    }
