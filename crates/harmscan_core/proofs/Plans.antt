-- Scans that are written one after another.
use Rattle.std.proofs.Common.{◌≡◌, ◌∙◌, List, [], ◌∷◌, Err, ap, sym, subst, refl}
use Rattle.harm_io.specs.Sinks.{SinkState, took, Writes}
use Rattle.harm_io.specs.declared.sink.PutFault.{PutFault}
use Rattle.harm_io.proofs.Writing.{WroteFront, front_start, front_next, front_stop, front_end}
use Rattle.study_model.specs.declared.records.Study.{Study}
use Rattle.study_scans.specs.Fold.{tallied, no_tally, found_too, nothing_found}
use Rattle.harmscan_core.specs.Plans.{IsReady, AreReady, found_among}
use Rattle.harmscan_core.specs.Texts.{scan_text, plan_text}
use Rattle.study_scans.specs.declared.counts.Counts.{Counts}
use Rattle.study_scans.specs.declared.counts.Found.{Found}
use Rattle.study_scans.specs.declared.plan.PlannedScan.{PlannedScan}

-- the rows of the scans of a whole plan before this one were written, and this was found in them
pub record Putting {E : Type 0} (study : Study) (whole plan : List (PlannedScan E)) (found : Found) (before now : SinkState) : Type 0 where
  pub ready : AreReady study plan
  pub wrote : WroteFront before now (plan_text study plan) (plan_text study whole)
  pub counts : found_among found plan ≡ found_among nothing_found whole

pub putting_start : {E : Type 0} (study : Study) (plan : List (PlannedScan E)) (out : SinkState) → AreReady study plan → Putting study plan plan nothing_found out out
putting_start {E} study plan out ready = record { ready = ready; wrote = front_start out (plan_text study plan); counts = refl }

-- the next scan of a plan
pub putting_first : {E : Type 0} (study : Study) (whole plan : List (PlannedScan E)) (planned : PlannedScan E) (rest : List (PlannedScan E)) (found : Found) (before now : SinkState)
    → plan ≡ planned ∷ rest → Putting study whole plan found before now → IsReady study planned
putting_first {E} study whole plan planned rest found before now e p = (subst (AreReady study) e p.ready).0

-- it was written
pub putting_next : {E : Type 0} (study : Study) (whole plan : List (PlannedScan E)) (planned : PlannedScan E) (rest : List (PlannedScan E)) (found more : Found) (counts : Counts) (before now after : SinkState)
    → plan ≡ planned ∷ rest → Putting study whole plan found before now → after ≡ took now (scan_text study planned.scan planned.walk.left) → counts ≡ (tallied no_tally planned.walk.left).counts
    → more ≡ found_too found counts → Putting study whole rest more before after
putting_next {E} study whole plan planned rest found more counts before now after e p wrote is next =
    let q = subst (λ (l : List (PlannedScan E)). Putting study whole l found before now) e p in
    record {
      ready = q.ready.1;
      wrote = front_next before now after (scan_text study planned.scan planned.walk.left) (plan_text study rest) (plan_text study whole) q.wrote wrote;
      counts = ap (λ (f : Found). found_among f rest) (next ∙ ap (found_too found) is) ∙ q.counts;
    }

-- it was not
pub putting_stop : {E : Type 0} (study : Study) (whole plan : List (PlannedScan E)) (planned : PlannedScan E) (rest : List (PlannedScan E)) (found : Found) (before now after : SinkState) (fault : PutFault)
    → plan ≡ planned ∷ rest → Putting study whole plan found before now → Writes {A = Counts} (scan_text study planned.scan planned.walk.left) now after (Err fault)
    → Writes {A = Found} (plan_text study whole) before after (Err fault)
putting_stop {E} study whole plan planned rest found before now after fault e p w =
    let q = subst (λ (l : List (PlannedScan E)). Putting study whole l found before now) e p in
    front_stop Counts Found before now after (scan_text study planned.scan planned.walk.left) (plan_text study rest) (plan_text study whole) fault q.wrote w

-- all were
pub putting_end : {E : Type 0} (study : Study) (whole plan : List (PlannedScan E)) (found : Found) (before now : SinkState) → plan ≡ [] → Putting study whole plan found before now
    → (now ≡ took before (plan_text study whole)) × (found ≡ found_among nothing_found whole)
putting_end {E} study whole plan found before now e p =
    let q = subst (λ (l : List (PlannedScan E)). Putting study whole l found before now) e p in (front_end before now (plan_text study whole) q.wrote, q.counts)
