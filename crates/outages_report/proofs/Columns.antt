-- The envelopes of scans are those over the outages that don't float.
use Rattle.std.proofs.Common.{◌≡◌, ◌∙◌, ℕ, zero, suc, ◌+◌, ◌<◌, ◌≤◌, Bool, true, false, List, [], ◌∷◌, ◌++◌, map, length, refl, ap, sym, subst, append_assoc, length-append, arith}
use Rattle.std.specs.Prelude.{not, cond, slice_get, Option, Some, None}
use Rattle.scan_report.specs.declared.rows.Row.{Row}
use Rattle.study_model.specs.Lawful.{IsLawful}
use Rattle.study_model.specs.declared.records.Outage.{Outage}
use Rattle.study_model.specs.declared.records.ScanItem.{ScanItem}
use Rattle.study_model.specs.declared.records.Study.{Study}
use Rattle.outages_report.specs.declared.case.Case.{Case}
use Rattle.outages_report.specs.declared.table.OutageCases.{OutageCases}
use Rattle.outages_report.specs.Cases.{case_of, cases_where}
use Rattle.outages_report.specs.Envelopes.{scan_cases, fed_outages, envelope_over, envelope_row, case_at, column_of, envelopes_from}
use Rattle.outages_report.specs.Floating.{floats}
use Rattle.outages_report.specs.Table.{found_of, table_of}

-- the case at a place is that of the scan there
mapped_at : {X : Type 0} (f : X → Case) (xs : List X) (k : ℕ) (x : X) → slice_get xs k ≡ Some x → case_at (slice_get (map f xs) k) ≡ f x ∷ []
mapped_at f [] k x e = absurd cc
mapped_at f (y ∷ xs) zero x e = let same : y ≡ x = cc in ap (λ z. f z ∷ []) same
mapped_at f (y ∷ xs) (suc k) x e = mapped_at f xs k x e

column_is : (study : Study) (place : ℕ) (scan : ScanItem) (outages : List Outage) → slice_get study.scans place ≡ Some scan → column_of place (map (found_of study) outages) ≡ scan_cases study scan outages
column_is study place scan [] at = refl
column_is study place scan (o ∷ os) at = go (floats study o.element) refl (column_is study place scan os at)
  where
    go : (floating : Bool) → floats study o.element ≡ floating → column_of place (map (found_of study) os) ≡ scan_cases study scan os
        → case_at (slice_get (cases_where (floats study o.element) study o.element study.scans) place) ++ column_of place (map (found_of study) os)
        ≡ map (λ outage. case_of study outage.element scan) (cond (not (floats study o.element)) (o ∷ fed_outages study os) (fed_outages study os))
    go true e rest = rw e rest
    go false e rest =
        let first : case_at (slice_get (map (case_of study o.element) study.scans) place) ≡ case_of study o.element scan ∷ [] = mapped_at (case_of study o.element) study.scans place scan at in
        rw e (ap (λ (l : List Case). l ++ column_of place (map (found_of study) os)) first ∙ ap (λ (l : List Case). case_of study o.element scan ∷ l) rest)

-- the first after a front
after_front : {X : Type 0} (front : List X) (x : X) (rest : List X) → slice_get (front ++ x ∷ rest) (length front) ≡ Some x
after_front [] x rest = refl
after_front (y ∷ front) x rest = after_front front x rest

from_front : (study : Study) (front scans : List ScanItem) (place : ℕ) → study.scans ≡ front ++ scans → place ≡ length front
    → envelopes_from (map (found_of study) study.outages) place scans ≡ map (envelope_row study) scans
from_front study front [] place e at = refl
from_front study front (scan ∷ scans) place e at =
    let here : slice_get study.scans place ≡ Some scan = subst (λ (k : ℕ). slice_get study.scans k ≡ Some scan) (sym at) (ap (λ (l : List ScanItem). slice_get l (length front)) e ∙ after_front front scan scans) in
    let column = column_is study place scan study.outages here in
    let next : place + 1 ≡ length (front ++ scan ∷ []) = longer front scan place at in
    let rest = from_front study (front ++ scan ∷ []) scans (place + 1) (e ∙ sym (append_assoc front (scan ∷ []) scans)) next in
    ap (λ (cases : List Case). envelope_over scan.name cases ∷ envelopes_from (map (found_of study) study.outages) (place + 1) scans) column ∙ ap (λ (l : List Row). envelope_row study scan ∷ l) rest
  where
    longer : {X : Type 0} (front : List X) (x : X) (place : ℕ) → place ≡ length front → place + 1 ≡ length (front ++ x ∷ [])
    longer front x place h = rw length-append (omega (arith, h))

pub envelopes_are : (study : Study) → envelopes_from (table_of study) 0 study.scans ≡ map (envelope_row study) study.scans
unfolding table_of
envelopes_are study = from_front study [] study.scans 0 refl refl

mapped_length : {X Y : Type 0} (f : X → Y) (xs : List X) → length (map f xs) ≡ length xs
mapped_length f [] = refl
mapped_length f (x ∷ xs) = ap suc (mapped_length f xs)

pub few_outages : (study : Study) → IsLawful study → length (table_of study) ≤ 32
unfolding table_of
few_outages study h = let few = h.outages_count in omega (arith, few, mapped_length (found_of study) study.outages)

-- ---- a column as it is put
append_none : {X : Type 0} (xs : List X) → xs ≡ xs ++ []
append_none [] = refl
append_none (x ∷ xs) = ap (λ l. x ∷ l) (append_none xs)

past_end : {X : Type 0} (xs : List X) (place : ℕ) → length xs ≤ place → slice_get xs place ≡ None
past_end [] place h = refl
past_end (x ∷ xs) zero h = absurd (omega (arith, h))
past_end (x ∷ xs) (suc place) h = past_end xs place (omega (arith, h))

pub none_put : (column cases : List Case) (place : ℕ) → length cases ≤ place → column ≡ column ++ case_at (slice_get cases place)
none_put column cases place h = append_none column ∙ sym (ap (λ (o : Option Case). column ++ case_at o) (past_end cases place h))

few_at : (o : Option Case) → length (case_at o) ≤ 1
few_at None = omega arith
few_at (Some case) = omega arith

column_few : (place : ℕ) (table : List OutageCases) → length (column_of place table) ≤ length table
column_few place [] = omega arith
column_few place (found ∷ table) = rw length-append (omega (arith, few_at (slice_get found.cases place), column_few place table))

pub few_put : (place : ℕ) (table : List OutageCases) (old column : List Case) → old ≡ [] → column ≡ old ++ column_of place table → length table < 4294967296 → length column < 4294967296
few_put place table old column none e h =
    let all : column ≡ column_of place table = e ∙ ap (λ (l : List Case). l ++ column_of place table) none in
    omega (arith, ap length all, column_few place table, h)
