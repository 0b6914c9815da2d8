-- When each status comes, from what a run does.
use Rattle.std.proofs.Common.{◌≡◌, ◌≢◌, ◌⊎◌, inl, inr, ℕ, ◌<◌, Bool, true, false, cond, List, ◌++◌, length, Option, Some, None, Ok, Err, subst, refl, ap, sym, ◌∙◌, arith}
use Rattle.std.proofs.Math.Seq.{take-length}
use Rattle.harm_io.specs.Shelves.{ShelfState}
use Rattle.harm_io.specs.Sinks.{SinkState, took, LacksMemory}
use Rattle.study_model.specs.declared.records.Study.{Study}
use Rattle.spectrum_reader.specs.declared.injection.Injection.{Injection}
use Rattle.spectrum_reader.specs.declared.level.Level.{Level}
use Rattle.drill_study.specs.Drill.{drill_of}
use Rattle.band_subdivision.specs.Boxes.{BoxTest}
use Rattle.study_model.specs.declared.records.ScanItem.{ScanItem}
use Rattle.study_scans.specs.Report.{report_status, status_by}
use Rattle.study_scans.specs.Scan.{test_of}
use Rattle.candidates_report.specs.Report.{candidates_status}
use Rattle.outages_report.specs.Report.{outages_status}
use Rattle.tolerance_scan.specs.Report.{tolerance_test}
use Rattle.limits_report.specs.Report.{limits_status}
use Rattle.harmscan_core.specs.Words.{Reading, scan, candidates, tolerance, outages, limits, drill, verify, names_in}
use Rattle.harmscan_core.specs.Subject.{Subject, scanned, with_banks, within_tolerances, without_elements, distorted, drilled, verified, text_for, status_for, ReadsFor}
use Rattle.harmscan_core.specs.Outcome.{Reports, IsReported, Happens, ends, reports, HappensFor, status_at, Asks, AsksInOrder, IsWritten, IsRefusal, WritesReport, StopsWithin}
use Rattle.harmscan_core.specs.declared.outcome.Outcome.{Outcome}
use Rattle.harmscan_core.specs.declared.outcome.Outcome.TheVariants.{WordsRefused, ReadFailed, TooLarge, Refused, WriteFailed, NoMemory, Written}
use Rattle.harmscan_core.proofs.Chains.{IsEnd, AsksAll, EndsAfter}
use Rattle.harmscan_core.proofs.Subjects.{reads_in_order}

-- 0, 3 or 4: no status of another outcome
record IsReportStatus (s : ℕ) : Type 0 where
  one : s ≢ 1
  two : s ≢ 2
  five : s ≢ 5
  six : s ≢ 6
  seven : s ≢ 7

chosen_status : (p u : Bool) → IsReportStatus (cond p 3 (cond u 4 0))
chosen_status true u = record { one = λ e. omega arith; two = λ e. omega arith; five = λ e. omega arith; six = λ e. omega arith; seven = λ e. omega arith }
chosen_status false true = record { one = λ e. omega arith; two = λ e. omega arith; five = λ e. omega arith; six = λ e. omega arith; seven = λ e. omega arith }
chosen_status false false = record { one = λ e. omega arith; two = λ e. omega arith; five = λ e. omega arith; six = λ e. omega arith; seven = λ e. omega arith }

tests_status : (tests : ScanItem → BoxTest) (study : Study) → IsReportStatus (status_by tests study)
unfolding status_by
tests_status tests study = chosen_status _ _

study_status : (study : Study) → IsReportStatus (report_status study)
study_status study = tests_status (test_of study) study

candidates_chosen : (a b : Bool) → IsReportStatus (cond a 0 (cond b 3 4))
candidates_chosen true b = chosen_status false false
candidates_chosen false true = chosen_status true false
candidates_chosen false false = chosen_status false true

banks_status : (study : Study) → IsReportStatus (candidates_status study)
unfolding candidates_status
banks_status study = candidates_chosen _ _

elements_status : (study : Study) → IsReportStatus (outages_status study)
unfolding outages_status
elements_status study = chosen_status _ _

distorted_status : (study : Study) (rows : List Injection) (levels : List Level) → IsReportStatus (limits_status study rows levels)
unfolding limits_status
distorted_status study rows levels = chosen_status _ _

reported : (subject : Subject) → IsReportStatus (status_for subject)
reported (scanned study) = study_status study
reported (with_banks study) = banks_status study
reported (within_tolerances study) = tests_status (tolerance_test study) study
reported (without_elements study) = elements_status study
reported (distorted study rows levels) = distorted_status study rows levels
reported (drilled number) = study_status (drill_of number)
reported (verified study rows) = record { one = λ e. omega arith; two = λ e. omega arith; five = λ e. omega arith; six = λ e. omega arith; seven = λ e. omega arith }

-- the status of a run that ends at its files
record IsEndStatus (s : ℕ) : Type 0 where
  zero : s ≢ 0
  one : s ≢ 1
  three : s ≢ 3
  four : s ≢ 4
  six : s ≢ 6

end_status : (o : Outcome) → IsEnd o → IsEndStatus (status_at o)
end_status (ReadFailed f) h = record { zero = λ e. omega arith; one = λ e. omega arith; three = λ e. omega arith; four = λ e. omega arith; six = λ e. omega arith }
end_status (TooLarge f) h = record { zero = λ e. omega arith; one = λ e. omega arith; three = λ e. omega arith; four = λ e. omega arith; six = λ e. omega arith }
end_status (Refused r) h = record { zero = λ e. omega arith; one = λ e. omega arith; three = λ e. omega arith; four = λ e. omega arith; six = λ e. omega arith }
end_status NoMemory h = record { zero = λ e. omega arith; one = λ e. omega arith; three = λ e. omega arith; four = λ e. omega arith; six = λ e. omega arith }
end_status WordsRefused h = absurd h
end_status WriteFailed h = absurd h
end_status (Written s) h = absurd h

ended : (r : Reading) (s t : ShelfState) (o : Outcome) → ReadsFor r s t (Err o) → EndsAfter (names_in r) s t o
ended r s t o h = (reads_in_order r).err s t o h

all_asked : (r : Reading) (s t : ShelfState) (subject : Subject) → ReadsFor r s t (Ok subject) → AsksAll (names_in r) s t
all_asked r s t subject h = (reads_in_order r).ok s t subject h

-- ---- the counts
same_faults : (s t : ShelfState) → t ≡ s → s.faults < t.faults → ⊥
same_faults s t e h = let f : t.faults ≡ s.faults = ap (λ (x : ShelfState). x.faults) e in omega arith

-- where the shelf's count became greater, the status is 5
pub read_rose : (w : Option Reading) (s t : ShelfState) (out out' : SinkState) (o : Outcome) → HappensFor w s t out out' o → s.faults < t.faults → status_at o ≡ 5
read_rose None s t out out' o h rose = absurd (same_faults s t h.1 rose)
read_rose (Some r) s t out out' o (ends h e) rose = (ended r s t o h).rose rose
read_rose (Some r) s t out out' o (reports subject h k) rose = let calm = (all_asked r s t subject h).calm in absurd (omega arith)

same_out : (s t : SinkState) → t ≡ s → s.faults < t.faults → ⊥
same_out s t e h = let f : t.faults ≡ s.faults = ap (λ (x : SinkState). x.faults) e in omega arith

took_out : (s t : SinkState) (text : List ℕ) → t ≡ took s text → s.faults < t.faults → ⊥
took_out s t text e h = let f : t.faults ≡ s.faults = ap (λ (x : SinkState). x.faults) e in omega arith

-- nothing was put, or a put was refused for memory
lacking_faults : (s t : SinkState) (text : List ℕ) → (t ≡ s) ⊎ LacksMemory text s t → s.faults < t.faults → ⊥
lacking_faults s t text (inl e) h = same_out s t e h
lacking_faults s t text (inr l) h = let f : t.faults ≡ s.faults = l.faults in omega arith

report_rose : (subject : Subject) (out out' : SinkState) (o : Outcome) → Reports subject out out' o → out.faults < out'.faults → status_at o ≡ 6
report_rose subject out out' WriteFailed h rose = refl
report_rose subject out out' NoMemory h rose = absurd (lacking_faults out out' (text_for subject) h rose)
report_rose subject out out' (Written x) h rose = absurd (took_out out out' (text_for subject) h.written rose)
report_rose subject out out' WordsRefused h rose = absurd h
report_rose subject out out' (ReadFailed f) h rose = absurd h
report_rose subject out out' (TooLarge f) h rose = absurd h
report_rose subject out out' (Refused r) h rose = absurd h

-- where the count of faults of `out` became greater, the status is 6
pub write_rose : (w : Option Reading) (s t : ShelfState) (out out' : SinkState) (o : Outcome) → HappensFor w s t out out' o → out.faults < out'.faults → status_at o ≡ 6
write_rose None s t out out' o h rose = absurd (same_out out out' h.2 rose)
write_rose (Some r) s t out out' o (ends h e) rose = absurd (same_out out out' e rose)
write_rose (Some r) s t out out' o (reports subject h k) rose = report_rose subject out out' o k rose

same_refused : (s t : SinkState) → t ≡ s → s.refused < t.refused → ⊥
same_refused s t e h = let f : t.refused ≡ s.refused = ap (λ (x : SinkState). x.refused) e in omega arith

took_refused : (s t : SinkState) (text : List ℕ) → t ≡ took s text → s.refused < t.refused → ⊥
took_refused s t text e h = let f : t.refused ≡ s.refused = ap (λ (x : SinkState). x.refused) e in omega arith

report_lacks : (subject : Subject) (out out' : SinkState) (o : Outcome) → Reports subject out out' o → out.refused < out'.refused → status_at o ≡ 7
report_lacks subject out out' WriteFailed h rose = let f : out'.refused ≡ out.refused = h.refused in absurd (omega arith)
report_lacks subject out out' NoMemory h rose = refl
report_lacks subject out out' (Written x) h rose = absurd (took_refused out out' (text_for subject) h.written rose)
report_lacks subject out out' WordsRefused h rose = absurd h
report_lacks subject out out' (ReadFailed f) h rose = absurd h
report_lacks subject out out' (TooLarge f) h rose = absurd h
report_lacks subject out out' (Refused r) h rose = absurd h

-- where the count of puts that `out` refused for memory became greater, the status is 7
pub memory_rose : (w : Option Reading) (s t : ShelfState) (out out' : SinkState) (o : Outcome) → HappensFor w s t out out' o → out.refused < out'.refused → status_at o ≡ 7
memory_rose None s t out out' o h rose = absurd (same_refused out out' h.2 rose)
memory_rose (Some r) s t out out' o (ends h e) rose = absurd (same_refused out out' e rose)
memory_rose (Some r) s t out out' o (reports subject h k) rose = report_lacks subject out out' o k rose

-- ---- the status 1 comes exactly where the words have no reading
report_not_one : (subject : Subject) (out out' : SinkState) (o : Outcome) → Reports subject out out' o → status_at o ≡ 1 → ⊥
report_not_one subject out out' WriteFailed h e = omega arith
report_not_one subject out out' NoMemory h e = omega arith
report_not_one subject out out' (Written x) h e = (reported subject).one (sym h.status_is ∙ e)
report_not_one subject out out' WordsRefused h e = h
report_not_one subject out out' (ReadFailed f) h e = h
report_not_one subject out out' (TooLarge f) h e = h
report_not_one subject out out' (Refused r) h e = h

pub words_refused : (w : Option Reading) (s t : ShelfState) (out out' : SinkState) (o : Outcome) → HappensFor w s t out out' o → status_at o ≡ 1 → w ≡ None
words_refused None s t out out' o h e = refl
words_refused (Some r) s t out out' o (ends h k) e = absurd ((end_status o (ended r s t o h).end).one e)
words_refused (Some r) s t out out' o (reports subject h k) e = absurd (report_not_one subject out out' o k e)

pub words_none : (w : Option Reading) (s t : ShelfState) (out out' : SinkState) (o : Outcome) → HappensFor w s t out out' o → w ≡ None → status_at o ≡ 1
words_none None s t out out' o h e = ap status_at h.0
words_none (Some r) s t out out' o h e = absurd (cc)

-- ---- what each status says
in_order : (names : List (List ℕ)) (s t : ShelfState) → AsksAll names s t → AsksInOrder names s t
in_order names s t h = record { count = length names; asked = h.asked ∙ ap (λ (l : List (List ℕ)). s.asked ++ l) (sym (take-length names)); file = h.file }

front_in_order : (names : List (List ℕ)) (s t : ShelfState) (o : Outcome) → EndsAfter names s t o → AsksInOrder names s t
front_in_order names s t o h = record { count = h.count; asked = h.asked; file = h.file }

names_in_order : (r : Reading) (s t : ShelfState) (out out' : SinkState) (o : Outcome) → Happens r s t out out' o → AsksInOrder (names_in r) s t
names_in_order r s t out out' o (ends h e) = front_in_order (names_in r) s t o (ended r s t o h)
names_in_order r s t out out' o (reports subject h k) = in_order (names_in r) s t (all_asked r s t subject h)

drill_stays : (number : ℕ) (s t : ShelfState) (out out' : SinkState) (o : Outcome) → Happens (drill number) s t out out' o → t ≡ s
drill_stays number s t out out' o (ends h e) = h.stays
drill_stays number s t out out' o (reports subject h k) = h.stays

pub asks_files : (w : Option Reading) (s t : ShelfState) (out out' : SinkState) (o : Outcome) → HappensFor w s t out out' o → Asks w s t
asks_files None s t out out' o h = h.1
asks_files (Some (scan study)) s t out out' o h = names_in_order (scan study) s t out out' o h
asks_files (Some (candidates study)) s t out out' o h = names_in_order (candidates study) s t out out' o h
asks_files (Some (tolerance study)) s t out out' o h = names_in_order (tolerance study) s t out out' o h
asks_files (Some (outages study)) s t out out' o h = names_in_order (outages study) s t out out' o h
asks_files (Some (limits study spectrum levels)) s t out out' o h = names_in_order (limits study spectrum levels) s t out out' o h
asks_files (Some (drill number)) s t out out' o h = drill_stays number s t out out' o h
asks_files (Some (verify study report)) s t out out' o h = names_in_order (verify study report) s t out out' o h

apart_from : (n : ℕ) → IsWritten n → n ≢ 0 → n ≢ 3 → n ≢ 4 → ⊥
apart_from n (inl h) a b c = a h
apart_from n (inr (inl h)) a b c = b h
apart_from n (inr (inr h)) a b c = c h

report_whole : (subject : Subject) (out out' : SinkState) (o : Outcome) → Reports subject out out' o → IsWritten (status_at o) → IsReported subject (status_at o) out out'
report_whole subject out out' WriteFailed h p = absurd (apart_from 6 p (λ e. omega arith) (λ e. omega arith) (λ e. omega arith))
report_whole subject out out' NoMemory h p = absurd (apart_from 7 p (λ e. omega arith) (λ e. omega arith) (λ e. omega arith))
report_whole subject out out' (Written x) h p = h
report_whole subject out out' WordsRefused h p = absurd h
report_whole subject out out' (ReadFailed f) h p = absurd h
report_whole subject out out' (TooLarge f) h p = absurd h
report_whole subject out out' (Refused r) h p = absurd h

-- at 0, 3 and 4 the report is whole, and what it claims holds
writes_report : (w : Option Reading) (s t : ShelfState) (out out' : SinkState) (o : Outcome) → HappensFor w s t out out' o → IsWritten (status_at o) → WritesReport w s t out out' (status_at o)
writes_report None s t out out' o h p =
    let one : status_at o ≡ 1 = ap status_at h.0 in
    absurd (apart_from (status_at o) p (λ e. omega arith) (λ e. omega arith) (λ e. omega arith))
writes_report (Some r) s t out out' o (ends h e) p = let q = end_status o (ended r s t o h).end in absurd (apart_from (status_at o) p q.zero q.three q.four)
writes_report (Some r) s t out out' o (reports subject h k) p =
    record { subject = subject; read = h; asked = (all_asked r s t subject h).asked; reported = report_whole subject out out' o k p }

pub writes_report_at : (w : Option Reading) (s t : ShelfState) (out out' : SinkState) (o : Outcome) (n : ℕ) → HappensFor w s t out out' o → n ≡ status_at o → IsWritten n → WritesReport w s t out out' n
writes_report_at w s t out out' o n h e p = subst (λ (m : ℕ). WritesReport w s t out out' m) (sym e) (writes_report w s t out out' o h (subst IsWritten e p))

refusal_is : (n : ℕ) → IsRefusal n → n ≢ 1 → n ≢ 2 → n ≢ 5 → ⊥
refusal_is n (inl h) a b c = a h
refusal_is n (inr (inl h)) a b c = b h
refusal_is n (inr (inr h)) a b c = c h

report_no_refusal : (subject : Subject) (out out' : SinkState) (o : Outcome) → Reports subject out out' o → IsRefusal (status_at o) → ⊥
report_no_refusal subject out out' WriteFailed h p = refusal_is 6 p (λ e. omega arith) (λ e. omega arith) (λ e. omega arith)
report_no_refusal subject out out' NoMemory h p = refusal_is 7 p (λ e. omega arith) (λ e. omega arith) (λ e. omega arith)
report_no_refusal subject out out' (Written x) h p =
    let r = reported subject in
    let is = h.status_is in
    refusal_is x p (λ e. r.one (sym is ∙ e)) (λ e. r.two (sym is ∙ e)) (λ e. r.five (sym is ∙ e))
report_no_refusal subject out out' WordsRefused h p = h
report_no_refusal subject out out' (ReadFailed f) h p = h
report_no_refusal subject out out' (TooLarge f) h p = h
report_no_refusal subject out out' (Refused r) h p = h

-- at 1, 2 and 5 nothing was put
pub nothing_put : (w : Option Reading) (s t : ShelfState) (out out' : SinkState) (o : Outcome) → HappensFor w s t out out' o → IsRefusal (status_at o) → out' ≡ out
nothing_put None s t out out' o h p = h.2
nothing_put (Some r) s t out out' o (ends h e) p = e
nothing_put (Some r) s t out out' o (reports subject h k) p = absurd (report_no_refusal subject out out' o k p)

report_front : (r : Reading) (subject : Subject) (s t : ShelfState) (out out' : SinkState) (o : Outcome) → ReadsFor r s t (Ok subject) → Reports subject out out' o → status_at o ≡ 6 → StopsWithin (Some r) s t out out'
report_front r subject s t out out' WriteFailed h k e = record { subject = subject; read = h; front = k }
report_front r subject s t out out' NoMemory h k e = absurd (omega arith)
report_front r subject s t out out' (Written x) h k e = absurd ((reported subject).six (sym k.status_is ∙ e))
report_front r subject s t out out' WordsRefused h k e = absurd k
report_front r subject s t out out' (ReadFailed f) h k e = absurd k
report_front r subject s t out out' (TooLarge f) h k e = absurd k
report_front r subject s t out out' (Refused q) h k e = absurd k

-- at 6 a front of the report was taken
pub stops_within : (w : Option Reading) (s t : ShelfState) (out out' : SinkState) (o : Outcome) → HappensFor w s t out out' o → status_at o ≡ 6 → StopsWithin w s t out out'
stops_within None s t out out' o h e = absurd (let one : 1 ≡ 6 = sym (ap status_at h.0) ∙ e in omega arith)
stops_within (Some r) s t out out' o (ends h k) e = absurd ((end_status o (ended r s t o h).end).six e)
stops_within (Some r) s t out out' o (reports subject h k) e = report_front r subject s t out out' o h k e
