-- Rows that are written one after another.
use Rattle.std.proofs.Common.{◌≡◌, ◌∙◌, ℕ, ◌+◌, ◌≤◌, ℤ, Bool, true, false, int_lt, List, [], ◌∷◌, ◌++◌, Option, Some, None, Result, Err, ap, sym, refl, subst, append_assoc, append-nil, arith}
use Rattle.harm_io.specs.Sinks.{SinkState, took, Writes}
use Rattle.harm_io.proofs.Writing.{WroteFront, front_next, front_stop, front_end, took_nothing}
use Rattle.harm_io.specs.declared.sink.PutFault.{PutFault}
use Rattle.scan_report.specs.Rows.{row_text}
use Rattle.scan_report.specs.declared.rows.Row.{Row}
use Rattle.scan_report.specs.declared.boxes.BoxRow.{BoxRow}
use Rattle.scan_report.specs.declared.boxes.Kind.{Kind}
use Rattle.scan_report.specs.declared.boxes.Kind.TheVariants.{Cleared, Peak, Undecided}
use Rattle.study_scans.specs.Regions.{row_of_region}
use Rattle.scan_report.specs.Reading.{text_of}
use Rattle.study_scans.specs.Report.{row_of}
use Rattle.study_scans.specs.Fold.{tally_more, open_rows, ended_rows, folded_rows}
use Rattle.harmscan_core.specs.Texts.{open_text, ended_text, step_text, boxes_text}
use Rattle.study_scans.specs.declared.counts.Tally.{Tally}
use Rattle.study_scans.specs.declared.region.Region.{Region}

pub text_of-both : (xs ys : List Row) → text_of (xs ++ ys) ≡ text_of xs ++ text_of ys
text_of-both [] ys = refl
text_of-both (x ∷ xs) ys = ap (λ (t : List ℕ). row_text x ++ t) (text_of-both xs ys) ∙ sym (append_assoc (row_text x) (text_of xs) (text_of ys))

-- ---- the row of a region, where there is one
pub writes_region : {A : Type 0} (hz : ℤ) (regions : ℕ) (run : Region) (before now : SinkState) (r : Result A PutFault) → Writes (row_text (row_of_region hz (regions + 1) run)) before now r → Writes (open_text hz regions (Some run)) before now r
unfolding open_text
writes_region hz regions run before now r h = subst (λ (t : List ℕ). Writes t before now r) (sym (append-nil (row_text (row_of_region hz (regions + 1) run)))) h

pub writes_no_region : (hz : ℤ) (regions : ℕ) (s : SinkState) → s ≡ took s (open_text hz regions None)
unfolding open_text
writes_no_region hz regions s = sym (took_nothing s)

pub writes_ended : {A : Type 0} (hz : ℤ) (regions : ℕ) (run : Option Region) (before now : SinkState) (r : Result A PutFault) → Writes (open_text hz regions run) before now r → Writes (ended_text hz regions run Cleared) before now r
unfolding ended_text open_text
writes_ended hz regions run before now r h = h

pub writes_not_ended : (hz : ℤ) (regions : ℕ) (run : Option Region) (kind : Kind) (s : SinkState) → (kind ≡ Cleared → ⊥) → s ≡ took s (ended_text hz regions run kind)
unfolding ended_text
writes_not_ended hz regions run Cleared s n = absurd (n refl)
writes_not_ended hz regions run (Peak at ohms) s n = sym (took_nothing s)
writes_not_ended hz regions run Undecided s n = sym (took_nothing s)

-- ---- one box after another
step_first : (hz : ℤ) (t : Tally) (b : BoxRow) (bs : List BoxRow) → boxes_text hz t (b ∷ bs) ≡ step_text hz t b ++ boxes_text hz (tally_more b t) bs
unfolding boxes_text step_text ended_text
step_first hz t b bs =
    let ended = ended_rows hz t.regions t.run b.kind in
    let own = row_of (t.counts.boxes + 1) b.lo b.hi b.kind in
    text_of-both ended (own ∷ folded_rows hz (tally_more b t) bs) ∙ sym (append_assoc (text_of ended) (row_text own) (text_of (folded_rows hz (tally_more b t) bs)))

front_of_step : (before now : SinkState) (hz : ℤ) (t : Tally) (left : List BoxRow) (b : BoxRow) (bs : List BoxRow) (whole : List ℕ) → left ≡ b ∷ bs → WroteFront before now (boxes_text hz t left) whole
    → WroteFront before now (step_text hz t b ++ boxes_text hz (tally_more b t) bs) whole
front_of_step before now hz t left b bs whole e h =
    subst (λ (r : List ℕ). WroteFront before now r whole) (ap (boxes_text hz t) e ∙ step_first hz t b bs) h

pub boxes_next : (before now after : SinkState) (hz : ℤ) (t : Tally) (left : List BoxRow) (b : BoxRow) (bs : List BoxRow) (whole : List ℕ)
    → left ≡ b ∷ bs → WroteFront before now (boxes_text hz t left) whole → after ≡ took now (step_text hz t b)
    → WroteFront before after (boxes_text hz (tally_more b t) bs) whole
boxes_next before now after hz t left b bs whole e h w =
    front_next before now after (step_text hz t b) (boxes_text hz (tally_more b t) bs) whole (front_of_step before now hz t left b bs whole e h) w

pub boxes_stop : (A B : Type 0) (before now after : SinkState) (hz : ℤ) (t : Tally) (left : List BoxRow) (b : BoxRow) (bs : List BoxRow) (whole : List ℕ) (fault : PutFault)
    → left ≡ b ∷ bs → WroteFront before now (boxes_text hz t left) whole → Writes {A = A} (step_text hz t b) now after (Err fault)
    → Writes {A = B} whole before after (Err fault)
boxes_stop A B before now after hz t left b bs whole fault e h w =
    front_stop A B before now after (step_text hz t b) (boxes_text hz (tally_more b t) bs) whole fault (front_of_step before now hz t left b bs whole e h) w

-- no more boxes are left: the open run comes last
front_of_end : (before now : SinkState) (hz : ℤ) (t : Tally) (left : List BoxRow) (whole : List ℕ) → left ≡ [] → WroteFront before now (boxes_text hz t left) whole
    → WroteFront before now (open_text hz t.regions t.run ++ []) whole
unfolding boxes_text open_text
front_of_end before now hz t left whole e h =
    subst (λ (r : List ℕ). WroteFront before now r whole) (ap (λ (l : List BoxRow). text_of (folded_rows hz t l)) e ∙ sym (append-nil (text_of (open_rows hz t.regions t.run)))) h

pub boxes_end : (before now after : SinkState) (hz : ℤ) (t : Tally) (left : List BoxRow) (whole : List ℕ) → left ≡ [] → WroteFront before now (boxes_text hz t left) whole
    → after ≡ took now (open_text hz t.regions t.run) → after ≡ took before whole
boxes_end before now after hz t left whole e h w =
    front_end before after whole (front_next before now after (open_text hz t.regions t.run) [] whole (front_of_end before now hz t left whole e h) w)

pub end_stop : (A B : Type 0) (before now after : SinkState) (hz : ℤ) (t : Tally) (left : List BoxRow) (whole : List ℕ) (fault : PutFault) → left ≡ [] → WroteFront before now (boxes_text hz t left) whole
    → Writes {A = A} (open_text hz t.regions t.run) now after (Err fault) → Writes {A = B} whole before after (Err fault)
end_stop A B before now after hz t left whole fault e h w =
    front_stop A B before now after (open_text hz t.regions t.run) [] whole fault (front_of_end before now hz t left whole e h) w
