-- Rows that are put one after another, and the report that they are.
use Rattle.std.proofs.Common.{◌≡◌, ◌∙◌, ℕ, suc, ◌+◌, ◌<◌, List, ◌∷◌, length, drop, get_or, Err, ap, sym, subst, arith}
use Rattle.std.specs.List.{AllByRecursion}
use Rattle.std.proofs.Math.Seq.{drop-cons}
use Rattle.harm_io.specs.Sinks.{SinkState, took, Writes}
use Rattle.harm_io.specs.declared.sink.PutFault.{PutFault}
use Rattle.scan_report.specs.Reading.{text_of}
use Rattle.scan_report.specs.Rows.{row_text, HaveText, fields_of}
use Rattle.scan_report.specs.declared.rows.Row.{Row}
use Rattle.harm_io.proofs.Writing.{WroteFront, front_next, front_stop}
use Rattle.harmscan_core.proofs.Written.{not_taken}
use Rattle.harmscan_core.specs.Outcome.{IsReported, Reports, outcome_of_put}
use Rattle.harmscan_core.specs.Subject.{Subject, text_for, status_for, Claims}
use Rattle.harmscan_core.specs.declared.outcome.Outcome.{Outcome}

abbrev HaveTexts : List Row → Type 0
HaveTexts rows = AllByRecursion (λ row. HaveText (fields_of row)) rows

split : (rows : List Row) (i : ℕ) (row : Row) → i < length rows → row ≡ get_or rows i row → drop i rows ≡ row ∷ drop (i + 1) rows
split rows i row inside is =
    let next : suc i ≡ i + 1 = omega arith in
    drop-cons rows i row inside ∙ ap (λ (r : Row). r ∷ drop (suc i) rows) (sym is) ∙ ap (λ (k : ℕ). row ∷ drop k rows) next

-- what is known after so many rows
pub record Putting (before now : SinkState) (rows : List Row) (i : ℕ) : Type 0 where
  pub texts : HaveTexts (drop i rows)
  pub wrote : WroteFront before now (text_of (drop i rows)) (text_of rows)

pub row_put : (before now after : SinkState) (rows : List Row) (i : ℕ) (row : Row) (line : List ℕ) → i < length rows → row ≡ get_or rows i row → line ≡ row_text row → Putting before now rows i
    → after ≡ took now line → Putting before after rows (i + 1)
row_put before now after rows i row line inside is text h put =
    let parts = split rows i row inside is in
    record {
      texts = (subst HaveTexts parts h.texts).1;
      wrote = front_next before now after (row_text row) (text_of (drop (i + 1) rows)) (text_of rows)
          (subst (λ (l : List Row). WroteFront before now (text_of l) (text_of rows)) parts h.wrote) (put ∙ ap (took now) text);
    }

pub row_not_put : (before now after : SinkState) (rows : List Row) (i : ℕ) (row : Row) (line : List ℕ) (fault : PutFault) → i < length rows → row ≡ get_or rows i row → line ≡ row_text row
    → Putting before now rows i → Writes {A = Unit {0}} line now after (Err fault) → Writes {A = Unit {0}} (text_of rows) before after (Err fault)
row_not_put before now after rows i row line fault inside is text h put =
    front_stop (Unit {0}) (Unit {0}) before now after (row_text row) (text_of (drop (i + 1) rows)) (text_of rows) fault
    (subst (λ (l : List Row). WroteFront before now (text_of l) (text_of rows)) (split rows i row inside is) h.wrote)
    (subst (λ (t : List ℕ). Writes {A = Unit {0}} t now after (Err fault)) text put)

-- ---- the report of a subject, by its rows
pub rows_written : (subject : Subject) (rows owed : List Row) (status : ℕ) (out out' : SinkState) → rows ≡ owed → text_of owed ≡ text_for subject → status ≡ status_for subject → Claims subject
    → out' ≡ took out (text_of rows) → IsReported subject status out out'
rows_written subject rows owed status out out' is text shows holds wrote = record {
  status_is = shows;
  written = wrote ∙ ap (λ (r : List Row). took out (text_of r)) is ∙ ap (took out) text;
  claim = holds;
}

pub rows_not_taken : (subject : Subject) (rows owed : List Row) (out out' : SinkState) (fault : PutFault) (o : Outcome) → rows ≡ owed → text_of owed ≡ text_for subject
    → Writes {A = Unit {0}} (text_of rows) out out' (Err fault) → o ≡ outcome_of_put fault → Reports subject out out' o
rows_not_taken subject rows owed out out' fault o is text h e =
    not_taken (Unit {0}) subject out out' fault o (subst (λ (t : List ℕ). Writes {A = Unit {0}} t out out' (Err fault)) (ap text_of is ∙ text) h) e
