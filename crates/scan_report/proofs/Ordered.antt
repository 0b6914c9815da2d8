-- Rows one after another, and the place after them.
use Rattle.std.proofs.Common.{◌≡◌, ◌∙◌, ap, sym, ℕ, ◌+◌, List, [], ◌∷◌, ◌++◌, length, take, drop, ◌-◌, refl, arith, length-append, append_assoc, append-nil}
use Rattle.std.proofs.lemmas.Grind.{common_steps}
use Rattle.std.proofs.lemmas.List.{drop-drop, length-drop}
use Rattle.scan_report.specs.declared.rows.Row.{Row}
use Rattle.scan_report.specs.Rows.{row_text}
use Rattle.scan_report.specs.Reading.{Stage, between, ended, MayStand, IsRow, IsInOrder, no_row, one_more, text_of, stage_after, IsReport, IsBadAt}
use Rattle.scan_report.specs.Stands.{IsRead, BeginsWith, BeginsWithNone}

pub order_more : {s t : Stage} {rows : List Row} → IsInOrder s rows t → (q : Row) → MayStand t q → IsRow q → IsInOrder s (rows ++ q ∷ []) (stage_after q)
order_more (no_row s) q may is = one_more s (stage_after q) q [] may is (no_row (stage_after q))
order_more (one_more s t r rs m k rest) q may is = one_more s (stage_after q) r (rs ++ q ∷ []) m k (order_more rest q may is)

text_more : (rows : List Row) (q : Row) → text_of (rows ++ q ∷ []) ≡ text_of rows ++ row_text q
text_more [] q = append-nil (row_text q)
text_more (r ∷ rows) q = ap (λ x. row_text r ++ x) (text_more rows q) ∙ sym (append_assoc (row_text r) (text_of rows) (row_text q))

pub read_none : (bytes : List ℕ) → IsRead bytes 0 between []
read_none bytes = record { order = no_row between; text_is = refl; fits = omega arith; some = omega arith }

pub read_more : (bytes : List ℕ) (place len : ℕ) (stage : Stage) (rows : List Row) (row : Row)
    → IsRead bytes place stage rows → BeginsWith stage (drop place bytes) row len → IsRead bytes (place + len) (stage_after row) (rows ++ row ∷ [])
read_more bytes place len stage rows row read begins = record {
  order = order_more read.order row begins.may begins.is;
  text_is = read.text_is ∙ ap (λ x. text_of rows ++ x) begins.text_is ∙ sym (append_assoc (text_of rows) (row_text row) (drop len (drop place bytes)))
      ∙ ap (λ x. x ++ drop len (drop place bytes)) (sym (text_more rows row)) ∙ ap (λ x. text_of (rows ++ row ∷ []) ++ x) (drop-drop len place bytes);
  fits = omega (arith, length-drop place bytes, begins.fits, read.fits);
  some = omega (arith, length-append rows (row ∷ []), begins.some, read.some);
}

pub report_done : (bytes : List ℕ) (place : ℕ) (stage : Stage) (rows : List Row)
    → IsRead bytes place stage rows → stage ≡ ended → drop place bytes ≡ [] → IsReport bytes rows
report_done bytes place stage rows read last none = record {
  order = rw last at read.order;
  text = read.text_is ∙ rw none (append-nil (text_of rows));
}

pub bad_here : (bytes : List ℕ) (place : ℕ) (stage : Stage) (rows : List Row)
    → IsRead bytes place stage rows → ¬ ((stage ≡ ended) × (drop place bytes ≡ [])) → BeginsWithNone stage (drop place bytes) → IsBadAt bytes (length rows + 1)
bad_here bytes place stage rows read open_yet none = record {
  rows = rows;
  stage = stage;
  rest = drop place bytes;
  order = read.order;
  text = read.text_is;
  number = refl;
  unfinished = open_yet;
  none = none;
}

-- a slice from a place on
pub rest_is : (bytes : List ℕ) (place : ℕ) → take (length bytes - place) (drop place bytes) ≡ drop place bytes
rest_is bytes place = grind (arith, common_steps)
