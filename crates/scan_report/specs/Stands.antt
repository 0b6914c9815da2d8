-- Where a reader stands, and what it has read so far.
use Rattle.std.specs.Prelude.{◌≡◌, ℕ, ◌*◌, ◌≤◌, List, ◌++◌, length, drop}
use Rattle.scan_report.specs.Rows.{row_text}
use Rattle.scan_report.specs.Reading.{Stage, between, within, ended, MayStand, IsRow, IsInOrder, text_of}
use Rattle.scan_report.specs.declared.rows.Row.{Row}
use Rattle.scan_report.specs.declared.reading.Stand.{Stand}
use Rattle.scan_report.specs.declared.reading.Stand.TheVariants as stand

abbrev pub stage_of : Stand → Stage
stage_of stand.Between = between
stage_of stand.Within = within
stage_of stand.Ended = ended

-- a text begins with a row that may stand there, whose text has this length
pub record BeginsWith (stage : Stage) (text : List ℕ) (row : Row) (len : ℕ) : Type 0 where
  pub may : MayStand stage row
  pub is : IsRow row
  pub len_is : len ≡ length (row_text row)
  pub some : 2 ≤ len
  pub fits : len ≤ length text
  pub text_is : text ≡ row_text row ++ drop len text

-- a text begins with no row that may stand there
abbrev pub BeginsWithNone : Stage → List ℕ → Type 0
BeginsWithNone stage text = (r : Row) (after : List ℕ) → MayStand stage r → IsRow r → ¬ (text ≡ row_text r ++ after)

-- the bytes before a place are these rows, in order
pub record IsRead (bytes : List ℕ) (place : ℕ) (stage : Stage) (rows : List Row) : Type 0 where
  pub order : IsInOrder between rows stage
  pub text_is : bytes ≡ text_of rows ++ drop place bytes
  pub fits : place ≤ length bytes
  pub some : 2 * length rows ≤ place

-- a text begins with another, of this length
pub record BeginsText (text own : List ℕ) (len : ℕ) : Type 0 where
  pub len_is : len ≡ length own
  pub fits : len ≤ length text
  pub text_is : text ≡ own ++ drop len text
