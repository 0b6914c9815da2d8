-- What a text begins with.
use Rattle.std.proofs.Common.{◌≡◌, ◌∙◌, ap, sym, ℕ, true, false, Bool, List, ◌++◌, length, take, drop, refl, arith, length-append, subst}
use Rattle.std.specs.Cmp.Lexicographic.{pointwise}
use Rattle.std.specs.Prelude.{◌==◌, ◌↔◌, IsTrue, [], ◌∷◌, Some, None}
use Rattle.std.proofs.lemmas.Slice.Eq.{starts_is}
use Rattle.std.proofs.lemmas.Bool.Decides.{Decides-eqb}
use Rattle.scan_report.specs.declared.rows.Row.{Row}
use Rattle.scan_report.specs.declared.fields.Field.{Field}
use Rattle.scan_report.specs.declared.fields.Field.TheVariants as field
use Rattle.scan_report.specs.Rows.{row_text, HasFieldText, HaveText}
use Rattle.scan_report.specs.Loose.{row_of}
use Rattle.scan_report.specs.Reading.{Stage, MayStand, IsRow, IsField, AreFields}
use Rattle.scan_report.specs.Stands.{BeginsText, BeginsWith, BeginsWithNone}
use Rattle.scan_report.proofs.Back.{row_back, row_is, row_some}

pub begins_text : (text own : List ℕ) → text ≡ own ++ drop (length own) text → BeginsText text own (length own)
begins_text text own e = record {
  len_is = refl;
  fits = omega (arith, ap length e, length-append own (drop (length own) text));
  text_is = e;
}

pub begins_yes : (text own : List ℕ) (r : Bool) → r ≡ pointwise ◌==◌ own (take (length own) text) → r ≡ true → BeginsText text own (length own)
begins_yes text own r e h = begins_text text own ((starts_is Decides-eqb text own r e).0 h)

pub begins_no : (text own : List ℕ) (r : Bool) → r ≡ pointwise ◌==◌ own (take (length own) text) → r ≡ false → (after : List ℕ) → ¬ (text ≡ own ++ after)
begins_no text own r e h after is = let on : r ≡ true = (starts_is Decides-eqb text own r e).1 after is in cc

same_row : (stage : Stage) (text : List ℕ) (row r : Row) (after : List ℕ) → row ≡ row_of text → MayStand stage r → IsRow r → text ≡ row_text r ++ after → row ≡ r
same_row stage text row r after e may is h = e ∙ ap row_of h ∙ row_back stage r after may is

pub none_may : (stage : Stage) (text : List ℕ) (row : Row) (b : Bool) → row ≡ row_of text → IsTrue b ↔ MayStand stage row → b ≡ false → BeginsWithNone stage text
none_may stage text row b e test off = λ r after may is h.
    let same : r ≡ row = sym (same_row stage text row r after e may is h) in
    let on : b ≡ true = test.1 (subst (λ q. MayStand stage q) same may) in cc

pub none_text : (stage : Stage) (text : List ℕ) (row : Row) → row ≡ row_of text → ((after : List ℕ) → ¬ (text ≡ row_text row ++ after)) → BeginsWithNone stage text
none_text stage text row e out = λ r after may is h.
    let same : r ≡ row = sym (same_row stage text row r after e may is h) in
    out after (h ∙ ap (λ q. row_text q ++ after) same)

pub is_row : (text : List ℕ) (row : Row) → row ≡ row_of text → IsRow row
is_row text row e = subst (λ q. IsRow q) (sym e) (row_is text)

pub begins_row : (stage : Stage) (text : List ℕ) (row : Row) (b : Bool) (len : ℕ) → row ≡ row_of text → IsTrue b ↔ MayStand stage row → b ≡ true → BeginsText text (row_text row) len → BeginsWith stage text row len
begins_row stage text row b len e test holds begins = record {
  may = test.0 holds;
  is = is_row text row e;
  len_is = begins.len_is;
  some = rw begins.len_is (row_some row);
  fits = begins.fits;
  text_is = begins.text_is;
}

-- a field in the range of its kind has a text
has_text : (f : Field) → IsField f → HasFieldText f
has_text (field.Bound ohms) h = h
has_text (field.Threshold None) h = tt
has_text (field.Threshold (Some ohms)) h = h.0
has_text (field.Size None) h = tt
has_text (field.Size (Some size)) h = h.0
has_text _ h = tt

pub have_text : (fs : List Field) → AreFields fs → HaveText fs
have_text [] h = tt
have_text (f ∷ fs) h = (has_text f h.0, have_text fs h.1)
