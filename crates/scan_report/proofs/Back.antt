-- The row of a row's own text is the row.
use Rattle.std.proofs.Common.{◌≡◌, ◌∙◌, ap, ℕ, ◌≤◌, Bool, true, false, List, ◌++◌, length, refl, arith, append_assoc}
use Rattle.std.specs.Prelude.{◌==◌, if◌then◌else◌}
use Rattle.scan_report.specs.declared.rows.Row.{Row}
use Rattle.scan_report.specs.declared.rows.Row.TheVariants.{Scan, BoxLine, Region, Summary, Drill, Voltage, Thd, Current, Tdd, LimitsSummary, Candidate, Size, First, Verified, Tolerance, Outage, Case, Envelope, End}
use Rattle.scan_report.specs.Fields.{fields_text}
use Rattle.scan_report.specs.Rows.{word_of, fields_of, row_text}
use Rattle.scan_report.specs.Reading.{Stage, between, within, MayStand, IsRow}
use Rattle.scan_report.specs.Loose.{after_field, first_of, second_of, scan_of, box_of, region_of, summary_of, end_of, row_of}
use Rattle.scan_report.proofs.Fronts.{Inner}
use Rattle.scan_report.proofs.FieldBack.{fields_in, fields_are, fields_with, with_tail, field_passed, fields_back}

-- a row that may stand somewhere has one word
inner_word : (s : Stage) (r : Row) → MayStand s r → Inner (word_of r)
inner_word between (Scan name bus network from to threshold method) may = record { is = refl }
inner_word between (End status) may = record { is = refl }
inner_word within (BoxLine number lo hi word at ohms) may = record { is = refl }
inner_word within (Region number lo hi hertz_lo hertz_hi peaks undecided at ohms) may = record { is = refl }
inner_word within (Summary name boxes cleared peaks undecided regions) may = record { is = refl }
inner_word _ _ may = absurd may

row_with : (r : Row) (tail : List ℕ) → row_text r ++ tail ≡ word_of r ++ fields_with (fields_of r) tail
row_with r tail = append_assoc (word_of r) (fields_text (fields_of r)) tail ∙ ap (λ x. word_of r ++ x) (with_tail (fields_of r) tail)

-- the fields of a text that begins with a row's own are the row's
row_fields : (s : Stage) (r : Row) (tail : List ℕ) → MayStand s r → IsRow r → fields_in (fields_of r) (after_field (row_text r ++ tail)) ≡ fields_of r
row_fields s r tail may h =
    ap (λ x. fields_in (fields_of r) (after_field x)) (row_with r tail)
    ∙ ap (λ x. fields_in (fields_of r) x) (field_passed (word_of r) (fields_of r) tail (inner_word s r may))
    ∙ fields_back (fields_of r) tail h

-- The row of a text that begins with the own text of a row that may stand somewhere is that row.
pub row_back : (s : Stage) (r : Row) (tail : List ℕ) → MayStand s r → IsRow r → row_of (row_text r ++ tail) ≡ r
unfolding row_of scan_of box_of region_of summary_of end_of
row_back between (Scan name bus network from to threshold method) tail may h =
    let e = row_fields between (Scan name bus network from to threshold method) tail may h in
    cc
row_back between (End status) tail may h =
    let e = row_fields between (End status) tail may h in
    cc
row_back within (BoxLine number lo hi word at ohms) tail may h =
    let e = row_fields within (BoxLine number lo hi word at ohms) tail may h in
    cc
row_back within (Region number lo hi hertz_lo hertz_hi peaks undecided at ohms) tail may h =
    let e = row_fields within (Region number lo hi hertz_lo hertz_hi peaks undecided at ohms) tail may h in
    cc
row_back within (Summary name boxes cleared peaks undecided regions) tail may h =
    let e = row_fields within (Summary name boxes cleared peaks undecided regions) tail may h in
    cc
row_back _ _ tail may h = absurd may

-- the row of any text is in the ranges of its fields
scan_is : (x : List ℕ) → IsRow (scan_of x)
unfolding scan_of
scan_is x = fields_are (fields_of (scan_of x)) (after_field x)

box_is : (x : List ℕ) → IsRow (box_of x)
unfolding box_of
box_is x = fields_are (fields_of (box_of x)) (after_field x)

region_is : (x : List ℕ) → IsRow (region_of x)
unfolding region_of
region_is x = fields_are (fields_of (region_of x)) (after_field x)

summary_is : (x : List ℕ) → IsRow (summary_of x)
unfolding summary_of
summary_is x = fields_are (fields_of (summary_of x)) (after_field x)

end_is : (x : List ℕ) → IsRow (end_of x)
unfolding end_of
end_is x = fields_are (fields_of (end_of x)) (after_field x)

either_is : (b : Bool) (r s : Row) → IsRow r → IsRow s → IsRow (if b then r else s)
either_is true r s h k = h
either_is false r s h k = k

pub row_is : (x : List ℕ) → IsRow (row_of x)
unfolding row_of
row_is x =
    let r3 : Row = if second_of x == 99 then scan_of x else summary_of x in
    let r2 : Row = if first_of x == 101 then end_of x else r3 in
    let r1 : Row = if first_of x == 114 then region_of x else r2 in
    let i3 : IsRow r3 = either_is (second_of x == 99) (scan_of x) (summary_of x) (scan_is x) (summary_is x) in
    let i2 : IsRow r2 = either_is (first_of x == 101) (end_of x) r3 (end_is x) i3 in
    let i1 : IsRow r1 = either_is (first_of x == 114) (region_of x) r2 (region_is x) i2 in
    either_is (first_of x == 98) (box_of x) r1 (box_is x) i1

-- a row's text has at least two bytes
pub row_some : (r : Row) → 2 ≤ length (row_text r)
row_some (Scan name bus network from to threshold method) = omega arith
row_some (BoxLine number lo hi word at ohms) = omega arith
row_some (Region number lo hi hertz_lo hertz_hi peaks undecided at ohms) = omega arith
row_some (Summary name boxes cleared peaks undecided regions) = omega arith
row_some (Drill number nodes) = omega arith
row_some (Voltage bus phase order lo hi limit verdict) = omega arith
row_some (Thd bus phase lo hi limit verdict) = omega arith
row_some (Current point phase order lo hi limit verdict) = omega arith
row_some (Tdd point phase lo hi limit verdict) = omega arith
row_some (LimitsSummary passes fails undecided) = omega arith
row_some (Candidate name bus from to threshold) = omega arith
row_some (Size number size cleared peaks undecided) = omega arith
row_some (First name size) = omega arith
row_some (Verified scans boxes) = omega arith
row_some (Tolerance entries) = omega arith
row_some (Outage number element floating) = omega arith
row_some (Case outage name boxes cleared peaks undecided at micro_ohms) = omega arith
row_some (Envelope name cases cleared peaks undecided) = omega arith
row_some (End status) = omega arith
