-- What is kept while the boxes of a case come comes to their counts and their summit.
use Rattle.std.proofs.Common.{◌≡◌, ◌∙◌, ℕ, ℤ, Bool, true, false, int_lt, List, [], ◌∷◌, length, Option, Some, None, ap, refl, arith}
use Rattle.std.proofs.lemmas.Int.{ints}
use Rattle.std.specs.Prelude.{if◌then◌else◌}
use Rattle.scan_report.specs.declared.boxes.BoxRow.{BoxRow}
use Rattle.scan_report.specs.declared.boxes.Kind.{Kind}
use Rattle.scan_report.specs.declared.boxes.Kind.TheVariants.{Cleared, Peak, Undecided}
use Rattle.scan_report.specs.declared.rows.Row.{Row}
use Rattle.scan_report.specs.declared.rows.Row.TheVariants as row
use Rattle.study_model.specs.declared.records.ScanItem.{ScanItem}
use Rattle.study_scans.specs.declared.counts.Counts.{Counts}
use Rattle.study_scans.specs.declared.counts.Tally.{Tally}
use Rattle.study_scans.specs.declared.region.Summit.{Summit}
use Rattle.study_scans.specs.Fold.{better, tallied, no_tally}
use Rattle.study_scans.specs.Regions.{is_cleared, is_peak, is_undecided, count_of, summit_with, summit_of}
use Rattle.study_scans.proofs.Folds.{summary_is}
use Rattle.outages_report.specs.Cases.{case_over}
use Rattle.outages_report.specs.Counting.{higher, highest}

-- ---- the summit
-- of two summits the better one, the first where both are equal
abbrev merged : Option Summit → Option Summit → Option Summit
merged first None = first
merged first (Some second) = Some (better first second)

lower : (a b : ℤ) → int_lt a b ≡ true → (c : ℤ) → int_lt b c ≡ true → int_lt a c ≡ false → ⊥
lower a b e c f g = omega (arith, ints, e, f, g)

upper : (a b : ℤ) → int_lt a b ≡ false → (c : ℤ) → int_lt b c ≡ false → int_lt a c ≡ true → ⊥
upper a b e c f g = omega (arith, ints, e, f, g)

abbrev summit_at : ℕ → ℤ → Summit
summit_at at ohms = record { at = at; micro_ohms = ohms }

-- the order in which three are compared doesn't matter
merged_peak : (s : Option Summit) (at : ℕ) (ohms : ℤ) (t : Option Summit) → merged (Some (better s (summit_at at ohms))) t ≡ merged s (summit_with (Peak at ohms) t)
merged_peak s at ohms None = refl
merged_peak None at ohms (Some t) = pick (int_lt ohms t.micro_ohms)
  where
    pick : (c : Bool) → Some (if c then t else summit_at at ohms) ≡ merged None (if c then Some t else Some (summit_at at ohms))
    pick true = refl
    pick false = refl
merged_peak (Some s) at ohms (Some t) = pick (int_lt s.micro_ohms ohms) (int_lt ohms t.micro_ohms) (int_lt s.micro_ohms t.micro_ohms) refl refl refl
  where
    here : Summit
    here = summit_at at ohms

    pick : (x y z : Bool) → int_lt s.micro_ohms ohms ≡ x → int_lt ohms t.micro_ohms ≡ y → int_lt s.micro_ohms t.micro_ohms ≡ z
        → Some (better (Some (if int_lt s.micro_ohms ohms then here else s)) t) ≡ merged (Some s) (if int_lt ohms t.micro_ohms then Some t else Some here)
    pick true true true e f g = cc
    pick true true false e f g = absurd (lower s.micro_ohms ohms e t.micro_ohms f g)
    pick true false true e f g = cc
    pick true false false e f g = cc
    pick false true true e f g = cc
    pick false true false e f g = cc
    pick false false true e f g = absurd (upper s.micro_ohms ohms e t.micro_ohms f g)
    pick false false false e f g = cc

merged_kind : (s : Option Summit) (kind : Kind) (t : Option Summit) → merged (higher s kind) t ≡ merged s (summit_with kind t)
merged_kind s Cleared t = refl
merged_kind s (Peak at ohms) t = merged_peak s at ohms t
merged_kind s Undecided t = refl

highest_is : (s : Option Summit) (boxes : List BoxRow) → highest s boxes ≡ merged s (summit_of boxes)
highest_is s [] = refl
highest_is s (b ∷ bs) = highest_is (higher s b.kind) bs ∙ merged_kind s b.kind (summit_of bs)

after_none : (t : Option Summit) → merged None t ≡ t
after_none None = refl
after_none (Some t) = refl

pub summit_is : (boxes : List BoxRow) → highest None boxes ≡ summit_of boxes
summit_is boxes = highest_is None boxes ∙ after_none (summit_of boxes)

-- ---- the counts
-- those that a scan's last row says
abbrev row_counts : Row → Counts
row_counts (row.Summary name boxes cleared peaks undecided regions) = record { boxes = boxes; cleared = cleared; peaks = peaks; undecided = undecided }
row_counts _ = record { boxes = 0; cleared = 0; peaks = 0; undecided = 0 }

abbrev counts_of : List BoxRow → Counts
counts_of boxes = record { boxes = length boxes; cleared = count_of is_cleared boxes; peaks = count_of is_peak boxes; undecided = count_of is_undecided boxes }

pub counts_are : (scan : ScanItem) (boxes : List BoxRow) → (tallied no_tally boxes).counts ≡ counts_of boxes
counts_are scan boxes = ap row_counts (summary_is scan boxes)

-- what is kept after the last box is the case
pub case_is : (scan : ScanItem) (tally : Tally) (summit : Option Summit) (boxes : List BoxRow) → tally ≡ tallied no_tally boxes → summit ≡ highest None boxes
    → record { name = scan.name; counts = tally.counts; summit = summit } ≡ case_over scan.name boxes
case_is scan tally summit boxes counts best =
    let all : tally.counts ≡ counts_of boxes = ap (λ (t : Tally). t.counts) counts ∙ counts_are scan boxes in
    let one : summit ≡ summit_of boxes = best ∙ summit_is boxes in
    cc
