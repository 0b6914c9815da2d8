-- The program's walk over boxes comes to the regions and counts of a report.
use Rattle.std.proofs.Common.{◌≡◌, ◌∙◌, ℕ, ◌+◌, ◌<◌, ℤ, int_lt, Bool, true, false, cond, List, [], ◌∷◌, ◌++◌, length, Option, Some, None, ap, sym, refl, append_assoc, arith}
use Rattle.std.proofs.lemmas.Bool.Decides.{nat_tests}
use Rattle.std.proofs.lemmas.Int.{ints}
use Rattle.std.proofs.lemmas.List.Sums.{sum_by-append}
use Rattle.std.specs.Prelude.{count_by, nat_lt, ◌||◌, if◌then◌else◌}
use Rattle.std.specs.List.{list_any}
use Rattle.band_subdivision.specs.Boxes.{BoxTest}
use Rattle.scan_report.specs.declared.boxes.BoxRow.{BoxRow}
use Rattle.scan_report.specs.declared.boxes.Kind.{Kind}
use Rattle.scan_report.specs.declared.boxes.Kind.TheVariants.{Cleared, Peak, Undecided}
use Rattle.scan_report.specs.declared.rows.Row.{Row}
use Rattle.scan_report.specs.declared.rows.Row.TheVariants.{Summary}
use Rattle.study_model.specs.declared.records.ScanItem.{ScanItem}
use Rattle.study_model.specs.declared.records.Study.{Study}
use Rattle.study_scans.specs.declared.counts.Counts.{Counts}
use Rattle.study_scans.specs.declared.counts.Found.{Found}
use Rattle.study_scans.specs.declared.counts.Tally.{Tally}
use Rattle.study_scans.specs.declared.region.Region.{Region}
use Rattle.study_scans.specs.declared.region.Summit.{Summit}
use Rattle.study_scans.specs.Regions.{is_cleared, is_peak, is_undecided, count_of, Part, cleared, region, before_parts, parts_of, is_region, summit_with, summit_of, last_end, region_of, row_of_region}
use Rattle.study_scans.specs.Report.{row_of, box_rows, rows_of_parts, summary_of}
use Rattle.study_scans.specs.Fold.{better, joined, count_more, tally_more, tallied, no_tally, folded_rows, all_regions, folded_summary, found_too, found_in, nothing_found, found_over}
use Rattle.study_scans.specs.Scan.{boxes_for}

-- ---- a run with one box more
last_end_more : (first : BoxRow) (more : List BoxRow) (b : BoxRow) → last_end first (more ++ b ∷ []) ≡ b.hi
last_end_more first [] b = refl
last_end_more first (c ∷ cs) b = last_end_more c cs b

count_more_of : (p : Kind → Bool) (xs : List BoxRow) (b : BoxRow) → count_of p (xs ++ b ∷ []) ≡ count_of p xs + count_of p (b ∷ [])
count_more_of p xs b = sum_by-append (λ y. cond (p y.kind) 1 0) xs (b ∷ [])

-- the first one, and the others
count_first : {A : Type 0} (p : A → Bool) (x : A) (xs : List A) → count_by p (x ∷ xs) ≡ count_by p (x ∷ []) + count_by p xs
count_first p x xs = sum_by-append (λ y. cond (p y) 1 0) (x ∷ []) xs

-- the better of the summit of some boxes and a peak after them is the summit of all
better_last : (k : Kind) (s : Option Summit) (t : Summit) → summit_with k (Some (better s t)) ≡ Some (better (summit_with k s) t)
better_last Cleared s t = refl
better_last Undecided s t = refl
better_last (Peak at ohms) None t = pick (int_lt ohms t.micro_ohms)
  where
    pick : (c : Bool) → (if c then Some t else Some (record { at = at; micro_ohms = ohms })) ≡ Some (if c then t else record { at = at; micro_ohms = ohms })
    pick true = refl
    pick false = refl
better_last (Peak at ohms) (Some s) t = pick (int_lt s.micro_ohms t.micro_ohms) (int_lt ohms s.micro_ohms) (int_lt ohms t.micro_ohms) refl refl refl
  where
    here : Summit
    here = record { at = at; micro_ohms = ohms }

    lower : (a b : ℤ) → int_lt a b ≡ true → (c : ℤ) → int_lt b c ≡ true → int_lt a c ≡ false → ⊥
    lower a b e c f g = omega (arith, ints, e, f, g)

    upper : (a b : ℤ) → int_lt a b ≡ false → (c : ℤ) → int_lt b c ≡ false → int_lt a c ≡ true → ⊥
    upper a b e c f g = omega (arith, ints, e, f, g)

    pick : (x y z : Bool) → int_lt s.micro_ohms t.micro_ohms ≡ x → int_lt ohms s.micro_ohms ≡ y → int_lt ohms t.micro_ohms ≡ z
        → summit_with (Peak at ohms) (Some (if int_lt s.micro_ohms t.micro_ohms then t else s)) ≡ Some (better (if int_lt ohms s.micro_ohms then Some s else Some here) t)
    pick true true true e f g = cc
    pick true true false e f g = absurd (lower ohms s.micro_ohms f t.micro_ohms e g)
    pick true false true e f g = cc
    pick true false false e f g = cc
    pick false true true e f g = cc
    pick false true false e f g = cc
    pick false false true e f g = absurd (upper ohms s.micro_ohms f t.micro_ohms e g)
    pick false false false e f g = cc

summit_more : (xs : List BoxRow) (lo hi at : ℕ) (ohms : ℤ)
    → summit_of (xs ++ record { lo = lo; hi = hi; kind = Peak at ohms } ∷ []) ≡ Some (better (summit_of xs) (record { at = at; micro_ohms = ohms }))
summit_more [] lo hi at ohms = refl
summit_more (x ∷ xs) lo hi at ohms = ap (summit_with x.kind) (summit_more xs lo hi at ohms) ∙ better_last x.kind (summit_of xs) (record { at = at; micro_ohms = ohms })

summit_same : (xs : List BoxRow) (lo hi : ℕ) → summit_of (xs ++ record { lo = lo; hi = hi; kind = Undecided } ∷ []) ≡ summit_of xs
summit_same [] lo hi = refl
summit_same (x ∷ xs) lo hi = ap (summit_with x.kind) (summit_same xs lo hi)

abbrev region_with : ℕ → ℕ → ℕ → ℕ → Option Summit → Region
region_with lo hi peaks undecided summit = record { lo = lo; hi = hi; peaks = peaks; undecided = undecided; summit = summit }

same_region : (lo hi hi' p p' u u' : ℕ) (s s' : Option Summit) → hi ≡ hi' → p ≡ p' → u ≡ u' → s ≡ s'
    → region_with lo hi p u s ≡ region_with lo hi' p' u' s'
same_region lo hi hi' p p' u u' s s' a b c d = cc

joined_more : (first : BoxRow) (more : List BoxRow) (lo hi : ℕ) (kind : Kind) → is_cleared kind ≡ false
    → joined (Some (region_of first more)) (record { lo = lo; hi = hi; kind = kind }) ≡ Some (region_of first (more ++ record { lo = lo; hi = hi; kind = kind } ∷ []))
joined_more first more lo hi Cleared n = absurd (cc)
joined_more first more lo hi (Peak at ohms) n =
    let b : BoxRow = record { lo = lo; hi = hi; kind = Peak at ohms } in
    let peaks : count_of is_peak ((first ∷ more) ++ b ∷ []) ≡ count_of is_peak (first ∷ more) + 1 = count_more_of is_peak (first ∷ more) b in
    let undecided : count_of is_undecided ((first ∷ more) ++ b ∷ []) ≡ count_of is_undecided (first ∷ more) + 0 = count_more_of is_undecided (first ∷ more) b in
    ap Some (same_region first.lo _ _ _ _ _ _ _ _ (sym (last_end_more first more b)) (sym peaks) (omega (arith, undecided)) (sym (summit_more (first ∷ more) lo hi at ohms)))
joined_more first more lo hi Undecided n =
    let b : BoxRow = record { lo = lo; hi = hi; kind = Undecided } in
    let peaks : count_of is_peak ((first ∷ more) ++ b ∷ []) ≡ count_of is_peak (first ∷ more) + 0 = count_more_of is_peak (first ∷ more) b in
    let undecided : count_of is_undecided ((first ∷ more) ++ b ∷ []) ≡ count_of is_undecided (first ∷ more) + 1 = count_more_of is_undecided (first ∷ more) b in
    ap Some (same_region first.lo _ _ _ _ _ _ _ _ (sym (last_end_more first more b)) (omega (arith, peaks)) (sym undecided) (sym (summit_same (first ∷ more) lo hi)))

joined_first : (lo hi : ℕ) (kind : Kind) → is_cleared kind ≡ false → joined None (record { lo = lo; hi = hi; kind = kind }) ≡ Some (region_of (record { lo = lo; hi = hi; kind = kind }) [])
joined_first lo hi Cleared n = absurd (cc)
joined_first lo hi (Peak at ohms) n = refl
joined_first lo hi Undecided n = refl

-- ---- rows
-- the rows after the boxes of a region that may go on
abbrev going_on : ℤ → ℕ → ℕ → BoxRow → List BoxRow → List Part → List Row
going_on hz number regions first more [] = row_of_region hz regions (region_of first more) ∷ []
going_on hz number regions first more (cleared c ∷ parts) = row_of_region hz regions (region_of first more) ∷ rows_of_parts hz number (regions + 1) (cleared c ∷ parts)
going_on hz number regions first more (region next others ∷ parts) =
    box_rows number (next ∷ others) ++ row_of_region hz regions (region_of first (more ++ next ∷ others)) ∷ rows_of_parts hz (number + length (next ∷ others)) (regions + 1) parts

-- a box that isn't cleared goes on with the region, or begins one
goes_on : (hz : ℤ) (number regions : ℕ) (first : BoxRow) (more : List BoxRow) (b : BoxRow) (parts : List Part)
    → row_of number b.lo b.hi b.kind ∷ going_on hz (number + 1) regions first (more ++ b ∷ []) parts ≡ going_on hz number regions first more (before_parts b parts)
goes_on hz number regions first more b [] = refl
goes_on hz number regions first more b (cleared c ∷ parts) = refl
goes_on hz number regions first more b (region next others ∷ parts) =
    let later : (number + 1) + length (next ∷ others) ≡ number + length (b ∷ next ∷ others) = omega arith in
    ap (λ (l : List BoxRow). box_rows number (b ∷ next ∷ others) ++ row_of_region hz regions (region_of first l) ∷ rows_of_parts hz ((number + 1) + length (next ∷ others)) (regions + 1) parts) (append_assoc more (b ∷ []) (next ∷ others))
    ∙ ap (λ (n : ℕ). box_rows number (b ∷ next ∷ others) ++ row_of_region hz regions (region_of first (more ++ b ∷ next ∷ others)) ∷ rows_of_parts hz n (regions + 1) parts) later

begins : (hz : ℤ) (number regions : ℕ) (b : BoxRow) (parts : List Part)
    → row_of number b.lo b.hi b.kind ∷ going_on hz (number + 1) regions b [] parts ≡ rows_of_parts hz number regions (before_parts b parts)
begins hz number regions b [] = refl
begins hz number regions b (cleared c ∷ parts) = refl
begins hz number regions b (region next others ∷ parts) =
    let later : (number + 1) + length (next ∷ others) ≡ number + length (b ∷ next ∷ others) = omega arith in
    ap (λ (n : ℕ). box_rows number (b ∷ next ∷ others) ++ row_of_region hz regions (region_of b (next ∷ others)) ∷ rows_of_parts hz n (regions + 1) parts) later

-- the rows from here on, after a cleared box and within a region
record RowsOf (hz : ℤ) (bs : List BoxRow) : Type 0 where
  outside : (c : Counts) (g : ℕ) → folded_rows hz (record { counts = c; regions = g; run = None }) bs ≡ rows_of_parts hz (c.boxes + 1) (g + 1) (parts_of bs)
  inside : (c : Counts) (g : ℕ) (first : BoxRow) (more : List BoxRow)
      → folded_rows hz (record { counts = c; regions = g; run = Some (region_of first more) }) bs ≡ going_on hz (c.boxes + 1) (g + 1) first more (parts_of bs)

rows_with : (hz : ℤ) (lo hi : ℕ) (kind : Kind) (bs : List BoxRow) → RowsOf hz bs → RowsOf hz (record { lo = lo; hi = hi; kind = kind } ∷ bs)
rows_with hz lo hi Cleared bs h = record {
  outside = λ c g. ap (λ (l : List Row). row_of (c.boxes + 1) lo hi Cleared ∷ l) (h.outside (count_more Cleared c) g);
  inside = λ c g first more. ap (λ (l : List Row). row_of_region hz (g + 1) (region_of first more) ∷ row_of (c.boxes + 1) lo hi Cleared ∷ l) (h.outside (count_more Cleared c) (g + 1));
}
rows_with hz lo hi (Peak at ohms) bs h =
    let b : BoxRow = record { lo = lo; hi = hi; kind = Peak at ohms } in
    record {
      outside = λ c g. ap (λ (l : List Row). row_of (c.boxes + 1) lo hi (Peak at ohms) ∷ l) (h.inside (count_more (Peak at ohms) c) g b []) ∙ begins hz (c.boxes + 1) (g + 1) b (parts_of bs);
      inside = λ c g first more.
          ap (λ (run : Option Region). row_of (c.boxes + 1) lo hi (Peak at ohms) ∷ folded_rows hz (record { counts = count_more (Peak at ohms) c; regions = g; run = run }) bs) (joined_more first more lo hi (Peak at ohms) refl)
          ∙ ap (λ (l : List Row). row_of (c.boxes + 1) lo hi (Peak at ohms) ∷ l) (h.inside (count_more (Peak at ohms) c) g first (more ++ b ∷ []))
          ∙ goes_on hz (c.boxes + 1) (g + 1) first more b (parts_of bs);
    }
rows_with hz lo hi Undecided bs h =
    let b : BoxRow = record { lo = lo; hi = hi; kind = Undecided } in
    record {
      outside = λ c g. ap (λ (l : List Row). row_of (c.boxes + 1) lo hi Undecided ∷ l) (h.inside (count_more Undecided c) g b []) ∙ begins hz (c.boxes + 1) (g + 1) b (parts_of bs);
      inside = λ c g first more.
          ap (λ (run : Option Region). row_of (c.boxes + 1) lo hi Undecided ∷ folded_rows hz (record { counts = count_more Undecided c; regions = g; run = run }) bs) (joined_more first more lo hi Undecided refl)
          ∙ ap (λ (l : List Row). row_of (c.boxes + 1) lo hi Undecided ∷ l) (h.inside (count_more Undecided c) g first (more ++ b ∷ []))
          ∙ goes_on hz (c.boxes + 1) (g + 1) first more b (parts_of bs);
    }

rows_of : (hz : ℤ) (bs : List BoxRow) → RowsOf hz bs
rows_of hz [] = record { outside = λ c g. refl; inside = λ c g first more. refl }
rows_of hz (b ∷ bs) = rows_with hz b.lo b.hi b.kind bs (rows_of hz bs)

-- the rows that are put are those of the parts
pub rows_are : (hz : ℤ) (boxes : List BoxRow) → folded_rows hz no_tally boxes ≡ rows_of_parts hz 1 1 (parts_of boxes)
rows_are hz boxes = (rows_of hz boxes).outside no_tally.counts 0

-- ---- counts
-- counts, and then those of boxes
abbrev and_of : Counts → List BoxRow → Counts
and_of c boxes = record { boxes = c.boxes + length boxes; cleared = c.cleared + count_of is_cleared boxes; peaks = c.peaks + count_of is_peak boxes; undecided = c.undecided + count_of is_undecided boxes }

abbrev counts_with : ℕ → ℕ → ℕ → ℕ → Counts
counts_with a b c d = record { boxes = a; cleared = b; peaks = c; undecided = d }

same_counts : (a a' b b' c c' d d' : ℕ) → a ≡ a' → b ≡ b' → c ≡ c' → d ≡ d' → counts_with a b c d ≡ counts_with a' b' c' d'
same_counts a a' b b' c c' d d' e f g h = cc

counted_with : (c : Counts) (lo hi : ℕ) (kind : Kind) (bs : List BoxRow) → and_of (count_more kind c) bs ≡ and_of c (record { lo = lo; hi = hi; kind = kind } ∷ bs)
counted_with c lo hi Cleared bs =
    let b : BoxRow = record { lo = lo; hi = hi; kind = Cleared } in
    same_counts _ _ _ _ _ _ _ _ (omega arith) (omega (arith, count_first (λ b. is_cleared b.kind) b bs)) (omega (arith, count_first (λ b. is_peak b.kind) b bs)) (omega (arith, count_first (λ b. is_undecided b.kind) b bs))
counted_with c lo hi (Peak at ohms) bs =
    let b : BoxRow = record { lo = lo; hi = hi; kind = Peak at ohms } in
    same_counts _ _ _ _ _ _ _ _ (omega arith) (omega (arith, count_first (λ b. is_cleared b.kind) b bs)) (omega (arith, count_first (λ b. is_peak b.kind) b bs)) (omega (arith, count_first (λ b. is_undecided b.kind) b bs))
counted_with c lo hi Undecided bs =
    let b : BoxRow = record { lo = lo; hi = hi; kind = Undecided } in
    same_counts _ _ _ _ _ _ _ _ (omega arith) (omega (arith, count_first (λ b. is_cleared b.kind) b bs)) (omega (arith, count_first (λ b. is_peak b.kind) b bs)) (omega (arith, count_first (λ b. is_undecided b.kind) b bs))

counted : (t : Tally) (bs : List BoxRow) → (tallied t bs).counts ≡ and_of t.counts bs
counted t [] = same_counts _ _ _ _ _ _ _ _ (omega arith) (omega arith) (omega arith) (omega arith)
counted t (b ∷ bs) = counted (tally_more b t) bs ∙ counted_with t.counts b.lo b.hi b.kind bs

-- how many regions there are after a part of a region
abbrev other_regions : List Part → ℕ
other_regions [] = 0
other_regions (cleared c ∷ parts) = count_by is_region parts
other_regions (region first more ∷ parts) = count_by is_region parts

same_others : (b : BoxRow) (parts : List Part) → other_regions (before_parts b parts) ≡ other_regions parts
same_others b [] = refl
same_others b (cleared c ∷ parts) = refl
same_others b (region first more ∷ parts) = refl

one_more : (b : BoxRow) (parts : List Part) → count_by is_region (before_parts b parts) ≡ 1 + other_regions parts
one_more b [] = refl
one_more b (cleared c ∷ parts) = count_first is_region (region b []) (cleared c ∷ parts) ∙ ap (λ (n : ℕ). 1 + n) (none_first (count_first is_region (cleared c) parts))
  where
    none_first : {n m : ℕ} → n ≡ 0 + m → n ≡ m
    none_first e = omega (arith, e)
one_more b (region first more ∷ parts) = count_first is_region (region b (first ∷ more)) parts

record RegionsOf (bs : List BoxRow) : Type 0 where
  outside : (c : Counts) (g : ℕ) → all_regions (tallied (record { counts = c; regions = g; run = None }) bs).regions (tallied (record { counts = c; regions = g; run = None }) bs).run ≡ g + count_by is_region (parts_of bs)
  inside : (c : Counts) (g : ℕ) (run : Region)
      → all_regions (tallied (record { counts = c; regions = g; run = Some run }) bs).regions (tallied (record { counts = c; regions = g; run = Some run }) bs).run ≡ g + 1 + other_regions (parts_of bs)

regions_with : (lo hi : ℕ) (kind : Kind) (bs : List BoxRow) → RegionsOf bs → RegionsOf (record { lo = lo; hi = hi; kind = kind } ∷ bs)
regions_with lo hi Cleared bs h = record { outside = λ c g. h.outside (count_more Cleared c) g; inside = λ c g run. h.outside (count_more Cleared c) (g + 1) }
regions_with lo hi (Peak at ohms) bs h =
    let b : BoxRow = record { lo = lo; hi = hi; kind = Peak at ohms } in
    record {
      outside = λ c g. h.inside (count_more (Peak at ohms) c) g (region_of b []) ∙ omega (arith, one_more b (parts_of bs));
      inside = λ c g run. h.inside (count_more (Peak at ohms) c) g _ ∙ ap (λ (n : ℕ). g + 1 + n) (sym (same_others b (parts_of bs)));
    }
regions_with lo hi Undecided bs h =
    let b : BoxRow = record { lo = lo; hi = hi; kind = Undecided } in
    record {
      outside = λ c g. h.inside (count_more Undecided c) g (region_of b []) ∙ omega (arith, one_more b (parts_of bs));
      inside = λ c g run. h.inside (count_more Undecided c) g _ ∙ ap (λ (n : ℕ). g + 1 + n) (sym (same_others b (parts_of bs)));
    }

regions_of : (bs : List BoxRow) → RegionsOf bs
regions_of [] = record { outside = λ c g. omega arith; inside = λ c g run. omega arith }
regions_of (b ∷ bs) = regions_with b.lo b.hi b.kind bs (regions_of bs)

same_summary : (scan : ScanItem) (a a' b b' c c' d d' e e' : ℕ) → a ≡ a' → b ≡ b' → c ≡ c' → d ≡ d' → e ≡ e' → Summary scan.name a b c d e ≡ Summary scan.name a' b' c' d' e'
same_summary scan a a' b b' c c' d d' e e' f g h i j = cc

pub summary_is : (scan : ScanItem) (boxes : List BoxRow) → folded_summary scan (tallied no_tally boxes) ≡ summary_of scan boxes
summary_is scan boxes =
    let counts : (tallied no_tally boxes).counts ≡ and_of no_tally.counts boxes = counted no_tally boxes in
    same_summary scan _ _ _ _ _ _ _ _ _ _ (ap (λ (c : Counts). c.boxes) counts ∙ omega arith) (ap (λ (c : Counts). c.cleared) counts ∙ omega arith) (ap (λ (c : Counts). c.peaks) counts ∙ omega arith)
    (ap (λ (c : Counts). c.undecided) counts ∙ omega arith) ((regions_of boxes).outside no_tally.counts 0 ∙ omega arith)

-- ---- what is found
above : (n : ℕ) → 0 < n → nat_lt 0 n ≡ true
above n h = grind (arith, nat_tests, h)

some_counted : {A : Type 0} (p : A → Bool) (xs : List A) → nat_lt 0 (count_by p xs) ≡ list_any p xs
some_counted p [] = refl
some_counted p (x ∷ xs) = ap (nat_lt 0) (count_first p x xs) ∙ some_first (p x) (count_by p xs) ∙ ap (λ (b : Bool). p x || b) (some_counted p xs)
  where
    some_first : (c : Bool) (n : ℕ) → nat_lt 0 ((0 + cond c 1 0) + n) ≡ (c || nat_lt 0 n)
    some_first true n = above ((0 + 1) + n) (omega arith)
    some_first false n = ap (nat_lt 0) (omega arith)

or_nothing : (a : Bool) → a ≡ (a || false)
or_nothing true = refl
or_nothing false = refl

or_both : (a b c : Bool) → ((a || b) || c) ≡ (a || (b || c))
or_both true b c = refl
or_both false b c = refl

-- a box of this kind was found, or there is one in these scans
abbrev or_some : (Kind → Bool) → (ScanItem → BoxTest) → Study → Bool → List ScanItem → Bool
or_some of_kind tests study found scans = found || list_any (λ scan. list_any (λ b. of_kind b.kind) (boxes_for tests study scan)) scans

abbrev found_with : Bool → Bool → Found
found_with peak undecided = record { peak = peak; undecided = undecided }

same_found : (a a' b b' : Bool) → a ≡ a' → b ≡ b' → found_with a b ≡ found_with a' b'
same_found a a' b b' e f = cc

some_more : (of_kind : Kind → Bool) (tests : ScanItem → BoxTest) (study : Study) (found : Bool) (scan : ScanItem) (scans : List ScanItem) (n : ℕ) → n ≡ count_of of_kind (boxes_for tests study scan)
    → or_some of_kind tests study (found || nat_lt 0 n) scans ≡ or_some of_kind tests study found (scan ∷ scans)
some_more of_kind tests study found scan scans n e =
    ap (λ (b : Bool). (found || b) || list_any (λ scan. list_any (λ b. of_kind b.kind) (boxes_for tests study scan)) scans) (ap (nat_lt 0) e ∙ some_counted (λ b. of_kind b.kind) (boxes_for tests study scan))
    ∙ or_both found (list_any (λ b. of_kind b.kind) (boxes_for tests study scan)) (list_any (λ scan. list_any (λ b. of_kind b.kind) (boxes_for tests study scan)) scans)

found_all : (tests : ScanItem → BoxTest) (study : Study) (f : Found) (scans : List ScanItem) → found_in tests study f scans ≡ record { peak = or_some is_peak tests study f.peak scans; undecided = or_some is_undecided tests study f.undecided scans }
found_all tests study f [] = same_found _ _ _ _ (or_nothing f.peak) (or_nothing f.undecided)
found_all tests study f (scan ∷ scans) =
    let counts : (tallied no_tally (boxes_for tests study scan)).counts ≡ and_of no_tally.counts (boxes_for tests study scan) = counted no_tally (boxes_for tests study scan) in
    found_all tests study (found_too f (tallied no_tally (boxes_for tests study scan)).counts) scans
    ∙ same_found _ _ _ _ (some_more is_peak tests study f.peak scan scans _ (ap (λ (c : Counts). c.peaks) counts ∙ omega arith)) (some_more is_undecided tests study f.undecided scan scans _ (ap (λ (c : Counts). c.undecided) counts ∙ omega arith))

pub found_is : (tests : ScanItem → BoxTest) (study : Study) → found_in tests study nothing_found study.scans ≡ found_over tests study
found_is tests study = found_all tests study nothing_found study.scans
