-- Regions of a scan: longest runs of consecutive boxes of which none is cleared.
use Rattle.std.specs.Prelude.{ℕ, ◌+◌, ◌*◌, ◌/◌, ℤ, int_lt, unsigned_abs, Bool, true, false, if◌then◌else◌, List, [], ◌∷◌, count_by, Option, Some, None}
use Rattle.scan_report.specs.declared.boxes.BoxRow.{BoxRow}
use Rattle.scan_report.specs.declared.boxes.Kind.{Kind}
use Rattle.scan_report.specs.declared.boxes.Kind.TheVariants.{Cleared, Peak, Undecided}
use Rattle.scan_report.specs.declared.rows.Row.{Row}
use Rattle.scan_report.specs.declared.rows.Row.TheVariants as row
use Rattle.study_scans.specs.declared.region.Summit.{Summit}
use Rattle.study_scans.specs.declared.region.Region.{Region}

abbrev pub is_cleared : Kind → Bool
is_cleared Cleared = true
is_cleared (Peak at ohms) = false
is_cleared Undecided = false

abbrev pub is_peak : Kind → Bool
is_peak Cleared = false
is_peak (Peak at ohms) = true
is_peak Undecided = false

abbrev pub is_undecided : Kind → Bool
is_undecided Cleared = false
is_undecided (Peak at ohms) = false
is_undecided Undecided = true

-- how many of the boxes are of a kind
abbrev pub count_of : (Kind → Bool) → List BoxRow → ℕ
count_of of_kind boxes = count_by (λ b. of_kind b.kind) boxes

-- a part of a scan's boxes: a cleared one, or the boxes of a region, the first and then the others
pub data Part : Type 0 where
  cleared : BoxRow → Part
  region : BoxRow → List BoxRow → Part

-- a box that isn't cleared, and then these parts: it belongs to a region that follows, or is one of its own
abbrev pub before_parts : BoxRow → List Part → List Part
before_parts b [] = region b [] ∷ []
before_parts b (cleared c ∷ parts) = region b [] ∷ cleared c ∷ parts
before_parts b (region first more ∷ parts) = region b (first ∷ more) ∷ parts

-- boxes, cut into cleared ones and longest runs of others
abbrev pub parts_of : List BoxRow → List Part
parts_of [] = []
parts_of (b ∷ bs) = if is_cleared b.kind then cleared b ∷ parts_of bs else before_parts b (parts_of bs)

abbrev pub is_region : Part → Bool
is_region (cleared b) = false
is_region (region first more) = true

-- a box, and the summit of those after it: a peak of at least their bound is the summit
abbrev pub summit_with : Kind → Option Summit → Option Summit
summit_with Cleared others = others
summit_with Undecided others = others
summit_with (Peak at ohms) None = Some (record { at = at; micro_ohms = ohms })
summit_with (Peak at ohms) (Some s) = if int_lt ohms s.micro_ohms then Some s else Some (record { at = at; micro_ohms = ohms })

-- the first of the peaks with the greatest bound
abbrev pub summit_of : List BoxRow → Option Summit
summit_of [] = None
summit_of (b ∷ bs) = summit_with b.kind (summit_of bs)

-- the high end of the last box
abbrev pub last_end : BoxRow → List BoxRow → ℕ
last_end b [] = b.hi
last_end b (c ∷ cs) = last_end c cs

-- the region of its boxes: from the first low end to the last high end, with its peaks, its undecided boxes and its summit
abbrev pub region_of : BoxRow → List BoxRow → Region
region_of first more = record {
  lo = first.lo;
  hi = last_end first more;
  peaks = count_of is_peak (first ∷ more);
  undecided = count_of is_undecided (first ∷ more);
  summit = summit_of (first ∷ more);
}

-- an order in micro-orders as millionths of a hertz, rounded down and up
abbrev pub hertz_down : ℕ → ℤ → ℕ
hertz_down order hz = order * unsigned_abs hz / 1000000

abbrev pub hertz_up : ℕ → ℤ → ℕ
hertz_up order hz = (order * unsigned_abs hz + 999999) / 1000000

abbrev pub order_of_summit : Option Summit → Option ℕ
order_of_summit None = None
order_of_summit (Some s) = Some s.at

abbrev pub ohms_of_summit : Option Summit → Option ℤ
ohms_of_summit None = None
ohms_of_summit (Some s) = Some s.micro_ohms

-- the row of a region
abbrev pub row_of_region : ℤ → ℕ → Region → Row
row_of_region hz number run =
    row.Region number run.lo run.hi (hertz_down run.lo hz) (hertz_up run.hi hz) run.peaks run.undecided (order_of_summit run.summit) (ohms_of_summit run.summit)
