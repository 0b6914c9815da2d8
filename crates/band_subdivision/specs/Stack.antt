-- A stack of bands that follow one another.
use Rattle.std.specs.Prelude.{ℕ, zero, suc, ◌+◌, ◌-◌, ◌*◌, ◌^◌, ◌<◌, ◌≤◌, List, [], ◌∷◌, length, slice_index, Option, Some, None}
use Rattle.band_subdivision.specs.Boxes.{IsTestable}

pub record Band : Type 0 where
  pub lo : ℕ
  pub hi : ℕ

-- the bands by their high ends, the last one on top, the top one beginning here
abbrev pub bands_from : ℕ → List ℕ → ℕ → List Band
bands_from lo ends zero = []
bands_from lo ends (suc n) = record { lo = lo; hi = slice_index ends n } ∷ bands_from (slice_index ends n) ends n

-- the top band's halves in its place
abbrev pub split_top : List Band → ℕ → List Band
split_top [] middle = []
split_top (b ∷ bs) middle = record { lo = b.lo; hi = middle } ∷ record { lo = middle; hi = b.hi } ∷ bs

-- the top band, and the others
abbrev pub top_of : List Band → Option Band
top_of [] = None
top_of (b ∷ bs) = Some b

abbrev pub below_top : List Band → List Band
below_top [] = []
below_top (b ∷ bs) = bs

-- the top band's width
abbrev pub top_width : List Band → ℕ
top_width [] = 0
top_width (b ∷ bs) = b.hi - b.lo

-- each band is above its beginning, may be tested from an order on, and one on n others is no wider than 2^(16-n) times finest
abbrev pub AreLevels : ℕ → ℕ → List Band → Type 0
AreLevels from finest [] = Unit {0}
AreLevels from finest (b ∷ bs) = (b.lo < b.hi) × (b.hi ≤ b.lo + 2 ^ (16 - length bs) * finest) × IsTestable from b.lo b.hi × AreLevels from finest bs

pub record IsStack (from finest : ℕ) (bands : List Band) : Type 0 where
  pub split : 1 ≤ finest
  pub fits : length bands ≤ 17
  pub levels : AreLevels from finest bands
