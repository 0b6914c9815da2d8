-- Bands by their high ends.
use Rattle.std.proofs.Common.{◌≡◌, ◌≢◌, ℕ, zero, suc, ◌<◌, ◌≤◌, List, length, get_or, set, refl, arith, get_or-set_other, get_or-set_same}
use Rattle.band_subdivision.specs.Stack.{bands_from, split_top}

-- there are as many as are counted
pub length_bands : (n : ℕ) (lo : ℕ) (ends : List ℕ) → length (bands_from lo ends n) ≡ n
length_bands zero lo ends = refl
length_bands (suc n) lo ends = let e : length (bands_from (get_or ends n 0) ends n) ≡ n = length_bands n (get_or ends n 0) ends in omega arith

-- a write above them changes none
pub bands_set : (n : ℕ) (lo : ℕ) (ends : List ℕ) (i x : ℕ) → n ≤ i → bands_from lo (set ends i x) n ≡ bands_from lo ends n
bands_set zero lo ends i x h = refl
bands_set (suc n) lo ends i x h =
    let other : n ≢ i = omega arith in
    let same : get_or (set ends i x) n 0 ≡ get_or ends n 0 = get_or-set_other ends i n x 0 other in
    rw (same, bands_set n (get_or ends n 0) ends i x (omega arith)) refl

-- one more end is the split of the top band
pub bands_split : (n : ℕ) (lo : ℕ) (ends : List ℕ) (middle : ℕ) → 0 < n → n < length ends
    → bands_from lo (set ends n middle) (suc n) ≡ split_top (bands_from lo ends n) middle
bands_split zero lo ends middle some room = absurd (omega arith)
bands_split (suc n) lo ends middle some room =
    let top : get_or (set ends (suc n) middle) (suc n) 0 ≡ middle = get_or-set_same ends (suc n) middle 0 room in
    let other : n ≢ suc n = omega arith in
    let below : get_or (set ends (suc n) middle) n 0 ≡ get_or ends n 0 = get_or-set_other ends (suc n) n middle 0 other in
    let rest : bands_from (get_or ends n 0) (set ends (suc n) middle) n ≡ bands_from (get_or ends n 0) ends n = bands_set n (get_or ends n 0) ends (suc n) middle (omega arith) in
    rw (top, below, rest) refl
