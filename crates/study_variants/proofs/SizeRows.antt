-- What the row of a size says.
use Rattle.std.proofs.Common.{◌≡◌, ◌∙◌, ℕ, ◌+◌, ◌<◌, ◌^◌, ℤ, pos, ◌≤ℤ◌, Bool, true, List, length, All, Some, slice_get, get_or, refl, sym, subst, ap, arith}
use Rattle.std.specs.Prelude.{int_lt, if◌then◌else◌}
use Rattle.std.specs.Option.{option_map}
use Rattle.std.proofs.lemmas.Int.{ints}
use Rattle.std.proofs.lemmas.List.Elements.{All-get_or}
use Rattle.std.proofs.lemmas.Option.{slice_get_read}
use Rattle.exact_algebra.specs.Ratio.{Ratio, over}
use Rattle.network_theory.specs.Extra.{with_shunt, scanned_network}
use Rattle.network_theory.specs.Network.{Network, IsWhole}
use Rattle.network_theory.proofs.More.{between_itself}
use Rattle.element_parts.specs.PerUnit.{susceptance_of_rating}
use Rattle.admittance_box.specs.HeldMatrix.{CanAssemble}
use Rattle.band_subdivision.specs.Boxes.{boxes_of}
use Rattle.band_subdivision.specs.PairTest.{pair_test}
use Rattle.band_subdivision.specs.Scan.{Scanning, whole_list}
use Rattle.band_subdivision.specs.ScanSpec.{IsScanSpec, asked_of, threshold_of, widths_of}
use Rattle.band_subdivision.specs.Truth.{IsSound}
use Rattle.band_subdivision.proofs.Curves.{levels_hold}
use Rattle.band_subdivision.proofs.PairSound.{pair_is_sound}
use Rattle.band_subdivision.proofs.Scans.{some_width}
use Rattle.study_scans.specs.Claim.{looked_over, HoldsOfBoxes}
use Rattle.study_scans.proofs.BoxCount.{boxes_few}
use Rattle.study_scans.proofs.Holds.{boxes_hold}
use Rattle.study_variants.specs.Kinds.{row_of_boxes}
use Rattle.study_variants.specs.Sizes.{Sizing, sizing_of, IsSizing, size_test, size_boxes, size_row, size_network, IsSafe}
use Rattle.study_variants.specs.declared.size_row.SizeRow.{SizeRow}
use Rattle.study_variants.proofs.BandCleared.{cover_cleared, all_cleared}

-- ---- a size's susceptance
pub susceptance_num : (q mva : ℤ) → (susceptance_of_rating q mva).num ≡ q
unfolding susceptance_of_rating
susceptance_num q mva = refl

pub above_zero : (z : ℤ) → pos 1 ≤ℤ z → int_lt (pos 0) z ≡ true
above_zero z h = grind (arith, ints, h)

-- where it is above 0, the network is scanned with one more shunt
shunt_added : (network : Network) (driven : ℕ) (e : Ratio) → pos 1 ≤ℤ e.num → scanned_network network driven e ≡ with_shunt network driven e
shunt_added network driven e h = ap (λ (t : Bool). if t then with_shunt network driven e else network) (above_zero e.num h)

-- ---- the size at a place
pub size_above : (sizes : List ℤ) (at : ℕ) (q : ℤ) → All (λ z. pos 1 ≤ℤ z) sizes → at < length sizes → q ≡ get_or sizes at q → pos 1 ≤ℤ q
size_above sizes at q all inside is = subst (λ z. pos 1 ≤ℤ z) (sym is) (All-get_or (λ (z : ℤ). pos 1 ≤ℤ z) sizes at q inside all)

-- its susceptance, as a fraction of these numbers, isn't below 0
pub not_below : (q mva num : ℤ) (den : ℕ) → pos 1 ≤ℤ q → over num den ≡ susceptance_of_rating q mva → pos 0 ≤ℤ num
not_below q mva num den above e =
    let n : q ≡ num = sym (ap (λ (r : Ratio). r.num) e ∙ susceptance_num q mva) in
    let too : pos 1 ≤ℤ num = subst (λ z. pos 1 ≤ℤ z) n above in
    omega (arith, ints, too)

-- ---- the boxes of a band
-- they are few
pub few_left : (scale : ℕ) (scan : Scanning) (e : Ratio) → IsScanSpec scan.spec → length (whole_list scale scan e) + 1 < 2 ^ 32
few_left scale scan e s =
    let few = boxes_few (pair_test scale (asked_of scan.spec) scan.low scan.high scan.ordering e) (widths_of scan.spec) scan.spec.from scan.spec.to (some_width _ s) s.band in
    omega (arith, ints, few, s.to.1)

-- a scan that begins anew with the susceptance of a size has its boxes still to come
pub anew_boxes : (scale : ℕ) (scan : Scanning) (sizes : List ℤ) (given : ℕ) (q : ℤ) → scan.high ≡ scan.low
    → whole_list scale scan (susceptance_of_rating q scan.spec.mva) ≡ size_boxes scale (sizing_of scan sizes given) q
anew_boxes scale scan sizes given q alone =
    ap (λ (high : Network). boxes_of (pair_test scale (asked_of scan.spec) scan.low high scan.ordering (susceptance_of_rating q scan.spec.mva)) (widths_of scan.spec) scan.spec.from scan.spec.to) alone

pub row_of_size : (scale : ℕ) (c : Sizing) (q : ℤ) → row_of_boxes q (size_boxes scale c q) ≡ size_row scale c q
unfolding size_row
row_of_size scale c q = refl

-- it doesn't depend on how many sizes have been given
pub row_at_any_time : (scale : ℕ) (c : Sizing) (given : ℕ) (q : ℤ) → size_row scale (record c { given = given }) q ≡ size_row scale c q
unfolding size_row
row_at_any_time scale c given q = refl

-- ---- a size without peaks and undecided boxes
-- its test is sound for the network with the bank
size_sound : (scale : ℕ) (c : Sizing) (q : ℤ) → IsScanSpec c.spec → IsWhole c.network → CanAssemble c.network c.network c.driven c.ordering → pos 1 ≤ℤ q
    → IsSound c.spec.from (looked_over c.spec (size_network c q) c.driven) (size_test scale c q)
size_sound scale c q s whole ready above =
    let e = susceptance_of_rating q c.spec.mva in
    let num : pos 1 ≤ℤ e.num = subst (λ z. pos 1 ≤ℤ z) (sym (susceptance_num q c.spec.mva)) above in
    let natural : pos 0 ≤ℤ e.num = omega (arith, ints, num) in
    subst (λ (n : Network). IsSound c.spec.from (looked_over c.spec n c.driven) (size_test scale c q)) (shunt_added c.network c.driven e num)
    (pair_is_sound scale c.spec.from (threshold_of c.spec) c.spec.kv c.spec.mva (asked_of c.spec) c.network c.network c.driven c.ordering e
    (levels_hold c.spec s.levels) ready natural c.network (between_itself c.network whole))

-- what its boxes say is true of that network
pub size_holds : (scale : ℕ) (c : Sizing) (q : ℤ) → IsScanSpec c.spec → IsWhole c.network → CanAssemble c.network c.network c.driven c.ordering → pos 1 ≤ℤ q
    → HoldsOfBoxes (looked_over c.spec (size_network c q) c.driven) (size_test scale c q) c.spec (size_boxes scale c q)
size_holds scale c q s whole ready above = boxes_hold (looked_over c.spec (size_network c q) c.driven) (size_test scale c q) c.spec s (size_sound scale c q s whole ready above)

pub safe_size : (scale : ℕ) (c : Sizing) (q : ℤ) (row : SizeRow) → IsScanSpec c.spec → IsWhole c.network → CanAssemble c.network c.network c.driven c.ordering → pos 1 ≤ℤ q
    → row ≡ row_of_boxes q (size_boxes scale c q) → row.peaks ≡ 0 → row.undecided ≡ 0 → IsSafe c q
safe_size scale c q row s whole ready above is peaks undecided =
    let seen = looked_over c.spec (size_network c q) c.driven in
    let holds = size_holds scale c q s whole ready above in
    cover_cleared seen (size_boxes scale c q) c.spec.from c.spec.to holds.covers
    (all_cleared seen (size_test scale c q) (widths_of c.spec) (size_boxes scale c q) (sym (ap (λ (r : SizeRow). r.peaks) is) ∙ peaks) (sym (ap (λ (r : SizeRow). r.undecided) is) ∙ undecided)
    holds.true_boxes)

-- so of its row
pub row_is_safe : (scale : ℕ) (c : Sizing) (q : ℤ) → IsScanSpec c.spec → IsWhole c.network → CanAssemble c.network c.network c.driven c.ordering → pos 1 ≤ℤ q
    → (size_row scale c q).peaks ≡ 0 → (size_row scale c q).undecided ≡ 0 → IsSafe c q
row_is_safe scale c q s whole ready above peaks undecided = safe_size scale c q (size_row scale c q) s whole ready above (sym (row_of_size scale c q)) peaks undecided

pub row_size : (scale : ℕ) (c : Sizing) (q : ℤ) → (size_row scale c q).size ≡ q
unfolding size_row
row_size scale c q = refl

-- ---- what an answer shows
-- the size is the one at its place, above 0, and the row has the counts of its boxes
pub record IsAnswered (scale : ℕ) (scan : Scanning) (sizes : List ℤ) (given : ℕ) (q : ℤ) (row : SizeRow) : Type 0 where
  pub there : slice_get sizes given ≡ Some q
  pub above : pos 1 ≤ℤ q
  pub row_is : row ≡ row_of_boxes q (size_boxes scale (sizing_of scan sizes given) q)

pub answered : (scale : ℕ) (scan : Scanning) (mva : ℤ) (sizes : List ℤ) (given : ℕ) (q : ℤ) (e : Ratio) (begun : Scanning) (row : SizeRow) → IsSizing scan mva sizes given
    → given < length sizes → q ≡ get_or sizes given q → e ≡ susceptance_of_rating q mva → begun ≡ record scan { extra = e; left = whole_list scale scan e } → row ≡ row_of_boxes q begun.left
    → IsAnswered scale scan sizes given q row
answered scale scan mva sizes given q e begun row kept inside is susceptance anew counted =
    let same : e ≡ susceptance_of_rating q scan.spec.mva = susceptance ∙ ap (susceptance_of_rating q) kept.same_mva in
    record {
      there = slice_get_read sizes (length sizes) given q refl inside is;
      above = size_above sizes given q kept.above inside is;
      row_is = counted ∙ ap (row_of_boxes q) (ap (λ (s : Scanning). s.left) anew ∙ ap (whole_list scale scan) same ∙ anew_boxes scale scan sizes given q kept.alone);
    }

pub row_answered : (scale : ℕ) (scan : Scanning) (sizes : List ℤ) (given : ℕ) (q : ℤ) (row : SizeRow) (c : Sizing) → sizing_of scan sizes given ≡ c → IsAnswered scale scan sizes given q row
    → Some row ≡ option_map (size_row scale c) (slice_get c.sizes c.given)
row_answered scale scan sizes given q row c seen h =
    subst (λ (v : Sizing). Some row ≡ option_map (size_row scale v) (slice_get v.sizes v.given)) seen
    (ap (λ (r : SizeRow). Some r) (h.row_is ∙ row_of_size scale (sizing_of scan sizes given) q) ∙ sym (ap (option_map (size_row scale (sizing_of scan sizes given))) h.there))

pub safe_answered : (scale : ℕ) (scan : Scanning) (mva : ℤ) (sizes : List ℤ) (given : ℕ) (q : ℤ) (row : SizeRow) (c : Sizing) → sizing_of scan sizes given ≡ c → IsSizing scan mva sizes given
    → IsAnswered scale scan sizes given q row → row.peaks ≡ 0 → row.undecided ≡ 0 → IsSafe c row.size
safe_answered scale scan mva sizes given q row c seen kept h peaks undecided =
    let size : q ≡ row.size = sym (ap (λ (r : SizeRow). r.size) h.row_is) in
    subst (λ (v : Sizing). IsSafe v row.size) seen
    (subst (λ (z : ℤ). IsSafe (sizing_of scan sizes given) z) size (safe_size scale (sizing_of scan sizes given) q row kept.spec kept.whole kept.ready h.above h.row_is peaks undecided))
