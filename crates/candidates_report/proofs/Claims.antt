-- What the report on candidates claims of a study holds.
use Rattle.std.proofs.Common.{◌≡◌, ℕ, ◌≤◌, ◌⊎◌, inl, inr, arith, ℤ, pos, ◌≤ℤ◌, Bool, true, false, List, [], ◌∷◌, map, refl, sym, subst}
use Rattle.std.specs.Prelude.{◌==◌, if◌then◌else◌, Option, Some, None, IfSome, IsSomeAnd}
use Rattle.std.specs.List.{AllByRecursion}
use Rattle.std.proofs.lemmas.Bool.{and_parts, eqb-true}
use Rattle.network_theory.specs.Network.{IsWhole}
use Rattle.network_theory.proofs.More.{between_itself}
use Rattle.admittance_box.specs.HeldMatrix.{CanAssemble}
use Rattle.band_subdivision.specs.ScanSpec.{IsScanSpec}
use Rattle.study_model.specs.Lawful.{IsLawful, IsLawfulScan, IsLawfulCandidate, IsOfPositive}
use Rattle.study_model.specs.declared.records.Candidate.{Candidate}
use Rattle.study_model.specs.declared.records.ScanItem.{ScanItem}
use Rattle.study_model.specs.declared.records.Study.{Study}
use Rattle.study_networks.specs.Networks.{AreNetworksOf, HasLive}
use Rattle.study_networks.specs.declared.networks.StudyNetworks.{StudyNetworks}
use Rattle.study_scans.proofs.Asked.{spec_in_range}
use Rattle.study_scans.proofs.NodeOrderings.{found_order}
use Rattle.study_scans.proofs.Sound.{scanned_whole}
use Rattle.study_variants.specs.Sizes.{Sizing, size_row, IsSafe}
use Rattle.study_variants.proofs.FromScratch.{boxes_from_scratch}
use Rattle.study_variants.proofs.SizeRows.{size_holds, row_is_safe, row_size}
use Rattle.candidates_report.specs.Claim.{HoldsOfSize, HoldsOfEntry, HoldsOfCandidate, HoldsOfCandidates}
use Rattle.candidates_report.specs.Entries.{scan_of}
use Rattle.candidates_report.specs.First.{is_safe, first_safe}
use Rattle.candidates_report.specs.Sizes.{kept_network, sizing_of, sizes_of}
use Rattle.candidates_report.proofs.Listed.{lawful_scan, sizes_above, lawful_candidates}
use Rattle.candidates_report.proofs.Scanned.{kept_is, bus_is_live}

-- what is needed of a network that is scanned with a bank
record CanTry (c : Sizing) : Type 0 where
  spec : IsScanSpec c.spec
  whole : IsWhole c.network
  ready : CanAssemble c.network c.network c.driven c.ordering

-- ---- sizes
safe_size : (scale : ℕ) (c : Sizing) (q : ℤ) → CanTry c → pos 1 ≤ℤ q → is_safe (size_row scale c q) ≡ true → IsSafe c q
safe_size scale c q can above safe =
    let row = size_row scale c q in
    let (peaks, undecided) = and_parts (row.peaks == 0) (row.undecided == 0) safe in
    row_is_safe scale c q can.spec can.whole can.ready above (eqb-true row.peaks 0 peaks) (eqb-true row.undecided 0 undecided)

-- intervals at a study's scale
small_scale : (study : Study) → IsLawful study → study.scale ≤ 48
small_scale study h = by h.scale
  where
    by : (study.scale ≡ 40) ⊎ (study.scale ≡ 48) → study.scale ≤ 48
    by (inl e) = omega (arith, e)
    by (inr e) = omega (arith, e)

each_size : (study : Study) (c : Sizing) (sizes : List ℤ) → study.scale ≤ 48 → CanTry c → AllByRecursion (λ q. pos 1 ≤ℤ q) sizes → AllByRecursion (HoldsOfSize study c) sizes
each_size study c [] small can h = tt
each_size study c (q ∷ sizes) small can h = (
  record {
    boxes = size_holds study.scale c q can.spec can.whole can.ready h.0;
    safe = safe_size study.scale c q can h.0;
    scratch = boxes_from_scratch study.scale small c q can.whole can.ready h.0;
  },
  each_size study c sizes small can h.1,
)

first_size : (scale : ℕ) (c : Sizing) (sizes : List ℤ) → CanTry c → AllByRecursion (λ q. pos 1 ≤ℤ q) sizes → IfSome (first_safe (map (size_row scale c) sizes)) (IsSafe c)
first_size scale c [] can h = tt
first_size scale c (q ∷ sizes) can h = go (is_safe (size_row scale c q)) refl (first_size scale c sizes can h.1)
  where
    go : (safe : Bool) → is_safe (size_row scale c q) ≡ safe → IfSome (first_safe (map (size_row scale c) sizes)) (IsSafe c)
        → IfSome (if safe then Some (size_row scale c q).size else first_safe (map (size_row scale c) sizes)) (IsSafe c)
    go true safe rest = subst (IsSafe c) (sym (row_size scale c q)) (safe_size scale c q can h.0 safe)
    go false unsafe rest = rest

-- ---- candidates
can_try : (study : Study) (networks : StudyNetworks) (scan : ScanItem) (sizes : List ℤ) → IsLawful study → AreNetworksOf study networks → HasLive study
    → IsLawfulScan study.version study.model study.buses scan → IsOfPositive scan → CanTry (sizing_of study scan sizes)
can_try study networks scan sizes h are live s positive =
    let whole : IsWhole (kept_network study) = subst IsWhole (kept_is study scan s positive) (scanned_whole study networks scan are s) in
    record {
      spec = spec_in_range study scan h s;
      whole = whole;
      ready = record {
        pair = (between_itself (kept_network study) whole).from_low;
        driven_is_live = bus_is_live study scan live s positive;
        ordered = found_order (kept_network study) scan.bus whole;
      };
    }

entry_holds : (study : Study) (scan : ScanItem) (sizes : List ℤ) → study.scale ≤ 48 → CanTry (sizing_of study scan sizes) → AllByRecursion (λ q. pos 1 ≤ℤ q) sizes → HoldsOfEntry study scan sizes
unfolding sizes_of
entry_holds study scan sizes small can above = record {
  each = each_size study (sizing_of study scan sizes) sizes small can above;
  first = first_size study.scale (sizing_of study scan sizes) sizes can above;
}

candidate_holds : (study : Study) (networks : StudyNetworks) (candidate : Candidate) → IsLawful study → AreNetworksOf study networks → HasLive study → IsLawfulCandidate study candidate → HoldsOfCandidate study candidate
candidate_holds study networks candidate h are live k = go (scan_of study candidate) refl k.scan.1
  where
    go : (o : Option ScanItem) → scan_of study candidate ≡ o → IsSomeAnd o IsOfPositive → IsSomeAnd o (λ scan. HoldsOfEntry study scan candidate.sizes)
    go None at is = absurd is
    go (Some scan) at is =
        entry_holds study scan candidate.sizes (small_scale study h) (can_try study networks scan candidate.sizes h are live (lawful_scan study candidate scan h at) is) (sizes_above candidate.sizes k.sizes)

all_hold : (study : Study) (networks : StudyNetworks) (candidates : List Candidate) → IsLawful study → AreNetworksOf study networks → HasLive study → AllByRecursion (IsLawfulCandidate study) candidates
    → AllByRecursion (HoldsOfCandidate study) candidates
all_hold study networks [] h are live all = tt
all_hold study networks (c ∷ cs) h are live all = (candidate_holds study networks c h are live all.0, all_hold study networks cs h are live all.1)

pub candidates_hold : (study : Study) (networks : StudyNetworks) → IsLawful study → AreNetworksOf study networks → HasLive study → HoldsOfCandidates study
candidates_hold study networks h are live = all_hold study networks study.candidates h are live (lawful_candidates study h)
