-- What the report on outages claims of a study holds.
use Rattle.std.proofs.Common.{◌≡◌, ℕ, ◌+◌, ◌-◌, ◌≤◌, Bool, true, false, cond, nat_lt, unsigned_abs, List, [], ◌∷◌, map, length, refl, sym, subst, arith}
use Rattle.std.specs.Prelude.{not, count_by, ◌||◌, if◌then◌else◌}
use Rattle.std.specs.List.{AllByRecursion, list_any}
use Rattle.std.proofs.lemmas.Bool.Decides.{nat_tests}
use Rattle.std.proofs.lemmas.List.Elements.{recursion_from_All}
use Rattle.network_theory.proofs.More.{between_itself}
use Rattle.band_subdivision.specs.ScanSpec.{widths_of}
use Rattle.band_subdivision.specs.Truth.{IsClearedBox}
use Rattle.band_subdivision.proofs.Scans.{some_width}
use Rattle.band_subdivision.proofs.Splits.{boxes_come}
use Rattle.scan_report.specs.declared.boxes.BoxRow.{BoxRow}
use Rattle.study_model.specs.Elements.{IsElement, elements_of}
use Rattle.study_model.specs.Lawful.{IsLawful, IsLawfulScan, IsLawfulOutage}
use Rattle.study_model.specs.declared.records.Outage.{Outage}
use Rattle.study_model.specs.declared.records.ScanItem.{ScanItem}
use Rattle.study_model.specs.declared.records.Study.{Study}
use Rattle.study_model.specs.declared.words.StudyModel.{StudyModel}
use Rattle.sequence_network.specs.Networks.{added_to, bus_nodes, network_of}
use Rattle.phase_network.specs.Phases.{phases_added, phase_buses, phase_network_of}
use Rattle.study_networks.specs.Networks.{AreNetworksOf}
use Rattle.study_networks.specs.Scanned.{scanned_in, scanned_network, scanned_node}
use Rattle.study_networks.specs.declared.networks.StudyNetworks.{StudyNetworks}
use Rattle.study_networks.specs.declared.networks.StudyNetworks.TheVariants.{Sequences, Phases}
use Rattle.study_scans.specs.Regions.{is_peak, is_undecided, count_of}
use Rattle.study_scans.specs.Scan.{spec_of}
use Rattle.study_scans.proofs.Asked.{spec_in_range}
use Rattle.study_scans.proofs.Holds.{boxes_hold}
use Rattle.study_scans.proofs.Sound.{test_is_sound}
use Rattle.study_variants.specs.Outages.{IsWithoutElement, without}
use Rattle.study_variants.proofs.BandCleared.{cover_cleared, all_cleared}
use Rattle.study_variants.proofs.CountedBoxes.{count_first}
use Rattle.study_variants.proofs.LeftBranches.{outage_of_element}
use Rattle.outages_report.specs.Cases.{case_network, case_test, case_boxes, case_of, is_cleared_case}
use Rattle.outages_report.specs.Claim.{case_look, KeepsOthersIn, HoldsOfCase, AreAllCleared, IsSafe, HoldsOfOutages}
use Rattle.outages_report.specs.Envelopes.{fed_outages, scan_cases}
use Rattle.outages_report.specs.Floating.{floats}
use Rattle.outages_report.proofs.Lives.{lawful_scans}
use Rattle.outages_report.proofs.Walked.{case_whole}

-- ---- the network of a case
one_less : (number : ℕ) → 1 ≤ number → (number - 1) + 1 ≡ number
one_less number h = omega (arith, h)

keeps_others : (study : Study) (networks : StudyNetworks) (number : ℕ) (scan : ScanItem) → AreNetworksOf study networks → IsElement study number → KeepsOthersIn study.model study number scan
unfolding scanned_network
keeps_others study (Sequences networks) number scan are is =
    let own = (are.1 scan.network).owners in
    let left = outage_of_element (added_to study scan.network) (bus_nodes study) (elements_of study) (network_of study scan.network) (number - 1) own in
    let there = subst (λ (k : ℕ). IsWithoutElement (added_to study scan.network) (bus_nodes study) (elements_of study) (number - 1) (without k (network_of study scan.network))) (one_less number is.0) left in
    subst (λ (m : StudyModel). KeepsOthersIn m study number scan) (sym are.0)
    (subst (λ (m : StudyModel). IsWithoutElement (added_to study scan.network) (bus_nodes study) (elements_of study) (number - 1) (without number (scanned_in m study scan))) (sym are.0) there)
keeps_others study (Phases network) number scan are is =
    let own = are.1.owners in
    let left = outage_of_element (phases_added study) (phase_buses study) (elements_of study) (phase_network_of study) (number - 1) own in
    let there = subst (λ (k : ℕ). IsWithoutElement (phases_added study) (phase_buses study) (elements_of study) (number - 1) (without k (phase_network_of study))) (one_less number is.0) left in
    subst (λ (m : StudyModel). KeepsOthersIn m study number scan) (sym are.0)
    (subst (λ (m : StudyModel). IsWithoutElement (phases_added study) (phase_buses study) (elements_of study) (number - 1) (without number (scanned_in m study scan))) (sym are.0) there)

-- ---- a case
case_holds : (study : Study) (networks : StudyNetworks) (number : ℕ) (scan : ScanItem) → IsLawful study → AreNetworksOf study networks → IsElement study number
    → IsLawfulScan study.version study.model study.buses scan → HoldsOfCase study number scan
unfolding case_boxes case_test
case_holds study networks number scan h are is s =
    let r = spec_in_range study scan h s in
    let network = case_network study number scan in
    let whole = case_whole study networks number scan are s in
    let itself = between_itself network whole in
    let sound = test_is_sound study.scale (spec_of study scan) network network (scanned_node scan) network r whole itself.from_low itself in
    record {
      others = keeps_others study networks number scan are is;
      boxes = boxes_hold (case_look study number scan) (case_test study number scan) (spec_of study scan) r sound;
      split_boxes = boxes_come (case_test study number scan) (widths_of (spec_of study scan)) _ _ (some_width _ r) r.band;
    }

scans_hold : (study : Study) (networks : StudyNetworks) (number : ℕ) (scans : List ScanItem) → IsLawful study → AreNetworksOf study networks → IsElement study number
    → AllByRecursion (IsLawfulScan study.version study.model study.buses) scans → AllByRecursion (HoldsOfCase study number) scans
scans_hold study networks number [] h are is all = tt
scans_hold study networks number (scan ∷ scans) h are is all = (case_holds study networks number scan h are is all.0, scans_hold study networks number scans h are is all.1)

cases_hold : (study : Study) (networks : StudyNetworks) (outages : List Outage) → IsLawful study → AreNetworksOf study networks → AllByRecursion (IsLawfulOutage study) outages
    → AllByRecursion (λ outage. AllByRecursion (HoldsOfCase study outage.element) study.scans) outages
cases_hold study networks [] h are all = tt
cases_hold study networks (o ∷ os) h are all = (scans_hold study networks o.element study.scans h are all.0.element (lawful_scans study h), cases_hold study networks os h are all.1)

-- ---- a cleared case
none_of : (n : ℕ) → nat_lt 0 n ≡ false → n ≡ 0
none_of n h = grind (arith, nat_tests, h)

-- a case is cleared where no box is a peak or undecided
record HasNoOther (boxes : List BoxRow) : Type 0 where
  peaks : count_of is_peak boxes ≡ 0
  undecided : count_of is_undecided boxes ≡ 0

no_other : (study : Study) (number : ℕ) (scan : ScanItem) → is_cleared_case (case_of study number scan) ≡ true → HasNoOther (case_boxes study number scan)
no_other study number scan h = go (nat_lt 0 (count_of is_peak (case_boxes study number scan))) (nat_lt 0 (count_of is_undecided (case_boxes study number scan))) refl refl h
  where
    go : (p u : Bool) → nat_lt 0 (count_of is_peak (case_boxes study number scan)) ≡ p → nat_lt 0 (count_of is_undecided (case_boxes study number scan)) ≡ u → (if p then false else not u) ≡ true
        → HasNoOther (case_boxes study number scan)
    go true u e f k = absurd cc
    go false true e f k = absurd cc
    go false false e f k = record { peaks = none_of _ e; undecided = none_of _ f }

cleared_holds : (study : Study) (number : ℕ) (scan : ScanItem) → HoldsOfCase study number scan → is_cleared_case (case_of study number scan) ≡ true
    → IsClearedBox (case_look study number scan) (unsigned_abs scan.from) (unsigned_abs scan.to)
cleared_holds study number scan holds cleared =
    let boxes = case_boxes study number scan in
    let none = no_other study number scan cleared in
    cover_cleared (case_look study number scan) boxes _ _ holds.boxes.covers
    (all_cleared (case_look study number scan) (case_test study number scan) (widths_of (spec_of study scan)) boxes none.peaks none.undecided holds.boxes.true_boxes)

-- ---- where all are counted, each is one
at_most_all : {A : Type 0} (p : A → Bool) (xs : List A) → count_by p xs ≤ length xs
at_most_all p [] = omega arith
at_most_all p (x ∷ xs) = go (p x) (count_first p x xs) (at_most_all p xs)
  where
    go : (t : Bool) → count_by p (x ∷ xs) ≡ cond t 1 0 + count_by p xs → count_by p xs ≤ length xs → count_by p (x ∷ xs) ≤ length (x ∷ xs)
    go true e rest = omega (arith, e, rest)
    go false e rest = omega (arith, e, rest)

-- the first and the others
record AllCounted {A : Type 0} (p : A → Bool) (x : A) (xs : List A) : Type 0 where
  first : p x ≡ true
  others : count_by p xs ≡ length xs

all_counted : {A : Type 0} (p : A → Bool) (x : A) (xs : List A) → count_by p (x ∷ xs) ≡ length (x ∷ xs) → AllCounted p x xs
all_counted p x xs h = go (p x) refl (count_first p x xs)
  where
    go : (t : Bool) → p x ≡ t → count_by p (x ∷ xs) ≡ cond t 1 0 + count_by p xs → AllCounted p x xs
    go true e f = record { first = e; others = omega (arith, h, f) }
    go false e f = absurd (omega (arith, h, f, at_most_all p xs))

-- ---- the scan
safe_over : (study : Study) (scan : ScanItem) (outages : List Outage) → AllByRecursion (λ outage. HoldsOfCase study outage.element scan) outages
    → list_any (λ outage. floats study outage.element) outages ≡ false → count_by is_cleared_case (scan_cases study scan outages) ≡ length (scan_cases study scan outages)
    → AllByRecursion (λ outage. IsClearedBox (case_look study outage.element scan) (unsigned_abs scan.from) (unsigned_abs scan.to)) outages
safe_over study scan [] all fed cleared = tt
safe_over study scan (o ∷ os) all fed cleared = go (floats study o.element) refl fed cleared (safe_over study scan os all.1)
  where
    go : (floating : Bool) → floats study o.element ≡ floating → (floats study o.element || list_any (λ outage. floats study outage.element) os) ≡ false
        → count_by is_cleared_case (map (λ outage. case_of study outage.element scan) (cond (not (floats study o.element)) (o ∷ fed_outages study os) (fed_outages study os)))
        ≡ length (map (λ outage. case_of study outage.element scan) (cond (not (floats study o.element)) (o ∷ fed_outages study os) (fed_outages study os)))
        → (list_any (λ outage. floats study outage.element) os ≡ false → count_by is_cleared_case (scan_cases study scan os) ≡ length (scan_cases study scan os)
        → AllByRecursion (λ outage. IsClearedBox (case_look study outage.element scan) (unsigned_abs scan.from) (unsigned_abs scan.to)) os)
        → AllByRecursion (λ outage. IsClearedBox (case_look study outage.element scan) (unsigned_abs scan.from) (unsigned_abs scan.to)) (o ∷ os)
    go true e f c rest = absurd (let no : (true || list_any (λ outage. floats study outage.element) os) ≡ false = subst (λ (t : Bool). (t || list_any (λ outage. floats study outage.element) os) ≡ false) e f in cc)
    go false e f c rest =
        let Counted : Bool → Type 0 = λ t. count_by is_cleared_case (map (λ outage. case_of study outage.element scan) (cond (not t) (o ∷ fed_outages study os) (fed_outages study os)))
        ≡ length (map (λ outage. case_of study outage.element scan) (cond (not t) (o ∷ fed_outages study os) (fed_outages study os))) in
        let parts = all_counted is_cleared_case (case_of study o.element scan) (scan_cases study scan os) (subst Counted e c) in
        let fed_rest = subst (λ (t : Bool). (t || list_any (λ outage. floats study outage.element) os) ≡ false) e f in
        (cleared_holds study o.element scan all.0 parts.first, rest fed_rest parts.others)

of_scan : (study : Study) (networks : StudyNetworks) (scan : ScanItem) (outages : List Outage) → IsLawful study → AreNetworksOf study networks → AllByRecursion (IsLawfulOutage study) outages
    → IsLawfulScan study.version study.model study.buses scan → AllByRecursion (λ outage. HoldsOfCase study outage.element scan) outages
of_scan study networks scan [] h are all s = tt
of_scan study networks scan (o ∷ os) h are all s = (case_holds study networks o.element scan h are all.0.element s, of_scan study networks scan os h are all.1 s)

pub lawful_outages : (study : Study) → IsLawful study → AllByRecursion (IsLawfulOutage study) study.outages
lawful_outages study h = recursion_from_All (IsLawfulOutage study) study.outages h.outages

scans_safe : (study : Study) (networks : StudyNetworks) (scans : List ScanItem) → IsLawful study → AreNetworksOf study networks → AllByRecursion (IsLawfulScan study.version study.model study.buses) scans
    → AllByRecursion (λ scan. AreAllCleared study scan → IsSafe study scan) scans
scans_safe study networks [] h are all = tt
scans_safe study networks (scan ∷ scans) h are all = (
  λ cleared. safe_over study scan study.outages (of_scan study networks scan study.outages h are (lawful_outages study h) all.0) cleared.fed cleared.cleared,
  scans_safe study networks scans h are all.1,
)

pub outages_hold : (study : Study) (networks : StudyNetworks) → IsLawful study → AreNetworksOf study networks → HoldsOfOutages study
outages_hold study networks h are = record {
  cases = cases_hold study networks study.outages h are (lawful_outages study h);
  safe = scans_safe study networks study.scans h are (lawful_scans study h);
}
