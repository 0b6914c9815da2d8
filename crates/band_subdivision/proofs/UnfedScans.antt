-- The test of a network whose matrix has no value passes nowhere.
use Rattle.std.proofs.Common.{◌≡◌, ◌∙◌, ℕ, Bool, true, false, ℤ, List, [], ◌∷◌, length, refl, sym, ap, subst, arith, pos, Option, Result, Ok, Err}
use Rattle.std.proofs.Math.Path.{fun_ext}
use Rattle.std.proofs.lemmas.Int.{ints}
use Rattle.std.proofs.lemmas.List.{length-map}
use Rattle.std.specs.Prelude.{Some, None, IfOk, is_some, unsigned_abs, ◌≤◌, ◌-◌, ◌^◌, ◌≤ℤ◌, ◌*ℤ◌, ◌&&◌, if◌then◌else◌}
use Rattle.exact_algebra.specs.Ratio.{Ratio, over, den}
use Rattle.branchwise_laws.proofs.Wholes.{power-positive}
use Rattle.exact_fraction.specs.Scaled.{floor_scaled_of, ceil_scaled_of}
use Rattle.complex_interval.specs.Ends.{Ends, is_end, ends_in_range, range_ends}
use Rattle.complex_interval.specs.Rectangles.{Rectangle}
use Rattle.complex_interval.proofs.Ranges.{fraction_encloses}
use Rattle.certified_inverse.specs.declared.outcome.InverseOutcome.TheVariants.{OutOfRange}
use Rattle.network_theory.specs.Branch.{Shunt}
use Rattle.network_theory.specs.Live.{Live, grounded}
use Rattle.network_theory.specs.Network.{Network, IsWhole, done, alone}
use Rattle.network_theory.proofs.Bridge.{contains_among}
use Rattle.net_branch.specs.Exact.{exact_branch, exact_network}
use Rattle.net_branch.specs.Whole.{IsWholeNetwork}
use Rattle.net_branch.specs.declared.network.Network.{Network as NetNetwork}
use Rattle.study_model.specs.declared.words.Method.{Method}
use Rattle.study_model.specs.declared.words.Method.TheVariants.{Elimination, Both, Branchwise}
use Rattle.admittance_box.specs.Addends.{has_place}
use Rattle.admittance_box.specs.BoxMatrix.{box_matrix}
use Rattle.admittance_box.specs.HeldMatrix.{CanAssemble}
use Rattle.admittance_box.specs.Orders.{order_ends}
use Rattle.admittance_box.specs.Places.{place_of}
use Rattle.admittance_box.specs.Steps.{◌>>=◌}
use Rattle.admittance_box.proofs.LivePlaces.{place-among}
use Rattle.admittance_box.proofs.NodeOrderings.{lists_live}
use Rattle.branchwise_test.specs.Drops.{DropEnds, LiveBranch, node_drops, live_branches, with_extra_branch}
use Rattle.branchwise_test.specs.Enclosed.{valued, near_of, impedance_near_with}
use Rattle.branchwise_test.specs.declared.fault.BranchwiseFault.TheVariants.{OutOfRange as NoRange}
use Rattle.band_subdivision.specs.Boxes.{BoxTest, boxes_of}
use Rattle.band_subdivision.specs.BranchwisePart.{branchwise_part}
use Rattle.band_subdivision.specs.IntervalTest.{is_clear_by, ohms_above_by, clear_bound, above_bound, elimination_test}
use Rattle.band_subdivision.specs.InverseTest.{inverse_test}
use Rattle.band_subdivision.specs.Levels.{Levels}
use Rattle.band_subdivision.specs.PairTest.{Asked, pair_value, pair_enclosure, pair_test}
use Rattle.band_subdivision.specs.Parts.{where_near, nowhere, second_part, is_near}
use Rattle.band_subdivision.specs.Scan.{Scanning, IsScanOf, whole_list}
use Rattle.band_subdivision.specs.ScanSpec.{asked_of, widths_of, nothing}
use Rattle.band_subdivision.specs.Unfed.{IsUnfed, without_value, unfed_boxes}
use Rattle.band_subdivision.specs.declared.scan_spec.ScanSpec.{ScanSpec}

-- ---- the susceptance
abbrev beyond : Ratio
beyond = over (pos (2 ^ 63)) 1

in_range : (low high : ℤ) (r : Ends) → ends_in_range low high ≡ Some r → unsigned_abs r.high ≤ 2 ^ 62
in_range low high r e = go (is_end low) (is_end high) refl e
  where
    go : (t u : Bool) → is_end high ≡ u → (if t && u then Some (record { low = low; high = high }) else None) ≡ Some r → unsigned_abs r.high ≤ 2 ^ 62
    go true true k f = let is : high ≡ r.high = cc in subst (λ (z : ℤ). unsigned_abs z ≤ 2 ^ 62) is (grind arith)
    go true false k f = absurd cc
    go false u k f = absurd cc

too_far : (k : ℕ) (h : ℤ) → 1 ≤ k → (pos (2 ^ 63) *ℤ pos k) ≤ℤ (h *ℤ pos 1) → unsigned_abs h ≤ 2 ^ 62 → ⊥
too_far k h some above fits = absurd (omega (arith, ints))

no_interval : (s : ℕ) → range_ends s beyond beyond ≡ None
unfolding den
no_interval s = go (range_ends s beyond beyond) refl
  where
    go : (o : Option Ends) → range_ends s beyond beyond ≡ o → o ≡ None
    go None e = refl
    go (Some r) e = let held = fraction_encloses s beyond r e in absurd (too_far (2 ^ s) r.high (power-positive s) held.to (in_range (floor_scaled_of beyond s) (ceil_scaled_of beyond s) r e))

-- ---- tests
same_test : (t u : BoxTest) → ((lo hi : ℕ) → t.clear lo hi ≡ u.clear lo hi) → ((lo hi : ℕ) → t.above lo hi ≡ u.above lo hi) → t ≡ u
same_test t u f g =
    let clear : t.clear ≡ u.clear = fun_ext (λ lo. fun_ext (λ hi. f lo hi)) in
    let above : t.above ≡ u.above = fun_ext (λ lo. fun_ext (λ hi. g lo hi)) in
    λ i. record { clear = clear i; above = above i }

-- ---- the matrix, and the estimate branch by branch
module _ (s : ℕ) (ordering : List ℕ) (has : has_place ordering (record { node = 0; ratio = over (pos 1) 1 } ∷ []) ≡ true) where
  pub no_matrix : (lo hi : ℕ) → box_matrix s without_value without_value ordering lo hi ≡ Err 0
  unfolding box_matrix
  no_matrix lo hi = rw (has, no_interval s) refl

  pub no_branches : live_branches s ordering without_value.branches without_value.branches ≡ None
  no_branches = rw (has, no_interval s) refl

  -- the parts of the test
  no_value : (e : Ratio) (lo hi : ℕ) → pair_value s without_value without_value ordering e lo hi ≡ None
  unfolding pair_value
  no_value e lo hi = rw (no_matrix lo hi) refl

  no_enclosure : (e : Ratio) (lo hi : ℕ) → pair_enclosure s without_value without_value ordering e lo hi ≡ OutOfRange
  unfolding pair_enclosure
  no_enclosure e lo hi = rw (no_matrix lo hi) refl

  no_estimate : (e : Ratio) (lo hi : ℕ) → impedance_near_with s without_value without_value ordering e lo hi ≡ Err NoRange
  unfolding impedance_near_with
  no_estimate e lo hi = go (node_drops s 0 (length ordering)) (live_branches s ordering without_value.branches without_value.branches) no_branches
    where
      go : (nodes : Option (List DropEnds)) (branches : Option (List LiveBranch)) → branches ≡ None → valued nodes (λ ns. valued (branches >>= with_extra_branch s (length ordering - 1) e) (near_of s (order_ends s lo hi) ns)) ≡ Err NoRange
      go None None f = refl
      go (Some ns) None f = refl
      go None (Some bs) f = absurd cc
      go (Some ns) (Some bs) f = absurd cc

  -- ---- they pass nowhere
  not_clear : (bound : Option ℤ) (y : Option Rectangle) → y ≡ None → is_clear_by bound y ≡ false
  not_clear None y e = refl
  not_clear (Some b) (Some y) e = absurd cc
  not_clear (Some b) None e = refl

  not_above : (levels : Levels) (bound : Option ℤ) (y : Option Rectangle) → y ≡ None → ohms_above_by s levels bound y ≡ None
  not_above levels None y e = refl
  not_above levels (Some b) (Some y) e = absurd cc
  not_above levels (Some b) None e = refl

  first_nowhere : (levels : ℕ → ℕ → Levels) (e : Ratio) → elimination_test s levels (pair_value s without_value without_value ordering e) ≡ nowhere
  unfolding elimination_test
  first_nowhere levels e = same_test _ _
      (λ lo hi. not_clear (clear_bound s (levels lo hi)) _ (no_value e lo hi))
      (λ lo hi. not_above (levels lo hi) (above_bound s (levels lo hi)) _ (no_value e lo hi))

  inverse_nowhere : (levels : ℕ → ℕ → Levels) (e : Ratio) → inverse_test s levels (pair_enclosure s without_value without_value ordering e) ≡ nowhere
  unfolding inverse_test
  inverse_nowhere levels e = same_test _ _ (λ lo hi. rw (no_enclosure e lo hi) refl) (λ lo hi. rw (no_enclosure e lo hi) refl)

  branchwise_nowhere : (levels : ℕ → ℕ → Levels) (e : Ratio) → branchwise_part s levels (impedance_near_with s without_value without_value ordering e) ≡ nowhere
  unfolding branchwise_part
  branchwise_nowhere levels e = same_test _ _ (λ lo hi. rw (no_estimate e lo hi) refl) (λ lo hi. rw (no_estimate e lo hi) refl)

  near_nowhere : (locate : ℕ) → where_near locate nowhere ≡ nowhere
  near_nowhere locate = same_test _ _ (λ lo hi. clear (is_near locate lo hi)) (λ lo hi. above (is_near locate lo hi) None refl)
    where
      clear : (t : Bool) → (t && false) ≡ false
      clear true = refl
      clear false = refl

      above : (t : Bool) (o : Option ℤ) → o ≡ None → (if t then o else None) ≡ None
      above true o e = e
      above false o e = refl

  second_nowhere : (method : Method) (locate : ℕ) → second_part method locate nowhere nowhere ≡ nowhere
  second_nowhere Elimination locate = refl
  second_nowhere Both locate = near_nowhere locate
  second_nowhere Branchwise locate = refl

  pub pair_nowhere : (asked : Asked) (e : Ratio) → pair_test s asked without_value without_value ordering e ≡ nowhere
  pair_nowhere asked e = rw (first_nowhere asked.levels e, inverse_nowhere asked.levels e, branchwise_nowhere asked.levels e, second_nowhere asked.method asked.locate) refl

-- ---- the scan
is_whole : IsWhole without_value
is_whole = record { buses = omega arith; taps = ((omega arith, tt), tt); groups = alone _ [] refl done }

pub whole_without_value : (network : NetNetwork) → exact_network network ≡ without_value → IsWholeNetwork network
whole_without_value network e =
    let nodes : network.nodes ≡ 1 = ap (λ (n : Network). n.nodes) e in
    let branches : length network.branches ≡ 1 = sym (length-map network.branches exact_branch) ∙ ap (λ (n : Network). length n.branches) e in
    record { limits = record { nodes = omega (arith, nodes); branches = omega (arith, branches) }; exact = subst IsWhole (sym e) is_whole }

pub live_without_value : (n : Network) → n ≡ without_value → Live n 0
live_without_value n e = subst (λ (m : Network). Live m 0) (sym e) (grounded (record { taps = record { node = 0; ratio = over (pos 1) 1 } ∷ []; law = Shunt beyond; group = 0; owner = 0 }) (record { node = 0; ratio = over (pos 1) 1 }) (0, omega arith, refl) refl)

has_driven : (ordering : List ℕ) → CanAssemble without_value without_value 0 ordering → has_place ordering (record { node = 0; ratio = over (pos 1) 1 } ∷ []) ≡ true
has_driven ordering can =
    let listed = lists_live without_value 0 ordering is_whole can.driven_is_live can.ordered in
    let has : is_some (place_of ordering 0) ≡ true = place-among 0 ordering (contains_among 0 ordering ((listed.live 0).0 can.driven_is_live)) in
    rw has refl

pub is_unfed : (scale : ℕ) (spec : ScanSpec) (n : Network) (s : Scanning) → n ≡ without_value → IsScanOf scale n n 0 spec s → IsUnfed scale spec s
is_unfed scale spec n s e made =
    let low : s.low ≡ without_value = made.from_low ∙ e in
    let high : s.high ≡ without_value = made.to_high ∙ e in
    let ready : CanAssemble without_value without_value 0 s.ordering = subst (λ (m : Network). CanAssemble m m 0 s.ordering) e made.ready in
    let test : (x : Ratio) → pair_test scale (asked_of s.spec) s.low s.high s.ordering x ≡ nowhere = λ x.
    ap (λ (m : Network). pair_test scale (asked_of s.spec) m s.high s.ordering x) low
    ∙ ap (λ (m : Network). pair_test scale (asked_of s.spec) without_value m s.ordering x) high
    ∙ pair_nowhere scale s.ordering (has_driven s.ordering ready) (asked_of s.spec) x in
    let again : (x : Ratio) → whole_list scale s x ≡ unfed_boxes spec = λ x.
    ap (λ (t : BoxTest). boxes_of t (widths_of s.spec) s.spec.from s.spec.to) (test x) ∙ ap unfed_boxes made.same_spec in
    record { same_spec = made.same_spec; no_extra = made.no_extra; test = test; left = made.left ∙ again nothing; again = again; covers = made.covers }

-- so of a scan that there may be
pub if_unfed : {F : Type 0} (scale : ℕ) (spec : ScanSpec) (n : Network) (r : Result Scanning F) → n ≡ without_value → IfOk r (λ s. IsScanOf scale n n 0 spec s) → IfOk r (λ s. IsUnfed scale spec s)
if_unfed scale spec n (Ok s) e made = is_unfed scale spec n s e made
if_unfed scale spec n (Err f) e made = tt
