-- The boxes, thresholds, networks and scans worked by hand.
use Rattle.std.proofs.Common.{◌≡◌, ℕ, zero, suc, ◌*◌, ◌≤◌, ◌<◌, ◌^◌, List, [], ◌∷◌, length, get_or, true, false, pos, ◌≤ℤ◌, ◌<ℤ◌, refl, ap, arith}
use Rattle.std.proofs.lemmas.Int.{ints}
use Rattle.exact_algebra.specs.Ratio.{Ratio, den, common, over, whole, plus, times, opposite, reciprocal, reciprocal_of, ◌≈◌, ◌≼◌}
use Rattle.exact_algebra.specs.Complex.{Complex, ◌+j◌, real, real_part, imaginary_part, complex_times, square_size}
use Rattle.exact_algebra.proofs.Ratios.{ratio_ring}
use Rattle.exact_algebra.proofs.Order.{NotNegative, ratio_order, at_most_is}
use Rattle.exact_algebra.proofs.Reader.{reads, linear, weigh, join, none_left}
use Rattle.exact_algebra.proofs.Reals.{re-plus_j, im-plus_j}
use Rattle.exact_algebra.proofs.Squares.{square_size-parts, square_size-along}
use Rattle.network_theory.specs.Order.{Order, IsOrder, fraction}
use Rattle.network_theory.specs.Branch.{Tap, Coupling, Branch}
use Rattle.network_theory.specs.Network.{IsWhole, IsGrouped, done, alone, group}
use Rattle.network_theory.specs.Box.{LiesIn}
use Rattle.network_theory.specs.DrivingPoint.{IsDrivingPoint, in_ohms}
use Rattle.network_theory.specs.Threshold.{flat, per_unit, IsWithin, IsAbove}
use Rattle.network_theory.specs.Between.{IsPair}
use Rattle.network_theory.specs.Scanned.{IsCleared, IsPeak, micro}
use Rattle.network_theory.specs.Laws.{IsClosed}
use Rattle.network_theory.specs.Phases.{three_phases, phase_to_ground}
use Rattle.network_theory.specs.Cases.{box, tie, adrift, grounded_bus, WorkedBoxes, WorkedThresholds, WorkedNetworks, WorkedCases}
use Rattle.network_theory.proofs.Couplings.{coupling_same}
use Rattle.network_theory.proofs.More.{up_to}
use Rattle.network_theory.proofs.Stated.{live_is_least, one_impedance}
use Rattle.network_theory.proofs.OneBus.{series_alone}

worked_boxes : WorkedBoxes
worked_boxes = record {
  inside = record { low = omega arith; high = omega arith };
  low_end = record { low = omega arith; high = omega arith };
  high_end = record { low = omega arith; high = omega arith };
  above = λ h. let e : 71000000 ≤ 70000000 = h.high in omega arith;
  below = λ h. let e : 30000000 ≤ 29000000 = h.low in omega arith;
  covered = (refl, omega arith, (refl, omega arith, refl));
  gap = λ h. let e : 1500000 ≡ 1400000 = h.2.0 in omega arith;
  short = λ h. let e : 1500000 ≡ 2000000 = h.2 in omega arith;
  point = λ h. let e : 1000000 < 1000000 = h.1 in omega arith;
  none = λ h. h;
}

worked_thresholds : WorkedThresholds
unfolding per_unit square_size times whole common den reciprocal reciprocal_of
worked_thresholds = record {
  five = λ h. record { cross = refl };
  at_most = record { cross = omega (arith, ints) };
  not_above = λ h. let e : pos 100 <ℤ pos 100 = h.cross in omega (arith, ints);
  above = record { cross = omega (arith, ints) };
  not_within = λ h. let e : pos 250000 ≤ℤ pos 240100 = h.cross in omega (arith, ints);
}

whole_one : (r : Ratio) → IsWhole (grounded_bus r)
whole_one r = record { buses = omega arith; taps = ((omega arith, tt), tt); groups = alone _ [] refl done }

whole_three : (values : Coupling) → IsWhole (three_phases values)
whole_three values = record {
  buses = omega arith;
  taps = ((omega arith, tt), ((omega arith, tt), ((omega arith, tt), tt)));
  groups = group _ _ _ [] (record {
    first = record { values = values; law = refl };
    second = record { values = values; law = refl };
    third = record { values = values; law = refl };
    equal_second = coupling_same values;
    equal_third = coupling_same values;
    number = λ e. omega (arith, e);
    same_second = refl;
    same_third = refl;
    owner_second = refl;
    owner_third = refl;
  }) tt done;
}

incomplete : (values : Coupling) → ¬ IsGrouped (phase_to_ground 0 values ∷ phase_to_ground 1 values ∷ [])
incomplete values (alone b bs u g) = u

whole_adrift : IsWhole adrift
whole_adrift = record { buses = omega arith; taps = ((omega arith, (omega arith, tt)), tt); groups = alone _ [] refl done }

only_member : (x b : Branch) (k : ℕ) → k < 1 → get_or (x ∷ []) k b ≡ b → x ≡ b
only_member x b zero l e = e
only_member x b (suc k) l e = absurd (omega arith)

two_taps : (b : Branch) (t : Tap) → tie ≡ b → ¬ (b.taps ≡ t ∷ [])
two_taps b t e f =
    let g : length tie.taps ≡ length b.taps = ap (λ (z : Branch). length z.taps) e in
    let k : length b.taps ≡ 1 = ap (λ (z : List Tap). length z) f in
    omega (arith, g, k)

-- the set of no nodes is closed
none_closed : IsClosed adrift (λ n. false)
none_closed = record {
  grounded = λ b t c e. absurd (two_taps b t (only_member tie b c.0 c.1 c.2) e);
  joined = λ b t u c p q l. l;
}

-- a fraction is at most another, for the two that stand here
at_most_three_halves : whole (pos 1) ≼ over (pos 3) 2
unfolding whole den
at_most_three_halves = record { cross = omega (arith, ints) }

at_most_two : over (pos 3) 2 ≼ whole (pos 2)
unfolding whole den
at_most_two = record { cross = omega (arith, ints) }

two_not_at_most : ¬ (whole (pos 2) ≼ whole (pos 1))
unfolding whole den
two_not_at_most h = let e : pos 2 ≤ℤ pos 1 = h.cross in omega (arith, ints)

-- two grounded buses are a pair by their resistances
pair_by : (r r' : Ratio) → r ≼ r' → IsPair (grounded_bus r) (grounded_bus r')
pair_by r r' h = record {
  buses = refl;
  nodes = refl;
  branches = (
    record {
      taps = (record { node = refl; ratio = up_to _ }, tt);
      law = (h, up_to _, up_to _, up_to _, up_to _);
      group = refl;
      owner = refl;
    },
    tt,
  );
}

worked_networks : WorkedNetworks
worked_networks = record {
  whole_one = whole_one;
  whole_three = whole_three;
  lacks_a_phase = λ values w. incomplete values w.groups;
  whole_adrift = whole_adrift;
  all_dead = λ n l. let e : false ≡ true = live_is_least adrift (λ n. false) none_closed n l in cc;
  between = record { whole = whole_one _; from_low = pair_by _ _ at_most_three_halves; to_high = pair_by _ _ at_most_two };
  not_turned = λ p. two_not_at_most p.branches.0.law.0;
}

-- the impedance of the bus without resistance: jh
abbrev reach : Order → Complex
reach h = whole (pos 0) +j times (fraction h) (whole (pos 1))

-- its square is h²
reach_square : (h : Order) → square_size (reach h) ≈ times (fraction h) (fraction h)
reach_square h =
    let one = whole (pos 1) in
    let f = fraction h in
    let z = reach h in
    let s = square_size z in
    let r = real_part z in
    let i = imaginary_part z in
    linear ratio_ring (s ∷ r ∷ i ∷ f ∷ [])
    (join ratio_ring (weigh ratio_ring one (square_size-parts z)) (join ratio_ring (weigh ratio_ring r (re-plus_j (whole (pos 0)) (times f one))) (weigh ratio_ring (plus i f) (im-plus_j (whole (pos 0)) (times f one)))))
    (search reads depth 40 fits 4000) none_left

-- 2 ohms at 10 kV and 100 MVA are 2 per unit
two_ohms : (h : Order) → per_unit (flat (whole (pos 2))) (whole (pos 10)) (whole (pos 100)) h ≈ whole (pos 2)
unfolding per_unit whole den common times reciprocal reciprocal_of
two_ohms h = record { cross = refl }

-- an order of the box is at most 2
up_to_two : (h : Order) → IsOrder h → LiesIn h (box 1000000 2000000) → fraction h ≼ whole (pos 2)
unfolding whole den
up_to_two h o l =
    let d = o.d in
    let e : 1000000 * h.n ≤ 2000000 * h.d = l.high in
    record { cross = omega (arith, ints) }

two_not_negative : NotNegative (whole (pos 2))
unfolding whole
two_not_negative = record { value = 2; is = refl }

-- |jh|² is at most 4, since 4 - h² = (2 - h)(2 + h)
within_two : (h : Order) → fraction h ≼ whole (pos 2) → IsWithin (per_unit (flat (whole (pos 2))) (whole (pos 10)) (whole (pos 100)) h) (reach h)
within_two h l =
    let one = whole (pos 1) in
    let two = whole (pos 2) in
    let f = fraction h in
    let T = per_unit (flat two) (whole (pos 10)) (whole (pos 100)) h in
    let s = square_size (reach h) in
    let gap = (at_most_is f two).0 l in
    let total : NotNegative (plus two f) = ratio_order.sum two_not_negative (record { value = h.n; is = refl }) in
    (at_most_is s (times T T)).1
    (ratio_order.along
    (linear ratio_ring (two ∷ f ∷ T ∷ s ∷ []) (join ratio_ring (weigh ratio_ring (opposite (plus T two)) (two_ohms h)) (weigh ratio_ring one (reach_square h))) (search reads depth 40 fits 4000) none_left)
    (ratio_order.product gap total))

reach_exists : (h : Order) → IsDrivingPoint (grounded_bus (whole (pos 0))) h 0 (reach h)
reach_exists h = series_alone h (whole (pos 0)) (whole (pos 1)) (whole (pos 1))

cleared : IsCleared (grounded_bus (whole (pos 0))) 0 (flat (whole (pos 2))) (whole (pos 10)) (whole (pos 100)) (box 1000000 2000000)
cleared h o l = record { Z = reach h; exists = reach_exists h; within = within_two h (up_to_two h o l) }

-- half an ohm is below 3.25 per unit
above_half : IsAbove (per_unit (flat (over (pos 1) 2)) (whole (pos 10)) (whole (pos 100)) (micro 3250000)) (reach (micro 3250000))
unfolding per_unit square_size ◌+j◌ times whole common den reciprocal reciprocal_of
above_half = record { cross = omega (arith, ints) }

-- which has 3.25 ohms
has_ohms : times (over (pos 3250000) (10 ^ 6)) (over (pos 3250000) (10 ^ 6)) ≼ square_size (in_ohms (whole (pos 10)) (whole (pos 100)) (reach (micro 3250000)))
unfolding in_ohms square_size real ◌+j◌ times whole common den reciprocal reciprocal_of complex_times
has_ohms = record { cross = omega (arith, ints) }

peak : IsPeak (grounded_bus (whole (pos 0))) 0 (flat (over (pos 1) 2)) (whole (pos 10)) (whole (pos 100)) (box 3000000 3500000) 3250000 3250000
peak = record {
  is_order = record { n = omega arith; d = omega arith };
  inside = record { low = omega arith; high = omega arith };
  there = record { Z = reach (micro 3250000); exists = reach_exists (micro 3250000); above = above_half };
  ohms = has_ohms;
}

beyond_two : ¬ IsWithin (per_unit (flat (whole (pos 2))) (whole (pos 10)) (whole (pos 100)) (micro 2000001)) (reach (micro 2000001))
unfolding per_unit square_size ◌+j◌ times whole common den reciprocal reciprocal_of
beyond_two h = omega (arith, ints, h.cross)

-- the impedance is one number, so another one isn't within either
not_cleared : ¬ IsCleared (grounded_bus (whole (pos 0))) 0 (flat (whole (pos 2))) (whole (pos 10)) (whole (pos 100)) (box 1000000 2000001)
not_cleared c =
    let h = micro 2000001 in
    let k = c h (record { n = omega arith; d = omega arith }) (record { low = omega arith; high = omega arith }) in
    let e = one_impedance (grounded_bus (whole (pos 0))) h 0 k.Z (reach h) k.exists (reach_exists h) in
    let T = per_unit (flat (whole (pos 2))) (whole (pos 10)) (whole (pos 100)) h in
    let s = square_size (reach h) in
    let t = square_size k.Z in
    beyond_two
    ((at_most_is s (times T T)).1
    (ratio_order.along (linear ratio_ring (T ∷ s ∷ t ∷ []) (weigh ratio_ring (opposite (whole (pos 1))) (square_size-along k.Z (reach h) e)) (search reads depth 40 fits 4000) none_left)
    ((at_most_is t (times T T)).0 k.within)))

pub worked_cases : WorkedCases
worked_cases = record { boxes = worked_boxes; thresholds = worked_thresholds; networks = worked_networks; scan = record { cleared = cleared; peak = peak; not_cleared = not_cleared } }
