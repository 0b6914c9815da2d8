-- The branch-wise part is sound.
use Rattle.std.proofs.Common.{◌≡◌, ℕ, ◌+◌, ◌-◌, ◌*◌, ◌≤◌, ℤ, true, Option, Some, Result, Ok, Err, refl, sym, subst, arith, [], ◌∷◌}
use Rattle.exact_algebra.specs.Ratio.{Ratio, ◌≈◌, ◌≼◌, plus, times, opposite}
use Rattle.exact_algebra.specs.Complex.{Complex, square_size}
use Rattle.exact_algebra.proofs.Reader.{reads, linear, weigh, none_left}
use Rattle.exact_algebra.proofs.Ratios.{ratio_ring}
use Rattle.exact_algebra.proofs.Order.{NotNegative, ratio_order, at_most_is}
use Rattle.exact_fraction.specs.Root.{root_ceil_of}
use Rattle.exact_fraction.proofs.Roots.{root_ceil_is}
use Rattle.complex_interval.specs.Rectangles.{low_square_sum, high_square_sum}
use Rattle.complex_interval.proofs.Sizes.{low_square_bound, high_square_bound}
use Rattle.certified_inverse.proofs.Raw.{raw, raw-plus, raw-not_negative, raw-more}
use Rattle.network_theory.specs.Order.{Order}
use Rattle.network_theory.specs.Network.{Network}
use Rattle.network_theory.specs.Scanned.{micro}
use Rattle.branchwise_laws.specs.Wholes.{units}
use Rattle.branchwise_laws.proofs.Near.{near_at_most, near_at_least}
use Rattle.branchwise_test.specs.Enclosed.{Near}
use Rattle.branchwise_test.specs.Holds.{IsNear}
use Rattle.branchwise_test.specs.declared.fault.BranchwiseFault.{BranchwiseFault}
use Rattle.branchwise_test.proofs.Answers.{square_most, square_least}
use Rattle.band_subdivision.specs.InverseTest.{most_within, least_above, root_floor_of}
use Rattle.band_subdivision.specs.BranchwisePart.{is_within_near, ohms_over_near, branchwise_part}
use Rattle.band_subdivision.specs.Levels.{Levels}
use Rattle.band_subdivision.specs.Truth.{scanned_by, IsTruePeak, BranchwisePartIsSound}
use Rattle.band_subdivision.proofs.BySize.{IsAtMost, at_most_parts, IsBeyond, beyond_parts, cleared_by, peak_by}
use Rattle.band_subdivision.proofs.Lifts.{clear_with, peak_with}
use Rattle.band_subdivision.proofs.Sound.{micro_is_order, micro_inside}
use Rattle.band_subdivision.proofs.TestSteps.{root_floor_square}

-- ---- what a passed test says
record IsWithinNear (bound : Option ℤ) (found : Result Near BranchwiseFault) : Type 0 where
  pub near : Near
  pub is_near : found ≡ Ok near
  pub within : IsAtMost (root_ceil_of (high_square_sum near.estimate) + near.error) bound

within_parts : (bound : Option ℤ) (found : Result Near BranchwiseFault) → is_within_near bound found ≡ true → IsWithinNear bound found
within_parts bound (Ok near) h = record { near = near; is_near = refl; within = at_most_parts _ bound h }
within_parts bound (Err fault) h = absurd cc

pub record IsOverNear (scale : ℕ) (levels : Levels) (bound : Option ℤ) (found : Result Near BranchwiseFault) (ohms : ℤ) : Type 0 where
  pub near : Near
  pub is_near : found ≡ Ok near
  pub beyond : IsBeyond scale levels bound (root_floor_of (low_square_sum near.estimate)) near.error ohms

pub over_near_parts : (scale : ℕ) (levels : Levels) (bound : Option ℤ) (found : Result Near BranchwiseFault) (ohms : ℤ) → ohms_over_near scale levels bound found ≡ Some ohms → IsOverNear scale levels bound found ohms
over_near_parts scale levels bound (Ok near) ohms h = record { near = near; is_near = refl; beyond = beyond_parts scale levels bound _ near.error ohms h }
over_near_parts scale levels bound (Err fault) ohms h = absurd cc

-- ---- the size of an impedance near an estimate
raw-units : (s n : ℕ) → raw s n ≡ units s n
unfolding raw
raw-units s n = refl

module _ (s : ℕ) (network : Network) (h : Order) (node : ℕ) (near : Near) (has : IsNear s network h node near) where
  abbrev q : Complex
  q = has.number

  abbrev Z : Complex
  Z = has.impedance.Z

  abbrev E : Ratio
  E = raw s near.error

  size_up : (n : ℕ) → high_square_sum near.estimate ≤ n * n → NotNegative (plus (times (raw s (n + near.error)) (raw s (n + near.error))) (opposite (square_size Z)))
  size_up n square =
      let R = raw s n in
      let within : square_size q ≼ times R R = rw (raw-units s n) (square_most s n (high_square_sum near.estimate) q (high_square_bound s near.estimate q has.held) square) in
      let up : square_size Z ≼ times (plus R E) (plus R E) = near_at_most q Z E R (rw (raw-units s near.error) has.impedance.near) (raw-not_negative s n) within in
      ratio_order.along
      (linear ratio_ring (R ∷ E ∷ raw s (n + near.error) ∷ square_size Z ∷ []) (weigh ratio_ring (opposite (plus (raw s (n + near.error)) (plus R E))) (raw-plus s n near.error)) (search reads depth 60 fits 20000) none_left)
      ((at_most_is _ _).0 up)

  size_down : (m n : ℕ) → n * n ≤ low_square_sum near.estimate → m + near.error ≡ n → NotNegative (plus (square_size Z) (opposite (times (raw s m) (raw s m))))
  size_down m n square is =
      let N = raw s n in
      let M = raw s m in
      let sum : N ≈ plus M E = subst (λ i. raw s i ≈ plus M E) is (raw-plus s m near.error) in
      let least : times N N ≼ square_size q = rw (raw-units s n) (square_least s n (low_square_sum near.estimate) q (low_square_bound s near.estimate q has.held) square) in
      let down : times (plus N (opposite E)) (plus N (opposite E)) ≼ square_size Z =
      near_at_least q Z E N (rw (raw-units s near.error) has.impedance.near) ((at_most_is _ _).1 (raw-more s near.error n (omega (arith, is)))) least in
      ratio_order.along
      (linear ratio_ring (M ∷ N ∷ E ∷ square_size Z ∷ []) (weigh ratio_ring (opposite (plus (plus N (opposite E)) M)) sum) (search reads depth 60 fits 20000) none_left)
      ((at_most_is _ _).0 down)

pub branchwise_is_sound : BranchwisePartIsSound
unfolding branchwise_part
branchwise_is_sound scale from threshold kv mva levels estimated network node of estimates = record {
  clear = λ lo hi testable passed h is_order inside.
      let p = within_parts (most_within scale (levels lo hi)) (estimated lo hi) passed in
      let has = estimates.at_each lo hi p.near h testable p.is_near is_order inside in
      let n = root_ceil_of (high_square_sum p.near.estimate) in
      clear_with from threshold kv mva levels of network node lo hi h testable is_order inside
      (cleared_by scale (n + p.near.error) network h node (levels lo hi) has.impedance.Z (of.in_range lo hi testable) has.impedance.exists p.within
      (size_up scale network h node p.near has n (root_ceil_is (high_square_sum p.near.estimate)).square));
  above = λ at ohms testable passed.
      let p = over_near_parts scale (levels at at) (least_above scale (levels at at)) (estimated at at) ohms passed in
      let b = p.beyond in
      let top = root_floor_of (low_square_sum p.near.estimate) in
      let error = p.near.error in
      let has = estimates.at_each at at p.near (micro at) testable p.is_near (micro_is_order from at testable) (micro_inside at) in
      let over = b.least in
      let least = size_down scale network (micro at) node p.near has (top - error) top (root_floor_square (low_square_sum p.near.estimate)) (omega (arith, over)) in
      subst (λ o. IsTruePeak (scanned_by threshold kv mva network node) at at at o) (sym b.is_ohms)
      (peak_with from threshold kv mva levels of network node at _ testable
      (peak_by scale (top - error) network node at (levels at at) has.impedance.Z (of.in_range at at testable) least from b.number testable has.impedance.exists b.is_bound (omega (arith, over))));
}
