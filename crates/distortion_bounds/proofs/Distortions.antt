-- From squares that are held to bounds of distortion.
use Rattle.std.proofs.Common.{◌≡◌, ◌∙◌, ℕ, ◌*◌, ◌^◌, List, [], ◌∷◌, map, refl, sym, ap, ap₂, arith, ℤ, pos, ◌≤ℤ◌, ◌*ℤ◌, Option}
use Rattle.std.proofs.lemmas.Int.{ints}
use Rattle.std.specs.Prelude.{Some, None, IfSome}
use Rattle.std.specs.List.{AllZip}
use Rattle.std.specs.Option.{option_and_then}
use Rattle.exact_algebra.specs.Ratio.{Ratio, den, ◌≈◌, ◌≼◌, whole, times, plus, opposite}
use Rattle.exact_algebra.specs.Complex.{Complex, square_size}
use Rattle.exact_algebra.proofs.Order.{ratio_order, at_most_is}
use Rattle.exact_algebra.proofs.Integers.{int-mul_assoc, int-mul_one}
use Rattle.exact_algebra.proofs.Ratios.{ratio_ring, times_same, times_comm, num-times, den-times, num-whole, den-whole}
use Rattle.exact_algebra.proofs.WholeOrder.{le_along}
use Rattle.exact_algebra.proofs.Reader.{reads, linear, weigh, join, none_left}
use Rattle.ieee519_limits.specs.declared.bounds.PercentBounds.{PercentBounds}
use Rattle.ieee519_limits.specs.ExactVerdicts.{Bounds, percent_square}
use Rattle.admittance_box.proofs.Steps.{if_some}
use Rattle.distortion_bounds.specs.declared.squares.Squares.{Squares}
use Rattle.distortion_bounds.specs.Distortion.{voltage_square, current_square, current_base, voltage_rho, current_rho}
use Rattle.distortion_bounds.specs.Laws.{HoldsSizes, VoltageIsBounded, CurrentIsBounded, TotalVoltageIsBounded, TotalCurrentIsBounded}
use Rattle.distortion_bounds.specs.Percents.{bounds_of, HoldsRoot}
use Rattle.distortion_bounds.specs.Squares.{HoldsSquare}
use Rattle.distortion_bounds.specs.Totals.{total_of, sum_of}
use Rattle.distortion_bounds.proofs.RootBounds.{roots_held}
use Rattle.distortion_bounds.proofs.Sums.{total_held}

-- ---- the bounds of a root, as percents
-- n²/1 and D·10^12, by their numerators and denominators
root_num : (n : ℕ) → (times (whole (pos n)) (whole (pos n))).num ≡ pos (n * n)
root_num n = num-times (whole (pos n)) (whole (pos n)) ∙ ap₂ ◌*ℤ◌ (num-whole (pos n)) (num-whole (pos n))

root_den : (n : ℕ) → den (times (whole (pos n)) (whole (pos n))) ≡ pos 1
root_den n = den-times (whole (pos n)) (whole (pos n)) ∙ ap₂ ◌*ℤ◌ (den-whole (pos n)) (den-whole (pos n))

scaled_num : (D : Ratio) → (times D (whole (pos (10 ^ 12)))).num ≡ D.num *ℤ pos (10 ^ 12)
scaled_num D = num-times D (whole (pos (10 ^ 12))) ∙ ap (λ k. D.num *ℤ k) (num-whole (pos (10 ^ 12)))

scaled_den : (D : Ratio) → den (times D (whole (pos (10 ^ 12)))) ≡ den D *ℤ pos 1
scaled_den D = den-times D (whole (pos (10 ^ 12))) ∙ ap (λ k. den D *ℤ k) (den-whole (pos (10 ^ 12)))

percent_below : (n : ℕ) (D : Ratio) → times (whole (pos n)) (whole (pos n)) ≼ times D (whole (pos (10 ^ 12))) → percent_square n ≼ D
unfolding percent_square den
percent_below n D h = let c = le_along (ap₂ ◌*ℤ◌ (root_num n) (scaled_den D)) (ap₂ ◌*ℤ◌ (scaled_num D) (root_den n)) h.cross in record { cross = omega (arith, ints, c) }

percent_above : (n : ℕ) (D : Ratio) → times D (whole (pos (10 ^ 12))) ≼ times (whole (pos n)) (whole (pos n)) → D ≼ percent_square n
unfolding percent_square den
percent_above n D h = let c = le_along (ap₂ ◌*ℤ◌ (scaled_num D) (root_den n)) (ap₂ ◌*ℤ◌ (root_num n) (scaled_den D)) h.cross in record { cross = omega (arith, ints, c) }

-- equal in value, as high or as low
below_along : (a x y : Ratio) → x ≈ y → a ≼ x → a ≼ y
below_along a x y e h = (at_most_is a y).1 (ratio_order.along (linear ratio_ring (a ∷ x ∷ y ∷ []) (weigh ratio_ring (whole (pos 1)) e) (search reads depth 40 fits 4000) none_left) ((at_most_is a x).0 h))

above_along : (a x y : Ratio) → x ≈ y → x ≼ a → y ≼ a
above_along a x y e h = (at_most_is y a).1 (ratio_order.along (linear ratio_ring (a ∷ x ∷ y ∷ []) (weigh ratio_ring (opposite (whole (pos 1))) e) (search reads depth 40 fits 4000) none_left) ((at_most_is x a).0 h))

-- so a distortion is bounded where its square, in ten-thousandths of a percent, is what the bounds hold
bounded : (s count : ℕ) (rho : Ratio) (q : Squares) (x D : Ratio) → pos 0 ≤ℤ rho.num → HoldsSquare s q x → times (times (whole (pos count)) x) (times rho rho) ≈ times D (whole (pos (10 ^ 12))) → IfSome (bounds_of count rho s q) (λ b. Bounds (Some b) D)
bounded s count rho q x D sign h e = if_some (bounds_of count rho s q) _ (λ b f. by b (roots_held count rho s q (Some b) sign (sym f) x h))
  where
    by : (b : PercentBounds) → HoldsRoot b (times (times (whole (pos count)) x) (times rho rho)) → Bounds (Some b) D
    by b r = (percent_below b.lo D (below_along _ _ _ e r.low), percent_above b.hi D (above_along _ _ _ e r.high))

-- ---- voltages
millions : times (whole (pos (10 ^ 6))) (whole (pos (10 ^ 6))) ≈ whole (pos (10 ^ 12))
millions = record { cross = ap₂ ◌*ℤ◌ (root_num (10 ^ 6)) (den-whole (pos (10 ^ 12))) ∙ sym (ap₂ ◌*ℤ◌ (num-whole (pos (10 ^ 12))) (root_den (10 ^ 6))) }

rho_square : times voltage_rho voltage_rho ≈ whole (pos (10 ^ 12))
unfolding whole
rho_square = millions

voltage_scaled : (x : Ratio) → times (times (whole (pos 3)) x) (times voltage_rho voltage_rho) ≈ times (times (whole (pos 3)) x) (whole (pos (10 ^ 12)))
voltage_scaled x = times_same (ratio_ring.same (times (whole (pos 3)) x)) rho_square

pub voltage_is_bounded : VoltageIsBounded
voltage_is_bounded s q V h = bounded s 3 voltage_rho q (square_size V) (voltage_square V) (omega (arith, ints)) h (voltage_scaled (square_size V))

-- ---- currents
base_scaled : (kv mva il : ℤ) → current_rho kv mva il ≈ times (current_base kv mva il) (whole (pos (10 ^ 6)))
unfolding den
base_scaled kv mva il = record {
  cross =
      ap (λ k. (mva *ℤ pos (10 ^ 15)) *ℤ k) (den-times base million ∙ ap (λ k. den base *ℤ k) (den-whole (pos (10 ^ 6))) ∙ int-mul_one (den base))
      ∙ sym (ap (λ k. k *ℤ den base) (num-times base million ∙ ap (λ k. base.num *ℤ k) (num-whole (pos (10 ^ 6))) ∙ int-mul_assoc mva (pos (10 ^ 9)) (pos (10 ^ 6))));
}
  where
    base : Ratio
    base = current_base kv mva il

    million : Ratio
    million = whole (pos (10 ^ 6))

current_scaled : (x rho base million square : Ratio) → rho ≈ times base million → times million million ≈ square → times (times (whole (pos 1)) x) (times rho rho) ≈ times (times x (times base base)) square
current_scaled x rho base million square p q =
    linear ratio_ring (x ∷ rho ∷ base ∷ million ∷ square ∷ [])
    (join ratio_ring (weigh ratio_ring (times x (plus rho (times base million))) p) (weigh ratio_ring (times x (times base base)) q)) (search reads depth 60 fits 20000) none_left

rho_above : (kv mva il : ℤ) → pos 0 ≤ℤ mva → pos 0 ≤ℤ (current_rho kv mva il).num
rho_above kv mva il h = omega (arith, ints, h)

pub current_is_bounded : CurrentIsBounded
current_is_bounded kv mva il v m i s q I h =
    bounded s 1 (current_rho kv mva il) q (square_size I) (current_square kv mva il I) (rho_above kv mva il m) h
    (current_scaled (square_size I) (current_rho kv mva il) (current_base kv mva il) (whole (pos (10 ^ 6))) (whole (pos (10 ^ 12))) (base_scaled kv mva il) millions)

-- ---- totals
sizes_held : (s : ℕ) (list : List Squares) (zs : List Complex) → AllZip (HoldsSizes s) list zs → AllZip (HoldsSquare s) list (map square_size zs)
sizes_held s [] [] h = tt
sizes_held s [] (z ∷ zs) h = absurd h
sizes_held s (q ∷ list) [] h = absurd h
sizes_held s (q ∷ list) (z ∷ zs) h = (h.0, sizes_held s list zs h.1)

-- a factor of each square is one of the sum
sum-factor : (f : Complex → Ratio) (a : Ratio) (zs : List Complex) → ((z : Complex) → f z ≈ times a (square_size z)) → sum_of (map f zs) ≈ times a (sum_of (map square_size zs))
sum-factor f a [] e = linear ratio_ring (a ∷ []) (join ratio_ring (weigh ratio_ring (whole (pos 0)) (ratio_ring.same a)) (weigh ratio_ring (whole (pos 0)) (ratio_ring.same a))) (search reads depth 40 fits 4000) none_left
sum-factor f a (z ∷ zs) e =
    linear ratio_ring (a ∷ f z ∷ square_size z ∷ sum_of (map f zs) ∷ sum_of (map square_size zs) ∷ []) (join ratio_ring (weigh ratio_ring (whole (pos 1)) (e z)) (weigh ratio_ring (whole (pos 1)) (sum-factor f a zs e))) (search reads depth 40 fits 4000) none_left

total_bounded : (s count : ℕ) (rho : Ratio) (list : List Squares) (zs : List Complex) (D : Ratio) → pos 0 ≤ℤ rho.num → AllZip (HoldsSizes s) list zs
    → times (times (whole (pos count)) (sum_of (map square_size zs))) (times rho rho) ≈ times D (whole (pos (10 ^ 12))) → IfSome (option_and_then (bounds_of count rho s) (total_of list)) (λ b. Bounds (Some b) D)
total_bounded s count rho list zs D sign h e = go (total_of list) (total_held list (total_of list) refl s (map square_size zs) (sizes_held s list zs h))
  where
    go : (o : Option Squares) → IfSome o (λ q. HoldsSquare s q (sum_of (map square_size zs))) → IfSome (option_and_then (bounds_of count rho s) o) (λ b. Bounds (Some b) D)
    go None k = tt
    go (Some q) k = bounded s count rho q (sum_of (map square_size zs)) D sign k e

pub total_voltage_is_bounded : TotalVoltageIsBounded
total_voltage_is_bounded s list Vs h =
    total_bounded s 3 voltage_rho list Vs (sum_of (map voltage_square Vs)) (omega (arith, ints)) h
    (ratio_ring.next (voltage_scaled (sum_of (map square_size Vs))) (times_same (ratio_ring.back (sum-factor voltage_square (whole (pos 3)) Vs (λ z. ratio_ring.same (voltage_square z)))) (ratio_ring.same (whole (pos (10 ^ 12))))))

pub total_current_is_bounded : TotalCurrentIsBounded
total_current_is_bounded kv mva il v m i s list Is h =
    let base = current_base kv mva il in
    let sum = sum_of (map square_size Is) in
    total_bounded s 1 (current_rho kv mva il) list Is (sum_of (map (current_square kv mva il) Is)) (rho_above kv mva il m) h
    (ratio_ring.next (current_scaled sum (current_rho kv mva il) base (whole (pos (10 ^ 6))) (whole (pos (10 ^ 12))) (base_scaled kv mva il) millions)
    (times_same (ratio_ring.next (times_comm sum (times base base)) (ratio_ring.back (sum-factor (current_square kv mva il) (times base base) Is (λ z. times_comm (square_size z) (times base base))))) (ratio_ring.same (whole (pos (10 ^ 12))))))
