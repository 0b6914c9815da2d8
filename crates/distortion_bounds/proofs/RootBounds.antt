-- Bounds by roots: that they are in range, in order, and hold the roots of what the squares hold.
use Rattle.std.proofs.Common.{◌≡◌, ◌∙◌, ℕ, suc, ◌*◌, ◌^◌, ◌≤◌, ◌<◌, Bool, true, false, refl, sym, ap, ap₂, subst, arith, inl, inr, ℤ, pos, negsuc, ◌≤ℤ◌, ◌<ℤ◌, ◌*ℤ◌, Option}
use Rattle.std.proofs.Math.Nat.{pow-le-pow_right, mul-le-mul_left}
use Rattle.std.proofs.lemmas.Bool.Decides.{nat_tests}
use Rattle.std.proofs.lemmas.Int.{ints}
use Rattle.std.proofs.lemmas.Nat.{mul-le, pow_pos}
use Rattle.std.specs.Prelude.{Some, None, unsigned_abs, int_lt, nat_lt, if◌then◌else◌}
use Rattle.exact_algebra.specs.Floor.{floor_div, ceil_div}
use Rattle.exact_algebra.specs.Ratio.{Ratio, den, ◌≼◌, whole, times}
use Rattle.exact_algebra.proofs.Ratios.{num-times, den-times, num-whole, den-whole}
use Rattle.exact_algebra.proofs.WholeOrder.{floor_div_le, floor_div_greatest, ceil_div_ge, cancel, le_along}
use Rattle.exact_fraction.specs.Root.{root_ceil_of}
use Rattle.exact_fraction.specs.Scaled.{floor_times_of, ceil_times_of}
use Rattle.exact_fraction.proofs.Roots.{root_ceil_is}
use Rattle.complex_interval.proofs.Sizes.{four}
use Rattle.ieee519_limits.specs.declared.bounds.PercentBounds.{PercentBounds}
use Rattle.ieee519_limits.specs.Verdicts.{AreOrdered}
use Rattle.admittance_box.proofs.NodeOrderings.{below_or}
use Rattle.admittance_box.specs.Steps.{◌>>=◌}
use Rattle.admittance_box.proofs.Steps.{bind-some, if_some}
use Rattle.distortion_bounds.specs.declared.squares.Squares.{Squares}
use Rattle.distortion_bounds.specs.Percents.{root_floor_of, low_bound, high_bound, in_range, bounds_of, HoldsRoot, HoldsRoots}
use Rattle.distortion_bounds.specs.Squares.{HoldsSquare}
use Rattle.distortion_bounds.proofs.Roots.{root_floor_square, roots_ordered}

-- ---- range
scale_small : (s : ℕ) → s ≤ 48 → 2 ^ s ≤ 2 ^ 48
scale_small s h = pow-le-pow_right (omega arith) h

is_less : (a b : ℕ) → nat_lt a b ≡ true → a < b
is_less a b e = grind (arith, nat_tests)

is_not_less : (a b : ℕ) → nat_lt a b ≡ false → b ≤ a
is_not_less a b e = grind (arith, nat_tests)

-- what is too great for a multiple is too great for a bound
great : (k n d s : ℕ) → s ≤ 48 → 2 ^ 120 * d ≤ k * n → 2 ^ 64 * (d * 2 ^ s) ≤ k * n
great k n d s h g = let m : d * 2 ^ s ≤ d * 2 ^ 48 = mul-le-mul_left d (scale_small s h) in omega (arith, m, g)

some_den : (d s : ℕ) → 0 < suc d * 2 ^ s
some_den d s = let m = mul-le-mul_left (suc d) (pow_pos s) in omega (arith, m)

is_small : (z : ℤ) → int_lt z (pos (2 ^ 64)) ≡ true → z <ℤ pos (2 ^ 64)
is_small z e = grind (arith, ints)

-- a bound of 2^64 or more
out_of_range : (z : ℤ) → pos (2 ^ 64) ≤ℤ z → None ≡ in_range z
out_of_range z h = go (int_lt z (pos (2 ^ 64))) refl
  where
    go : (t : Bool) → int_lt z (pos (2 ^ 64)) ≡ t → None ≡ (if t then Some (unsigned_abs z) else None)
    go true e = absurd (let l = is_small z e in omega (arith, ints, l, h))
    go false e = refl

-- what a multiple of the divisor is at most, its quotient is at most, rounded up
ceil_from : (m w : ℤ) (c : ℕ) → 0 < c → (m *ℤ pos c) ≤ℤ w → m ≤ℤ ceil_div w c
ceil_from m w c some h = let up = ceil_div_ge w c some in cancel c m (ceil_div w c) some (omega (arith, ints, up, h))

-- ---- multiples of fractions as bounds
module _ (n d k s : ℕ) where
  -- k·n/(d + 1) is 2^120 or more
  abbrev IsGreat : Type 0
  IsGreat = 2 ^ 120 * suc d ≤ k * n

  floor_great : s ≤ 48 → IsGreat → pos (2 ^ 64) ≤ℤ floor_div (pos k *ℤ pos n) (suc d * 2 ^ s)
  floor_great h g = floor_div_greatest (pos (2 ^ 64)) (pos k *ℤ pos n) (suc d * 2 ^ s) (some_den d s) (let m = great k n (suc d) s h g in omega (arith, ints, m))

  ceil_great : s ≤ 48 → IsGreat → pos (2 ^ 64) ≤ℤ ceil_div (pos k *ℤ pos n) (suc d * 2 ^ s)
  ceil_great h g = ceil_from (pos (2 ^ 64)) (pos k *ℤ pos n) (suc d * 2 ^ s) (some_den d s) (let m = great k n (suc d) s h g in omega (arith, ints, m))

module _ (num : ℤ) (d k s : ℕ) (sign : pos 0 ≤ℤ num) (fits : s ≤ 48) where
  floor_cases : (t : Bool) → nat_lt (k * unsigned_abs num) (2 ^ 120 * suc d) ≡ t → t ≡ false → pos (2 ^ 64) ≤ℤ floor_div (pos k *ℤ num) (suc d * 2 ^ s)
  floor_cases t e f = go num sign (is_not_less _ _ (e ∙ f))
    where
      go : (z : ℤ) → pos 0 ≤ℤ z → 2 ^ 120 * suc d ≤ k * unsigned_abs z → pos (2 ^ 64) ≤ℤ floor_div (pos k *ℤ z) (suc d * 2 ^ s)
      go (pos n) g b = floor_great n d k s fits b
      go (negsuc n) g b = absurd (omega (arith, ints, g))

  ceil_cases : (t : Bool) → nat_lt (k * unsigned_abs num) (2 ^ 120 * suc d) ≡ t → t ≡ false → pos (2 ^ 64) ≤ℤ ceil_div (pos k *ℤ num) (suc d * 2 ^ s)
  ceil_cases t e f = go num sign (is_not_less _ _ (e ∙ f))
    where
      go : (z : ℤ) → pos 0 ≤ℤ z → 2 ^ 120 * suc d ≤ k * unsigned_abs z → pos (2 ^ 64) ≤ℤ ceil_div (pos k *ℤ z) (suc d * 2 ^ s)
      go (pos n) g b = ceil_great n d k s fits b
      go (negsuc n) g b = absurd (omega (arith, ints, g))

  pub floor_none : None ≡ floor_times_of (record { num = num; den_less_one = d }) k s → None ≡ in_range (floor_div (pos k *ℤ num) (suc d * 2 ^ s))
  floor_none e = go (nat_lt (k * unsigned_abs num) (2 ^ 120 * suc d)) refl e
    where
      go : (t : Bool) → nat_lt (k * unsigned_abs num) (2 ^ 120 * suc d) ≡ t → None ≡ (if t then Some (floor_div (pos k *ℤ num) (suc d * 2 ^ s)) else None) → None ≡ in_range (floor_div (pos k *ℤ num) (suc d * 2 ^ s))
      go true q p = absurd cc
      go false q p = out_of_range _ (floor_cases false q refl)

  pub ceil_none : None ≡ ceil_times_of (record { num = num; den_less_one = d }) k s → None ≡ in_range (ceil_div (pos k *ℤ num) (suc d * 2 ^ s))
  ceil_none e = go (nat_lt (k * unsigned_abs num) (2 ^ 120 * suc d)) refl e
    where
      go : (t : Bool) → nat_lt (k * unsigned_abs num) (2 ^ 120 * suc d) ≡ t → None ≡ (if t then Some (ceil_div (pos k *ℤ num) (suc d * 2 ^ s)) else None) → None ≡ in_range (ceil_div (pos k *ℤ num) (suc d * 2 ^ s))
      go true q p = absurd cc
      go false q p = out_of_range _ (ceil_cases false q refl)

  pub floor_some : (v : ℤ) → Some v ≡ floor_times_of (record { num = num; den_less_one = d }) k s → v ≡ floor_div (pos k *ℤ num) (suc d * 2 ^ s)
  floor_some v e = go (nat_lt (k * unsigned_abs num) (2 ^ 120 * suc d)) e
    where
      go : (t : Bool) → Some v ≡ (if t then Some (floor_div (pos k *ℤ num) (suc d * 2 ^ s)) else None) → v ≡ floor_div (pos k *ℤ num) (suc d * 2 ^ s)
      go true p = grind arith
      go false p = absurd cc

  pub ceil_some : (v : ℤ) → Some v ≡ ceil_times_of (record { num = num; den_less_one = d }) k s → v ≡ ceil_div (pos k *ℤ num) (suc d * 2 ^ s)
  ceil_some v e = go (nat_lt (k * unsigned_abs num) (2 ^ 120 * suc d)) e
    where
      go : (t : Bool) → Some v ≡ (if t then Some (ceil_div (pos k *ℤ num) (suc d * 2 ^ s)) else None) → v ≡ ceil_div (pos k *ℤ num) (suc d * 2 ^ s)
      go true p = grind arith
      go false p = absurd cc

module _ (num : ℤ) (d k s : ℕ) (sign : pos 0 ≤ℤ num) where
  pub floor_above : pos 0 ≤ℤ floor_div (pos k *ℤ num) (suc d * 2 ^ s)
  floor_above = floor_div_greatest (pos 0) (pos k *ℤ num) (suc d * 2 ^ s) (some_den d s) (go num sign)
    where
      go : (z : ℤ) → pos 0 ≤ℤ z → (pos 0 *ℤ pos (suc d * 2 ^ s)) ≤ℤ (pos k *ℤ z)
      go (pos n) g = omega (arith, ints)
      go (negsuc n) g = absurd (omega (arith, ints, g))

  pub ceil_above : pos 0 ≤ℤ ceil_div (pos k *ℤ num) (suc d * 2 ^ s)
  ceil_above = ceil_from (pos 0) (pos k *ℤ num) (suc d * 2 ^ s) (some_den d s) (go num sign)
    where
      go : (z : ℤ) → pos 0 ≤ℤ z → (pos 0 *ℤ pos (suc d * 2 ^ s)) ≤ℤ (pos k *ℤ z)
      go (pos n) g = omega (arith, ints)
      go (negsuc n) g = absurd (omega (arith, ints, g))

-- ---- what bounds in range are
in_range-is : (z : ℤ) (n : ℕ) → pos 0 ≤ℤ z → in_range z ≡ Some n → z ≡ pos n
in_range-is z n sign e = go (int_lt z (pos (2 ^ 64))) e
  where
    size : (z : ℤ) → pos 0 ≤ℤ z → z ≡ pos (unsigned_abs z)
    size (pos m) h = refl
    size (negsuc m) h = absurd (omega (arith, ints, h))

    go : (t : Bool) → (if t then Some (unsigned_abs z) else None) ≡ Some n → z ≡ pos n
    go true q = let same : unsigned_abs z ≡ n = grind arith in size z sign ∙ ap pos same
    go false q = absurd cc

-- of a fraction N/(D + 1): what the roots and bounds of a square are
record AreRoots (N D s low high : ℕ) (b : PercentBounds) : Type 0 where
  P : ℕ
  unit : P ≡ 2 ^ s
  r : ℕ
  R : ℕ
  r_square : r * r ≤ low
  R_square : high ≤ R * R
  lo : b.lo * (suc D * P) ≤ r * N
  hi : R * N ≤ b.hi * (suc D * P)
  ordered : low ≤ high → r ≤ R

roots_are : (N D s : ℕ) (count : ℕ) (q : Squares) (b : PercentBounds) → bounds_of count (record { num = pos N; den_less_one = D }) s q ≡ Some b → AreRoots N D s (count * q.lo) (count * q.hi) b
unfolding bounds_of
roots_are N D s count q b e =
    let rho : Ratio = record { num = pos N; den_less_one = D } in
    let r = root_floor_of (count * q.lo) in
    let R = root_ceil_of (count * q.hi) in
    let (lo, e1, n1) = bind-some (in_range (low_bound rho s (count * q.lo))) _ b e in
    let (hi, e2, e3) = bind-some (in_range (high_bound rho s (count * q.hi))) _ b n1 in
    let low = in_range-is _ lo (floor_above (pos N) D r s (omega (arith, ints))) e1 in
    let high = in_range-is _ hi (ceil_above (pos N) D R s (omega (arith, ints))) e2 in
    let is : record { lo = lo; hi = hi } ≡ b = grind arith in
    let down = floor_div_le (pos r *ℤ pos N) (suc D * 2 ^ s) (some_den D s) in
    let up = ceil_div_ge (pos R *ℤ pos N) (suc D * 2 ^ s) (some_den D s) in
    subst (AreRoots N D s (count * q.lo) (count * q.hi)) is (record {
      P = 2 ^ s;
      unit = refl;
      r = r;
      R = R;
      r_square = root_floor_square (count * q.lo);
      R_square = (root_ceil_is (count * q.hi)).square;
      lo = whole_le _ _ (subst (λ z. (z *ℤ pos (suc D * 2 ^ s)) ≤ℤ (pos r *ℤ pos N)) low down);
      hi = whole_le _ _ (subst (λ z. (pos R *ℤ pos N) ≤ℤ (z *ℤ pos (suc D * 2 ^ s))) high up);
      ordered = roots_ordered (count * q.lo) (count * q.hi);
    })
  where
    whole_le : (a b : ℕ) → pos a ≤ℤ pos b → a ≤ b
    whole_le a b h = omega (arith, ints, h)

-- ---- over plain numbers
cancel_factor : (k a b : ℕ) → 0 < k → k * a ≤ k * b → a ≤ b
cancel_factor k a b some h = elim (below_or b a) [ inl l ↦ absurd (let m = mul-le-mul_left k l in omega (arith, m, h, some)) | inr l ↦ l ]

low_side : (L r N D P k q X x : ℕ) → 0 < P → L * (D * P) ≤ r * N → r * r ≤ k * q → q * x ≤ X * (P * P) → L * L * (x * (D * D)) ≤ k * X * (N * N)
low_side L r N D P k q X x some a b c =
    let a2 = mul-le (L * (D * P)) (L * (D * P)) (r * N) (r * N) a a in
    let a3 = mul-le-mul_left x a2 in
    let b2 = mul-le-mul_left (x * (N * N)) b in
    let c2 = mul-le-mul_left (k * (N * N)) c in
    let square : 0 < P * P = mul-le 1 1 P P some some in
    cancel_factor (P * P) (L * L * (x * (D * D))) (k * X * (N * N)) square (omega (arith, a3, b2, c2))

high_side : (H R N D P k q X x : ℕ) → 0 < P → R * N ≤ H * (D * P) → k * q ≤ R * R → X * (P * P) ≤ q * x → k * X * (N * N) ≤ H * H * (x * (D * D))
high_side H R N D P k q X x some a b c =
    let a2 = mul-le (R * N) (R * N) (H * (D * P)) (H * (D * P)) a a in
    let a3 = mul-le-mul_left x a2 in
    let b2 = mul-le-mul_left (x * (N * N)) b in
    let c2 = mul-le-mul_left (k * (N * N)) c in
    let square : 0 < P * P = mul-le 1 1 P P some some in
    cancel_factor (P * P) (k * X * (N * N)) (H * H * (x * (D * D))) square (omega (arith, a3, b2, c2))

-- ---- over fractions
den-is : (n : ℤ) (d : ℕ) → den (record { num = n; den_less_one = d }) ≡ pos (suc d)
unfolding den
den-is n d = refl

module _ (L k X x N D : ℕ) where
  abbrev square : Ratio
  square = record { num = pos X; den_less_one = x }

  abbrev factor : Ratio
  factor = record { num = pos N; den_less_one = D }

  abbrev value : Ratio
  value = times (times (whole (pos k)) square) (times factor factor)

  abbrev bound : Ratio
  bound = times (whole (pos L)) (whole (pos L))

  num-value : value.num ≡ pos (k * X * (N * N))
  num-value = rw (num-times (times (whole (pos k)) square) (times factor factor), num-times (whole (pos k)) square, num-times factor factor, num-whole (pos k)) refl

  den-value : den value ≡ pos (suc x * (suc D * suc D))
  den-value = rw (den-times (times (whole (pos k)) square) (times factor factor), den-times (whole (pos k)) square, den-times factor factor, den-whole (pos k), den-is (pos X) x, den-is (pos N) D) (ap pos (omega arith))

  num-bound : bound.num ≡ pos (L * L)
  num-bound = rw (num-times (whole (pos L)) (whole (pos L)), num-whole (pos L)) refl

  den-bound : den bound ≡ pos 1
  den-bound = rw (den-times (whole (pos L)) (whole (pos L)), den-whole (pos L)) refl

  from_below : L * L * (suc x * (suc D * suc D)) ≤ k * X * (N * N) → bound ≼ value
  from_below h = record { cross = le_along (sym (ap₂ ◌*ℤ◌ num-bound den-value)) (sym (ap₂ ◌*ℤ◌ num-value den-bound)) (omega (arith, ints, h)) }

  from_above : k * X * (N * N) ≤ L * L * (suc x * (suc D * suc D)) → value ≼ bound
  from_above h = record { cross = le_along (sym (ap₂ ◌*ℤ◌ num-value den-bound)) (sym (ap₂ ◌*ℤ◌ num-bound den-value)) (omega (arith, ints, h)) }

-- a square that is held, in whole numbers
record IsHeld (q : Squares) (X x s : ℕ) : Type 0 where
  low : q.lo * suc x ≤ X * (2 ^ s * 2 ^ s)
  high : X * (2 ^ s * 2 ^ s) ≤ q.hi * suc x

in_whole : (s X x : ℕ) (q : Squares) → HoldsSquare s q (record { num = pos X; den_less_one = x }) → IsHeld q X x s
unfolding den
in_whole s X x q h =
    let low = subst (λ k. (pos q.lo *ℤ pos (suc x)) ≤ℤ (pos X *ℤ k)) (four s) h.low in
    let high = subst (λ k. (pos X *ℤ k) ≤ℤ (pos q.hi *ℤ pos (suc x))) (four s) h.high in
    record { low = omega (arith, ints, low); high = omega (arith, ints, high) }

-- a square that is held isn't below 0
not_below : (s n x : ℕ) (q : Squares) → ¬ HoldsSquare s q (record { num = negsuc n; den_less_one = x })
unfolding den
not_below s n x q h =
    let low = subst (λ k. (pos q.lo *ℤ pos (suc x)) ≤ℤ (negsuc n *ℤ k)) (four s) h.low in
    let some = mul-le-mul_left (suc n) (mul-le 1 1 (2 ^ s) (2 ^ s) (pow_pos s) (pow_pos s)) in
    omega (arith, ints, low, some)

pub roots_held : (count : ℕ) (rho : Ratio) (s : ℕ) (q : Squares) (o : Option PercentBounds) → pos 0 ≤ℤ rho.num → o ≡ bounds_of count rho s q → HoldsRoots count rho s q o
roots_held count rho s q o sign e x h = if_some o _ (λ b f. go b rho.num x.num sign h (sym e ∙ f))
  where
    D : ℕ
    D = rho.den_less_one

    d : ℕ
    d = x.den_less_one

    go : (b : PercentBounds) (n X : ℤ) → pos 0 ≤ℤ n → HoldsSquare s q (record { num = X; den_less_one = d }) → bounds_of count (record { num = n; den_less_one = D }) s q ≡ Some b
        → HoldsRoot b (times (times (whole (pos count)) (record { num = X; den_less_one = d })) (times (record { num = n; den_less_one = D }) (record { num = n; den_less_one = D })))
    go b (pos N) (pos X) g k f =
        let r = roots_are N D s count q b f in
        let held = in_whole s X d q k in
        let some : 0 < r.P = rw r.unit (pow_pos s) in
        record {
          low = from_below b.lo count X d N D (low_side b.lo r.r N (suc D) r.P count q.lo X (suc d) some r.lo r.r_square (rw r.unit held.low));
          high = from_above b.hi count X d N D (high_side b.hi r.R N (suc D) r.P count q.hi X (suc d) some r.hi r.R_square (rw r.unit held.high));
        }
    go b (pos N) (negsuc X) g k f = absurd (not_below s X d q k)
    go b (negsuc N) X g k f = absurd (omega (arith, ints, g))

-- ---- order
bounds_ordered : (N D s count : ℕ) (q : Squares) (b : PercentBounds) → q.lo ≤ q.hi → bounds_of count (record { num = pos N; den_less_one = D }) s q ≡ Some b → b.lo ≤ b.hi
bounds_ordered N D s count q b h f =
    let r = roots_are N D s count q b f in
    let some : 0 < suc D * r.P = rw r.unit (some_den D s) in
    let more : r.r * N ≤ r.R * N = mul-le _ _ _ _ (r.ordered (mul-le-mul_left count h)) (omega arith) in
    cancel_factor (suc D * r.P) b.lo b.hi some (let lo = r.lo in let hi = r.hi in omega (arith, lo, hi, more))

pub are_ordered : (count : ℕ) (rho : Ratio) (s : ℕ) (q : Squares) (o : Option PercentBounds) → pos 0 ≤ℤ rho.num → o ≡ bounds_of count rho s q → q.lo ≤ q.hi → AreOrdered o
are_ordered count rho s q None sign e h = tt
are_ordered count rho s q (Some b) sign e h = go rho.num sign (sym e)
  where
    go : (n : ℤ) → pos 0 ≤ℤ n → bounds_of count (record { num = n; den_less_one = rho.den_less_one }) s q ≡ Some b → b.lo ≤ b.hi
    go (pos N) g f = bounds_ordered N rho.den_less_one s count q b h f
    go (negsuc N) g f = absurd (omega (arith, ints, g))

-- ---- in the form of the code's clauses
module _ (rho : Ratio) (s n r : ℕ) (sign : pos 0 ≤ℤ rho.num) (fits : s ≤ 48) where
  pub low_none : r ≡ root_floor_of n → None ≡ floor_times_of rho r s → None ≡ in_range (low_bound rho s n)
  low_none e f = subst (λ k. None ≡ in_range (floor_div (pos k *ℤ rho.num) (suc rho.den_less_one * 2 ^ s))) e (floor_none rho.num rho.den_less_one r s sign fits f)

  pub low_some : (v : ℤ) → r ≡ root_floor_of n → Some v ≡ floor_times_of rho r s → v ≡ low_bound rho s n
  low_some v e f = floor_some rho.num rho.den_less_one r s sign fits v f ∙ ap (λ k. floor_div (pos k *ℤ rho.num) (suc rho.den_less_one * 2 ^ s)) e

  pub high_none : r ≡ root_ceil_of n → None ≡ ceil_times_of rho r s → None ≡ in_range (high_bound rho s n)
  high_none e f = subst (λ k. None ≡ in_range (ceil_div (pos k *ℤ rho.num) (suc rho.den_less_one * 2 ^ s))) e (ceil_none rho.num rho.den_less_one r s sign fits f)

  pub high_some : (v : ℤ) → r ≡ root_ceil_of n → Some v ≡ ceil_times_of rho r s → v ≡ high_bound rho s n
  high_some v e f = ceil_some rho.num rho.den_less_one r s sign fits v f ∙ ap (λ k. ceil_div (pos k *ℤ rho.num) (suc rho.den_less_one * 2 ^ s)) e

module _ (count : ℕ) (rho : Ratio) (s : ℕ) (q : Squares) where
  abbrev with_high : ℕ → Option PercentBounds
  with_high lo = in_range (high_bound rho s (count * q.hi)) >>= (λ hi. Some (record { lo = lo; hi = hi }))

  pub bounds_none_low : None ≡ in_range (low_bound rho s (count * q.lo)) → None ≡ bounds_of count rho s q
  unfolding bounds_of
  bounds_none_low e = ap (λ o. o >>= with_high) e

  pub bounds_none_high : (lo : ℕ) → Some lo ≡ in_range (low_bound rho s (count * q.lo)) → None ≡ in_range (high_bound rho s (count * q.hi)) → None ≡ bounds_of count rho s q
  unfolding bounds_of
  bounds_none_high lo e f = ap (λ o. o >>= (λ hi. Some (record { lo = lo; hi = hi }))) f ∙ ap (λ o. o >>= with_high) e

  pub bounds_some : (lo hi : ℕ) → Some lo ≡ in_range (low_bound rho s (count * q.lo)) → Some hi ≡ in_range (high_bound rho s (count * q.hi)) → Some (record { lo = lo; hi = hi }) ≡ bounds_of count rho s q
  unfolding bounds_of
  bounds_some lo hi e f = ap (λ o. o >>= (λ h. Some (record { lo = lo; hi = h }))) f ∙ ap (λ o. o >>= with_high) e
