-- A difference of points by four products of their parts, where each product is far below the limit.
use Rattle.std.proofs.Common.{◌≡◌, ℕ, ◌^◌, ◌<◌, ◌≤◌, Option, Some, None, IfSome, true, refl, sym, ap₂, ◌∙◌, arith}
use Rattle.std.specs.Prelude.{unsigned_abs}
use Rattle.std.proofs.lemmas.Int.{ints, clamps}
use Rattle.std.proofs.lemmas.Nat.{pow_pos}
use lib.IntN.{ℤ, pos, ◌+ℤ◌, ◌-ℤ◌, ◌*ℤ◌}
use lib.Signed.{◌≤ℤ◌}
use Rattle.exact_algebra.specs.Floor.{floor_div, ceil_div}
use Rattle.exact_algebra.proofs.Differences.{products}
use Rattle.exact_algebra.proofs.WholeOrder.{floor_div_above, ceil_div_least}
use Rattle.complex_interval.specs.Ends.{is_end, ends_in_range, least_of_four, greatest_of_four, mul_ends}
use Rattle.complex_interval.proofs.Held.{rounded_ordered}
use Rattle.middle_inverse.specs.declared.raw.Point.{Point}
use Rattle.middle_inverse.specs.Inverse.{low_point, point_ends, point_less}
use Rattle.middle_inverse.specs.Points.{rectangle_at}

-- rounding up gives at most 1 more than rounding down
up_close : (z : ℤ) (k : ℕ) → 0 < k → ceil_div z k ≤ℤ (floor_div z k +ℤ pos 1)
up_close z k p = let above = floor_div_above z k p in ceil_div_least (floor_div z k +ℤ pos 1) z k p (omega (arith, products))

least_same : (p : ℤ) → least_of_four p p p p ≡ p
least_same p = omega (arith, ints, clamps)

greatest_same : (p : ℤ) → greatest_of_four p p p p ≡ p
greatest_same p = omega (arith, ints, clamps)

end_fits : (z : ℤ) → unsigned_abs z ≤ 2 ^ 62 → is_end z ≡ true
end_fits z l = grind arith

kept : (low high : ℤ) → unsigned_abs low ≤ 2 ^ 62 → unsigned_abs high ≤ 2 ^ 62 → ends_in_range low high ≡ Some (record { low = low; high = high })
kept low high l h = rw (end_fits low l, end_fits high h) refl

-- the product of two parts, in range
part_times : (s : ℕ) (a b : ℤ) → unsigned_abs (floor_div (a *ℤ b) (2 ^ s)) ≤ 2 ^ 62 → unsigned_abs (ceil_div (a *ℤ b) (2 ^ s)) ≤ 2 ^ 62
    → mul_ends s (point_ends a) (point_ends b) ≡ Some (record { low = floor_div (a *ℤ b) (2 ^ s); high = ceil_div (a *ℤ b) (2 ^ s) })
part_times s a b l h = ap₂ (λ low high. ends_in_range (floor_div low (2 ^ s)) (ceil_div high (2 ^ s))) (least_same (a *ℤ b)) (greatest_same (a *ℤ b)) ∙ kept (floor_div (a *ℤ b) (2 ^ s)) (ceil_div (a *ℤ b) (2 ^ s)) l h

-- the same where its ends are known
product_is : (s : ℕ) (a b l h : ℤ) → l ≡ floor_div (a *ℤ b) (2 ^ s) → h ≡ ceil_div (a *ℤ b) (2 ^ s) → unsigned_abs l ≤ 2 ^ 62 → unsigned_abs h ≤ 2 ^ 62 → mul_ends s (point_ends a) (point_ends b) ≡ Some (record { low = l; high = h })
product_is s a b l h el eh bl bh = rw (el, eh) (part_times s a b (rw (sym el) bl) (rw (sym eh) bh))

-- numbers near one that is far below the limit
near_fits : (l h : ℤ) → unsigned_abs l ≤ 2 ^ 60 → l ≤ℤ h → h ≤ℤ (l +ℤ pos 1) → unsigned_abs h ≤ 2 ^ 62
near_fits l h b lo hi = omega (arith, ints)

near_below : (h l : ℤ) → unsigned_abs h ≤ 2 ^ 60 → l ≤ℤ h → h ≤ℤ (l +ℤ pos 1) → unsigned_abs l ≤ 2 ^ 62
near_below h l b lo hi = omega (arith, ints)

difference_fits : (x y : ℤ) → unsigned_abs x ≤ 2 ^ 60 → unsigned_abs y ≤ 2 ^ 60 → unsigned_abs (x -ℤ y) ≤ 2 ^ 62
difference_fits x y bx by = omega (arith, ints)

sum_fits : (x y : ℤ) → unsigned_abs x ≤ 2 ^ 60 → unsigned_abs y ≤ 2 ^ 60 → unsigned_abs (x +ℤ y) ≤ 2 ^ 62
sum_fits x y bx by = omega (arith, ints)

far_difference : (l h m k : ℤ) → unsigned_abs l ≤ 2 ^ 60 → unsigned_abs k ≤ 2 ^ 60 → l ≤ℤ h → h ≤ℤ (l +ℤ pos 1) → m ≤ℤ k → k ≤ℤ (m +ℤ pos 1) → unsigned_abs (h -ℤ m) ≤ 2 ^ 62
far_difference l h m k bl bk lo hi lo' hi' = omega (arith, ints)

far_sum : (l h m k : ℤ) → unsigned_abs l ≤ 2 ^ 60 → unsigned_abs m ≤ 2 ^ 60 → l ≤ℤ h → h ≤ℤ (l +ℤ pos 1) → m ≤ℤ k → k ≤ℤ (m +ℤ pos 1) → unsigned_abs (h +ℤ k) ≤ 2 ^ 62
far_sum l h m k bl bk lo hi lo' hi' = omega (arith, ints)

less_by : (s : ℕ) (f a b x : Point) (l1 h1 l2 h2 l3 h3 l4 h4 : ℤ) → mul_ends s (point_ends f.re) (point_ends b.re) ≡ Some (record { low = l1; high = h1 }) → mul_ends s (point_ends f.im) (point_ends b.im) ≡ Some (record { low = l2; high = h2 })
    → mul_ends s (point_ends f.re) (point_ends b.im) ≡ Some (record { low = l3; high = h3 }) → mul_ends s (point_ends f.im) (point_ends b.re) ≡ Some (record { low = l4; high = h4 })
    → unsigned_abs (l1 -ℤ h2) ≤ 2 ^ 62 → unsigned_abs (h1 -ℤ l2) ≤ 2 ^ 62 → unsigned_abs (l3 +ℤ l4) ≤ 2 ^ 62 → unsigned_abs (h3 +ℤ h4) ≤ 2 ^ 62
    → x.re ≡ a.re -ℤ (l1 -ℤ h2) → x.im ≡ a.im -ℤ (l3 +ℤ l4) → point_less s (rectangle_at f) (rectangle_at a) (rectangle_at b) ≡ Some (rectangle_at x)
unfolding point_less low_point
less_by s f a b x l1 h1 l2 h2 l3 h3 l4 h4 e1 e2 e3 e4 b1 b2 b3 b4 er ei =
    rw (e1, e2, e3, e4, kept (l1 -ℤ h2) (h1 -ℤ l2) b1 b2, kept (l3 +ℤ l4) (h3 +ℤ h4) b3 b4, sym er, sym ei, kept x.re x.re x.re_fits x.re_fits, kept x.im x.im x.im_fits x.im_fits) refl

-- the difference of points, where the low ends that are kept are known
pub less_near : (s : ℕ) (f a b x : Point) (l1 h2 l3 l4 : ℤ) → l1 ≡ floor_div (f.re *ℤ b.re) (2 ^ s) → h2 ≡ ceil_div (f.im *ℤ b.im) (2 ^ s) → l3 ≡ floor_div (f.re *ℤ b.im) (2 ^ s) → l4 ≡ floor_div (f.im *ℤ b.re) (2 ^ s)
    → unsigned_abs l1 ≤ 2 ^ 60 → unsigned_abs h2 ≤ 2 ^ 60 → unsigned_abs l3 ≤ 2 ^ 60 → unsigned_abs l4 ≤ 2 ^ 60
    → x.re ≡ a.re -ℤ (l1 -ℤ h2) → x.im ≡ a.im -ℤ (l3 +ℤ l4) → point_less s (rectangle_at f) (rectangle_at a) (rectangle_at b) ≡ Some (rectangle_at x)
less_near s f a b x l1 h2 l3 l4 e1 e2 e3 e4 b1 b2 b3 b4 er ei =
    let h1 = ceil_div (f.re *ℤ b.re) (2 ^ s) in
    let l2 = floor_div (f.im *ℤ b.im) (2 ^ s) in
    let h3 = ceil_div (f.re *ℤ b.im) (2 ^ s) in
    let h4 = ceil_div (f.im *ℤ b.re) (2 ^ s) in
    let below1 : l1 ≤ℤ h1 = rw e1 (rounded_ordered (f.re *ℤ b.re) (f.re *ℤ b.re) s (omega (arith, ints))) in
    let below2 : l2 ≤ℤ h2 = rw e2 (rounded_ordered (f.im *ℤ b.im) (f.im *ℤ b.im) s (omega (arith, ints))) in
    let below3 : l3 ≤ℤ h3 = rw e3 (rounded_ordered (f.re *ℤ b.im) (f.re *ℤ b.im) s (omega (arith, ints))) in
    let below4 : l4 ≤ℤ h4 = rw e4 (rounded_ordered (f.im *ℤ b.re) (f.im *ℤ b.re) s (omega (arith, ints))) in
    let above1 : h1 ≤ℤ (l1 +ℤ pos 1) = rw e1 (up_close (f.re *ℤ b.re) (2 ^ s) (pow_pos s)) in
    let above2 : h2 ≤ℤ (l2 +ℤ pos 1) = rw e2 (up_close (f.im *ℤ b.im) (2 ^ s) (pow_pos s)) in
    let above3 : h3 ≤ℤ (l3 +ℤ pos 1) = rw e3 (up_close (f.re *ℤ b.im) (2 ^ s) (pow_pos s)) in
    let above4 : h4 ≤ℤ (l4 +ℤ pos 1) = rw e4 (up_close (f.im *ℤ b.re) (2 ^ s) (pow_pos s)) in
    let p1 : mul_ends s (point_ends f.re) (point_ends b.re) ≡ Some (record { low = l1; high = h1 }) = product_is s f.re b.re l1 h1 e1 refl (near_fits l1 l1 b1 (omega (arith, ints)) (omega (arith, ints))) (near_fits l1 h1 b1 below1 above1) in
    let p2 : mul_ends s (point_ends f.im) (point_ends b.im) ≡ Some (record { low = l2; high = h2 }) = product_is s f.im b.im l2 h2 refl e2 (near_below h2 l2 b2 below2 above2) (near_fits h2 h2 b2 (omega (arith, ints)) (omega (arith, ints))) in
    let p3 : mul_ends s (point_ends f.re) (point_ends b.im) ≡ Some (record { low = l3; high = h3 }) = product_is s f.re b.im l3 h3 e3 refl (near_fits l3 l3 b3 (omega (arith, ints)) (omega (arith, ints))) (near_fits l3 h3 b3 below3 above3) in
    let p4 : mul_ends s (point_ends f.im) (point_ends b.re) ≡ Some (record { low = l4; high = h4 }) = product_is s f.im b.re l4 h4 e4 refl (near_fits l4 l4 b4 (omega (arith, ints)) (omega (arith, ints))) (near_fits l4 h4 b4 below4 above4) in
    less_by s f a b x l1 h1 l2 h2 l3 h3 l4 h4 p1 p2 p3 p4
    (difference_fits l1 h2 b1 b2)
    (far_difference l1 h1 l2 h2 b1 b2 below1 above1 below2 above2)
    (sum_fits l3 l4 b3 b4)
    (far_sum l3 h3 l4 h4 b3 b4 below3 above3 below4 above4)
    er ei

-- what holds of a value holds of it in other words
pub some_as : {X : Type 0} (o : Option X) (P Q : X → Type 0) → ((x : X) → P x → Q x) → IfSome o P → IfSome o Q
some_as None P Q f h = tt
some_as (Some x) P Q f h = f x h
