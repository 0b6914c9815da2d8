-- Complex fractions of two fractions, x + jy, and of one.
use Rattle.std.proofs.Common.{◌≡◌, suc, ◌*◌, ◌-◌, pos, ◌*ℤ◌, refl, ap, arith, [], ◌∷◌}
use Rattle.exact_algebra.specs.Ratio.{Ratio, den, common, ◌≈◌, times, opposite, whole}
use Rattle.exact_algebra.specs.Complex.{◌≅◌, real, ◌+j◌, real_part, imaginary_part, complex_times}
use Rattle.exact_algebra.proofs.Reader.{reads, ring, linear, weigh, join, none_left}
use Rattle.exact_algebra.proofs.Integers.{int_ring}
use Rattle.exact_algebra.proofs.Ratios.{ratio_ring, num_nought}
use Rattle.exact_algebra.proofs.Complexes.{re-complex_times, im-complex_times}

pub num-plus_j : (x y : Ratio) → (real_part (x +j y)).num ≡ x.num *ℤ den y
unfolding ◌+j◌ real_part
num-plus_j x y = refl

pub num-im-plus_j : (x y : Ratio) → (imaginary_part (x +j y)).num ≡ y.num *ℤ den x
unfolding ◌+j◌ imaginary_part
num-im-plus_j x y = refl

pub den-re-plus_j : (x y : Ratio) → den (real_part (x +j y)) ≡ den x *ℤ den y
unfolding ◌+j◌ real_part den common
den-re-plus_j x y = let k : suc (suc x.den_less_one * suc y.den_less_one - 1) ≡ suc x.den_less_one * suc y.den_less_one = omega arith in ap pos k

pub den-im-plus_j : (x y : Ratio) → den (imaginary_part (x +j y)) ≡ den x *ℤ den y
unfolding ◌+j◌ imaginary_part den common
den-im-plus_j x y = let k : suc (suc x.den_less_one * suc y.den_less_one - 1) ≡ suc x.den_less_one * suc y.den_less_one = omega arith in ap pos k

pub ruleset plus_j_parts = (num-plus_j, num-im-plus_j, den-re-plus_j, den-im-plus_j)

pub re-plus_j : (x y : Ratio) → real_part (x +j y) ≈ x
re-plus_j x y = record { cross = simp plus_j_parts (ring int_ring (x.num ∷ den x ∷ den y ∷ []) (search reads depth 40 fits 4000) none_left) }

pub im-plus_j : (x y : Ratio) → imaginary_part (x +j y) ≈ y
im-plus_j x y = record { cross = simp plus_j_parts (ring int_ring (y.num ∷ den x ∷ den y ∷ []) (search reads depth 40 fits 4000) none_left) }

-- x + jy goes along ≈
pub plus_j_same : {x x' y y' : Ratio} → x ≈ x' → y ≈ y' → (x +j y) ≅ (x' +j y')
plus_j_same {x} {x'} {y} {y'} p q = record {
  re = ratio_ring.next (re-plus_j x y) (ratio_ring.next p (ratio_ring.back (re-plus_j x' y')));
  im = ratio_ring.next (im-plus_j x y) (ratio_ring.next q (ratio_ring.back (im-plus_j x' y')));
}

pub num-real : (x : Ratio) → (real_part (real x)).num ≡ x.num
unfolding real real_part
num-real x = refl

pub num-im-real : (x : Ratio) → (imaginary_part (real x)).num ≡ pos 0
unfolding real imaginary_part
num-im-real x = refl

pub den-real : (x : Ratio) → den (real_part (real x)) ≡ den x
unfolding real real_part den
den-real x = refl

pub den-im-real : (x : Ratio) → den (imaginary_part (real x)) ≡ den x
unfolding real imaginary_part den
den-im-real x = refl

pub ruleset real_parts = (num-real, num-im-real, den-real, den-im-real)

pub real_same : {x y : Ratio} → x ≈ y → real x ≅ real y
real_same {x} {y} p = record {
  re = record { cross = simp real_parts p.cross };
  im = record { cross = simp real_parts (ring int_ring (den x ∷ den y ∷ []) (search reads depth 40 fits 4000) none_left) };
}

-- the parts of a real fraction
pub re-real : (x : Ratio) → real_part (real x) ≈ x
re-real x = record { cross = simp real_parts }

pub im-real : (x : Ratio) → imaginary_part (real x) ≈ whole (pos 0)
im-real x = num_nought _ (num-im-real x)

pub real-times : (x y : Ratio) → real (times x y) ≅ complex_times (real x) (real y)
real-times x y =
    let p = real_part (real x) in
    let q = real_part (real y) in
    let s = imaginary_part (real x) in
    let t = imaginary_part (real y) in
    let one = whole (pos 1) in
    let u = real_part (real (times x y)) in
    let v = imaginary_part (real (times x y)) in
    let re = real_part (complex_times (real x) (real y)) in
    let im = imaginary_part (complex_times (real x) (real y)) in
    record {
      re = linear ratio_ring (x ∷ y ∷ p ∷ q ∷ s ∷ t ∷ u ∷ re ∷ [])
          (join ratio_ring (weigh ratio_ring one (re-real (times x y))) (join ratio_ring (weigh ratio_ring (opposite one) (re-complex_times (real x) (real y)))
          (join ratio_ring (weigh ratio_ring (opposite q) (re-real x)) (join ratio_ring (weigh ratio_ring (opposite x) (re-real y)) (weigh ratio_ring t (im-real x))))))
          (search reads depth 40 fits 4000) none_left;
      im = linear ratio_ring (x ∷ y ∷ p ∷ q ∷ s ∷ t ∷ v ∷ im ∷ [])
          (join ratio_ring (weigh ratio_ring one (im-real (times x y))) (join ratio_ring (weigh ratio_ring (opposite one) (im-complex_times (real x) (real y)))
          (join ratio_ring (weigh ratio_ring (opposite q) (im-real x)) (weigh ratio_ring (opposite p) (im-real y)))))
          (search reads depth 40 fits 4000) none_left;
    }
