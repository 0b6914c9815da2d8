-- A line between two points, at the fractional places between them.
use Rattle.std.proofs.Common.{◌≡◌, ℕ, suc, ◌+◌, ◌*◌, ◌-◌, ◌≤◌, ◌<◌, ℤ, pos, ◌*ℤ◌, ◌≤ℤ◌, ap, ap₂, sym, subst, subst₂, ◌∙◌, arith, mul-one}
use Rattle.std.proofs.Math.Nat.{mul-le-mul_left}
use Rattle.std.proofs.lemmas.Int.{ints}
use Rattle.exact_algebra.specs.Ratio.{den, over, whole, ◌≈◌, ◌≼◌}
use Rattle.study_model.specs.declared.curve.CurvePoint.{CurvePoint}
use Rattle.threshold_curve.specs.Curve.{between}

-- fractions of natural numbers compare by cross products
den_over : (n : ℤ) (k : ℕ) → 0 < k → den (over n k) ≡ pos k
unfolding den
den_over n k some = let e : suc (k - 1) ≡ k = omega arith in ap pos e

pub over_at_most : (a b k m : ℕ) → 0 < k → 0 < m → a * m ≤ b * k → over (pos a) k ≼ over (pos b) m
over_at_most a b k m some more h =
    let left = den_over (pos b) m more in
    let right = den_over (pos a) k some in
    let crossed : (pos a *ℤ pos m) ≤ℤ (pos b *ℤ pos k) = omega (arith, ints, h) in
    record { cross = subst₂ (λ m k. (pos a *ℤ m) ≤ℤ (pos b *ℤ k)) (sym left) (sym right) crossed }

pub over_is : (a b k m : ℕ) → 0 < k → 0 < m → a * m ≡ b * k → over (pos a) k ≈ over (pos b) m
over_is a b k m some more h =
    let left = den_over (pos b) m more in
    let right = den_over (pos a) k some in
    record { cross = ap (λ m. pos a *ℤ m) left ∙ ap pos h ∙ ap (λ k. pos b *ℤ k) (sym right) }

-- the sum of two parts of a line, the places as sums: g to the second point, f from the first, of which e lies between two places and h beyond
rising_parts : (v w d e f g h : ℕ) → v ≤ w → g * d ≡ h + e → (v * g + w * f) * d ≤ v * h + w * (f * d + e)
rising_parts v w d e f g h rises split =
    let over_e : e * v ≤ e * w = mul-le-mul_left e rises in
    let parts : v * (g * d) ≡ v * (h + e) = ap (λ n. v * n) split in
    omega (arith, over_e, parts)

falling_parts : (v w d e f g h : ℕ) → w ≤ v → f * d ≡ h + e → (v * g + w * f) * d ≤ v * (g * d + e) + w * h
falling_parts v w d e f g h falls split =
    let over_e : e * w ≤ e * v = mul-le-mul_left e falls in
    let parts : w * (f * d) ≡ w * (h + e) = ap (λ n. w * n) split in
    omega (arith, over_e, parts)

-- a common factor
scaled : (D d m n : ℕ) → m * d ≤ n → m * (D * d) ≤ n * (D * 1)
scaled D d m n h = omega (arith, mul-le-mul_left D h)

-- a distance, times a factor
apart : (b a d : ℕ) → a ≤ b → (b - a) * d + a * d ≡ b * d
apart b a d h = let whole : (b - a) + a ≡ b = omega arith in omega (arith, ap (λ n. n * d) whole)

-- at most what it is further on, where the line rises, and further back, where it falls
rising : (v w p q a x d : ℕ) → v ≤ w → p ≤ a → a ≤ q → a * d ≤ x → x ≤ q * d
    → (v * (q - a) + w * (a - p)) * ((q - p) * d) ≤ (v * (q * d - x) + w * (x - p * d)) * ((q - p) * 1)
rising v w p q a x d rises pa aq ax xq =
    let split : (q - a) * d ≡ (q * d - x) + (x - a * d) = omega (arith, apart q a d aq) in
    let from : (a - p) * d + (x - a * d) ≡ x - p * d = omega (arith, apart a p d pa) in
    let inner = rising_parts v w d (x - a * d) (a - p) (q - a) (q * d - x) rises split in
    scaled (q - p) d _ _ (subst (λ n. (v * (q - a) + w * (a - p)) * d ≤ v * (q * d - x) + w * n) from inner)

falling : (v w p q b x d : ℕ) → w ≤ v → p ≤ b → b ≤ q → p * d ≤ x → x ≤ b * d
    → (v * (q - b) + w * (b - p)) * ((q - p) * d) ≤ (v * (q * d - x) + w * (x - p * d)) * ((q - p) * 1)
falling v w p q b x d falls pb bq px xb =
    let split : (b - p) * d ≡ (x - p * d) + (b * d - x) = omega (arith, apart b p d pb) in
    let from : (q - b) * d + (b * d - x) ≡ q * d - x = omega (arith, apart q b d bq) in
    let inner = falling_parts v w d (b * d - x) (b - p) (q - b) (x - p * d) falls split in
    scaled (q - p) d _ _ (subst (λ n. (v * (q - b) + w * (b - p)) * d ≤ v * n + w * (x - p * d)) from inner)

width_some : (p q d : ℕ) → p < q → 1 ≤ d → 0 < (q - p) * d
width_some p q d apart_by some = omega (arith, mul-le-mul_left (q - p) some)

-- the value at a whole number of millionths, on a line that rises, is at most each later one
pub above_low : (p q : CurvePoint) (a x d : ℕ) → p.at < q.at → 1 ≤ d → p.ohms ≤ q.ohms → p.at ≤ a → a ≤ q.at → a * d ≤ x → x ≤ q.at * d → between p q a 1 ≼ between p q x d
unfolding between
above_low p q a x d apart_by some rises pa aq ax xq =
    let whole_places = rising p.ohms q.ohms p.at q.at a x d rises pa aq ax xq in
    over_at_most _ _ _ _ (width_some p.at q.at 1 apart_by (omega arith)) (width_some p.at q.at d apart_by some)
    (subst₂ (λ q₁ p₁. (p.ohms * (q₁ - a) + q.ohms * (a - p₁)) * ((q.at - p.at) * d) ≤ (p.ohms * (q.at * d - x) + q.ohms * (x - p.at * d)) * ((q.at - p.at) * 1)) (sym (mul-one q.at)) (sym (mul-one p.at)) whole_places)

-- on one that falls, at most each earlier one
pub above_high : (p q : CurvePoint) (b x d : ℕ) → p.at < q.at → 1 ≤ d → q.ohms ≤ p.ohms → p.at ≤ b → b ≤ q.at → p.at * d ≤ x → x ≤ b * d → between p q b 1 ≼ between p q x d
unfolding between
above_high p q b x d apart_by some falls pb bq px xb =
    let whole_places = falling p.ohms q.ohms p.at q.at b x d falls pb bq px xb in
    over_at_most _ _ _ _ (width_some p.at q.at 1 apart_by (omega arith)) (width_some p.at q.at d apart_by some)
    (subst₂ (λ q₁ p₁. (p.ohms * (q₁ - b) + q.ohms * (b - p₁)) * ((q.at - p.at) * d) ≤ (p.ohms * (q.at * d - x) + q.ohms * (x - p.at * d)) * ((q.at - p.at) * 1)) (sym (mul-one q.at)) (sym (mul-one p.at)) whole_places)

-- on such a line the second point's is at most each
pub above_second : (p q : CurvePoint) (x d : ℕ) → p.at < q.at → 1 ≤ d → q.ohms ≤ p.ohms → p.at * d ≤ x → x ≤ q.at * d → whole (pos q.ohms) ≼ between p q x d
unfolding between whole
above_second p q x d apart_by some falls px xq =
    let distance = apart q.at p.at d (omega arith) in
    let split : q.ohms * ((q.at - p.at) * d) ≡ q.ohms * ((q.at * d - x) + (x - p.at * d)) = ap (λ n. q.ohms * n) (omega (arith, distance)) in
    over_at_most q.ohms (p.ohms * (q.at * d - x) + q.ohms * (x - p.at * d)) 1 ((q.at - p.at) * d) (omega arith) (width_some p.at q.at d apart_by some)
    (omega (arith, split, mul-le-mul_left (q.at * d - x) falls))

-- at its first place a line has the first point's
pub at_first : (p q : CurvePoint) (d : ℕ) → p.at < q.at → 1 ≤ d → between p q (p.at * d) d ≈ whole (pos p.ohms)
unfolding between whole
at_first p q d apart_by some =
    let distance = apart q.at p.at d (omega arith) in
    let all : p.ohms * (q.at * d - p.at * d) ≡ p.ohms * ((q.at - p.at) * d) = ap (λ n. p.ohms * n) (omega (arith, distance)) in
    let none : q.ohms * (p.at * d - p.at * d) ≡ q.ohms * 0 = ap (λ n. q.ohms * n) (omega arith) in
    over_is (p.ohms * (q.at * d - p.at * d) + q.ohms * (p.at * d - p.at * d)) p.ohms ((q.at - p.at) * d) 1 (width_some p.at q.at d apart_by some) (omega arith) (omega (arith, all, none))

-- a line between equal ohms has them
pub level : (p q : CurvePoint) (x d : ℕ) → p.at < q.at → 1 ≤ d → p.ohms ≡ q.ohms → p.at * d ≤ x → x ≤ q.at * d → between p q x d ≈ whole (pos p.ohms)
unfolding between whole
level p q x d apart_by some same px xq =
    let distance = apart q.at p.at d (omega arith) in
    let split : p.ohms * ((q.at - p.at) * d) ≡ p.ohms * ((q.at * d - x) + (x - p.at * d)) = ap (λ n. p.ohms * n) (omega (arith, distance)) in
    let second : q.ohms * (x - p.at * d) ≡ p.ohms * (x - p.at * d) = ap (λ n. n * (x - p.at * d)) (sym same) in
    over_is (p.ohms * (q.at * d - x) + q.ohms * (x - p.at * d)) p.ohms ((q.at - p.at) * d) 1 (width_some p.at q.at d apart_by some) (omega arith) (omega (arith, split, second))

pub part_small : (ohms distance : ℕ) → ohms ≤ 999999999999 → ohms * distance ≤ 999999999999 * distance
part_small ohms distance small = omega (arith, mul-le-mul_left distance small)

pub between_whole : (p q : CurvePoint) (x : ℕ) (num : ℤ) (width : ℕ) → num ≡ pos (p.ohms * (q.at - x) + q.ohms * (x - p.at)) → width ≡ q.at - p.at → over num width ≡ between p q x 1
unfolding between
between_whole p q x num width is apart_by =
    let places : pos (p.ohms * (q.at - x) + q.ohms * (x - p.at)) ≡ pos (p.ohms * (q.at * 1 - x) + q.ohms * (x - p.at * 1)) = ap₂ (λ q₁ p₁. pos (p.ohms * (q₁ - x) + q.ohms * (x - p₁))) (sym (mul-one q.at)) (sym (mul-one p.at)) in
    ap₂ over (is ∙ places) (apart_by ∙ sym (mul-one (q.at - p.at)))
