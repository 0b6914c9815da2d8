-- The comparisons of an interval test, of fractions: T is a threshold and v its inverse, W the number of units in 1, w the square of an admittance's size, and low and high bound it in units of 1/W².
use Rattle.std.proofs.Common.{pos, [], ◌∷◌}
use Rattle.exact_algebra.specs.Ratio.{Ratio, ◌≈◌, ◌≼◌, plus, times, opposite, whole}
use Rattle.exact_algebra.proofs.Reader.{reads, linear, weigh, join, none_left}
use Rattle.exact_algebra.proofs.Ratios.{ratio_ring, num-whole, one_apart}
use Rattle.exact_algebra.proofs.Order.{NotNegative, ratio_order, at_most_is}
use Rattle.exact_algebra.proofs.Quotients.{square_not_negative}

abbrev pub one : Ratio
one = whole (pos 1)

-- the admittance is at least 1/T, where G is at least 1/T and its square at most low
pub clear_by : (T v W u G low w : Ratio) → times T v ≈ one → times W u ≈ one → NotNegative (times v W)
    → times v W ≼ G → times G G ≼ low → low ≼ times w (times W W) → one ≼ times (times T T) w
clear_by T v W u G low w inverse unit some up square held =
    let above = (at_most_is (times v W) G).0 up in
    let least = (at_most_is (times G G) low).0 square in
    let kept = (at_most_is low (times w (times W W))).0 held in
    let T2 = square_not_negative T in
    let whole_sum = ratio_order.sum (ratio_order.product T2 kept) (ratio_order.sum (ratio_order.product T2 least) (ratio_order.product T2 (ratio_order.product above (ratio_order.sum above (ratio_order.sum some some))))) in
    (at_most_is one (times (times T T) w)).1
    (ratio_order.along
    (linear ratio_ring (T ∷ v ∷ W ∷ u ∷ G ∷ low ∷ w ∷ [])
    (join ratio_ring
    (weigh ratio_ring (times (plus (times (times T T) w) (opposite one)) (plus (times W u) one)) unit)
    (weigh ratio_ring (opposite (times (times (times W u) (times W u)) (plus (times T v) one))) inverse))
    (search reads depth 60 fits 20000) none_left)
    (ratio_order.product (square_not_negative u) whole_sum))

-- the admittance is not at least 1/T, where g is at most 1/T and high is below its square
pub not_clear_by : (T v W g high w : Ratio) → times T v ≈ one → NotNegative (times v W) → NotNegative g
    → g ≼ times v W → plus high one ≼ times g g → times w (times W W) ≼ high → ¬ (one ≼ times (times T T) w)
not_clear_by T v W g high w inverse some natural down square held clear =
    let below = (at_most_is g (times v W)).0 down in
    let most = (at_most_is (plus high one) (times g g)).0 square in
    let kept = (at_most_is (times w (times W W)) high).0 held in
    let above = (at_most_is one (times (times T T) w)).0 clear in
    let T2 = square_not_negative T in
    let whole_sum =
    ratio_order.sum (ratio_order.product (square_not_negative W) above)
    (ratio_order.sum (ratio_order.product T2 kept) (ratio_order.sum (ratio_order.product T2 most) (ratio_order.product T2 (ratio_order.product below (ratio_order.sum some natural))))) in
    let less : NotNegative (opposite one) =
    ratio_order.along
    (linear ratio_ring (T ∷ v ∷ W ∷ g ∷ high ∷ w ∷ [])
    (weigh ratio_ring (times (plus (times T v) one) (plus (times (times v v) (times W W)) (opposite one))) inverse)
    (search reads depth 60 fits 20000) none_left)
    (ratio_order.product (square_not_negative v) whole_sum) in
    one_apart (ratio_order.both (record { value = 1; is = num-whole (pos 1) }) less)

-- A ohms are at most the size of an impedance, whose square is z per unit: c is the ohms of 1 per unit, and R bounds the admittance's size in units of 1/W
pub ohms_by : (A R r c W z w high : Ratio) → times R r ≈ one → times z w ≈ one → NotNegative (times A R) → NotNegative z
    → times A R ≼ times c W → high ≼ times R R → times w (times W W) ≼ high → times A A ≼ times z (times c c)
ohms_by A R r c W z w high unit inverse some natural ohms square held =
    let above = (at_most_is (times A R) (times c W)).0 ohms in
    let root = (at_most_is high (times R R)).0 square in
    let kept = (at_most_is (times w (times W W)) high).0 held in
    let whole_sum =
    ratio_order.sum (ratio_order.product (square_not_negative c) (ratio_order.product natural (ratio_order.sum root kept)))
    (ratio_order.product above (ratio_order.sum above (ratio_order.sum some some))) in
    (at_most_is (times A A) (times z (times c c))).1
    (ratio_order.along
    (linear ratio_ring (A ∷ R ∷ r ∷ c ∷ W ∷ z ∷ w ∷ high ∷ [])
    (join ratio_ring
    (weigh ratio_ring (times (plus (times R r) one) (plus (times z (times c c)) (opposite (times A A)))) unit)
    (weigh ratio_ring (opposite (times (times (times r r) (times c c)) (times W W))) inverse))
    (search reads depth 60 fits 20000) none_left)
    (ratio_order.product (square_not_negative r) whole_sum))

-- A R is at most c W, where both are seen by millionths: q (b R) is at most k² W
pub ohms_scaled : (A q u R V k S b v W : Ratio) → A ≈ times q u → V ≈ times k u → S ≈ times b u → times S v ≈ one → NotNegative v
    → times q (times b R) ≼ times (times k k) W → times A R ≼ times (times (times V V) v) W
ohms_scaled A q u R V k S b v W ohms volts power inverse natural below =
    let least = (at_most_is (times q (times b R)) (times (times k k) W)).0 below in
    (at_most_is (times A R) (times (times (times V V) v) W)).1
    (ratio_order.along
    (linear ratio_ring (A ∷ q ∷ u ∷ R ∷ V ∷ k ∷ S ∷ b ∷ v ∷ W ∷ [])
    (join ratio_ring (weigh ratio_ring (opposite (times (plus V (times k u)) (times v W))) volts)
    (join ratio_ring (weigh ratio_ring R ohms)
    (join ratio_ring (weigh ratio_ring (opposite (times (times q u) R)) inverse)
    (weigh ratio_ring (times (times (times q u) R) v) power))))
    (search reads depth 60 fits 20000) none_left)
    (ratio_order.product (ratio_order.product (square_not_negative u) natural) least))

-- T v is 1, where T is by millionths of the threshold t, the power b and the voltage k, r is the inverse of the voltage's square, and v t b = k²
pub levels_by : (A t u V k S b r v : Ratio) → A ≈ times t u → V ≈ times k u → S ≈ times b u → times (times V V) r ≈ one
    → times v (times t b) ≈ times k k → times (times (times A S) r) v ≈ one
levels_by A t u V k S b r v threshold volts power unit inverse =
    linear ratio_ring (A ∷ t ∷ u ∷ V ∷ k ∷ S ∷ b ∷ r ∷ v ∷ [])
    (join ratio_ring (weigh ratio_ring (times (times S r) v) threshold)
    (join ratio_ring (weigh ratio_ring (times (times (times t u) r) v) power)
    (join ratio_ring (weigh ratio_ring (times (times u u) r) inverse)
    (join ratio_ring (weigh ratio_ring (opposite (times (plus V (times k u)) r)) volts)
    (weigh ratio_ring one unit)))))
    (search reads depth 60 fits 20000) none_left
