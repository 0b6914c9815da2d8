-- Sizes of complex numbers that are near one another, by parts: a and b are those of the one, x and y those of the other, and d1 and d2 their differences.
use Rattle.std.proofs.Common.{inl, inr, [], ◌∷◌}
use Rattle.exact_algebra.specs.Ratio.{Ratio, ◌≈◌, plus, times, opposite, difference, magnitude}
use Rattle.exact_algebra.proofs.Reader.{reads, ring, linear, weigh, join, none_left}
use Rattle.exact_algebra.proofs.Ratios.{ratio_ring}
use Rattle.exact_algebra.proofs.Order.{NotNegative, ratio_order, magnitude_is, magnitude_not_negative}
use Rattle.exact_algebra.proofs.Quotients.{square_not_negative}
use Rattle.band_subdivision.proofs.Comparisons.{one}

-- B is at least q in size
abbrev IsOver : Ratio → Ratio → Type 0
IsOver B q = NotNegative (plus B (opposite (magnitude q)))

twice : {x : Ratio} → NotNegative x → NotNegative (plus x x)
twice h = ratio_order.sum h h

magnitude-square : (d : Ratio) → times (magnitude d) (magnitude d) ≈ times d d
magnitude-square d =
    let D = magnitude d in
    elim (magnitude_is d) [
      | inl e ↦ linear ratio_ring (d ∷ D ∷ []) (weigh ratio_ring (plus D d) e) (search reads depth 40 fits 4000) none_left
      | inr e ↦ linear ratio_ring (d ∷ D ∷ []) (weigh ratio_ring (plus D (opposite d)) e) (search reads depth 40 fits 4000) none_left
    ]

-- neither B|d| + q d nor B|d| - q d is negative
module _ (B q d : Ratio) (h : IsOver B q) where
  abbrev Q : Ratio
  Q = magnitude q

  abbrev D : Ratio
  D = magnitude d

  kept : NotNegative (times (plus B (opposite Q)) D)
  kept = ratio_order.product h (magnitude_not_negative d)

  more : NotNegative (plus (times (plus B (opposite Q)) D) (plus (times Q D) (times Q D)))
  more = ratio_order.sum kept (twice (ratio_order.product (magnitude_not_negative q) (magnitude_not_negative d)))

  crossed : NotNegative (plus (times B D) (times q d))
  crossed =
      elim (magnitude_is q) [
        | inl eq ↦ elim (magnitude_is d) [
          | inl ed ↦ ratio_order.along (linear ratio_ring (B ∷ q ∷ d ∷ Q ∷ D ∷ []) (join ratio_ring (weigh ratio_ring D eq) (weigh ratio_ring q ed)) (search reads depth 60 fits 20000) none_left) more
          | inr ed ↦ ratio_order.along (linear ratio_ring (B ∷ q ∷ d ∷ Q ∷ D ∷ []) (join ratio_ring (weigh ratio_ring (opposite D) eq) (weigh ratio_ring (opposite q) ed)) (search reads depth 60 fits 20000) none_left) kept
        ]
        | inr eq ↦ elim (magnitude_is d) [
          | inl ed ↦ ratio_order.along (linear ratio_ring (B ∷ q ∷ d ∷ Q ∷ D ∷ []) (join ratio_ring (weigh ratio_ring (opposite D) eq) (weigh ratio_ring q ed)) (search reads depth 60 fits 20000) none_left) kept
          | inr ed ↦ ratio_order.along (linear ratio_ring (B ∷ q ∷ d ∷ Q ∷ D ∷ []) (join ratio_ring (weigh ratio_ring D eq) (weigh ratio_ring (opposite q) ed)) (search reads depth 60 fits 20000) none_left) more
        ]
      ]

  crossed_less : NotNegative (plus (times B D) (opposite (times q d)))
  crossed_less =
      elim (magnitude_is q) [
        | inl eq ↦ elim (magnitude_is d) [
          | inl ed ↦ ratio_order.along (linear ratio_ring (B ∷ q ∷ d ∷ Q ∷ D ∷ []) (join ratio_ring (weigh ratio_ring (opposite D) eq) (weigh ratio_ring (opposite q) ed)) (search reads depth 60 fits 20000) none_left) kept
          | inr ed ↦ ratio_order.along (linear ratio_ring (B ∷ q ∷ d ∷ Q ∷ D ∷ []) (join ratio_ring (weigh ratio_ring D eq) (weigh ratio_ring q ed)) (search reads depth 60 fits 20000) none_left) more
        ]
        | inr eq ↦ elim (magnitude_is d) [
          | inl ed ↦ ratio_order.along (linear ratio_ring (B ∷ q ∷ d ∷ Q ∷ D ∷ []) (join ratio_ring (weigh ratio_ring D eq) (weigh ratio_ring (opposite q) ed)) (search reads depth 60 fits 20000) none_left) more
          | inr ed ↦ ratio_order.along (linear ratio_ring (B ∷ q ∷ d ∷ Q ∷ D ∷ []) (join ratio_ring (weigh ratio_ring (opposite D) eq) (weigh ratio_ring q ed)) (search reads depth 60 fits 20000) none_left) kept
        ]
      ]

-- the differences are at most E in the sum of their sizes
module _ (E x y a b d1 d2 : Ratio) (e1 : d1 ≈ difference x a) (e2 : d2 ≈ difference y b) (small : NotNegative (plus E (opposite (plus (magnitude d1) (magnitude d2))))) where
  abbrev m1 : Ratio
  m1 = magnitude d1

  abbrev m2 : Ratio
  m2 = magnitude d2

  abbrev gap : Ratio
  gap = plus E (opposite (plus m1 m2))

  -- E² is at least the sum of the squares of both sizes
  squares : NotNegative (plus (times gap (plus gap (plus (plus m1 m2) (plus m1 m2)))) (plus (times m1 m2) (times m1 m2)))
  squares =
      let sizes = ratio_order.sum (magnitude_not_negative d1) (magnitude_not_negative d2) in
      ratio_order.sum (ratio_order.product small (ratio_order.sum small (twice sizes))) (twice (ratio_order.product (magnitude_not_negative d1) (magnitude_not_negative d2)))

  -- the size of the other is at most R + E, where R is at least that of the one
  pub reach_up : (R : Ratio) → IsOver R a → IsOver R b → NotNegative R → NotNegative (plus (times R R) (opposite (plus (times a a) (times b b))))
      → NotNegative (plus (times (plus R E) (plus R E)) (opposite (plus (times x x) (times y y))))
  reach_up R over_a over_b natural square =
      let parts = ratio_order.sum (twice (crossed_less R a d1 over_a)) (twice (crossed_less R b d2 over_b)) in
      let whole_sum = ratio_order.sum square (ratio_order.sum parts (ratio_order.sum (twice (ratio_order.product natural small)) squares)) in
      ratio_order.along
      (linear ratio_ring (R ∷ E ∷ x ∷ y ∷ a ∷ b ∷ d1 ∷ d2 ∷ m1 ∷ m2 ∷ [])
      (join ratio_ring (weigh ratio_ring (opposite (plus (plus x a) d1)) e1)
      (join ratio_ring (weigh ratio_ring (opposite (plus (plus y b) d2)) e2)
      (join ratio_ring (weigh ratio_ring (opposite one) (magnitude-square d1)) (weigh ratio_ring (opposite one) (magnitude-square d2)))))
      (search reads depth 80 fits 40000) none_left)
      whole_sum

  -- it is at least M, where that of the one is at least M + E
  pub reach_down : (M : Ratio) → NotNegative M → NotNegative (plus (plus (times a a) (times b b)) (opposite (times (plus M E) (plus M E))))
      → NotNegative (plus (plus (times x x) (times y y)) (opposite (times M M)))
  reach_down M natural square =
      let X = magnitude x in
      let Y = magnitude y in
      elim (ratio_order.either (plus M (opposite X))) [
        | inr far ↦
            ratio_order.along
            (linear ratio_ring (M ∷ x ∷ y ∷ X ∷ []) (weigh ratio_ring one (magnitude-square x)) (search reads depth 60 fits 20000) none_left)
            (ratio_order.sum (ratio_order.product far (ratio_order.sum (magnitude_not_negative x) natural)) (square_not_negative y))
        | inl over_x ↦ elim (ratio_order.either (plus M (opposite Y))) [
          | inr far ↦
              ratio_order.along
              (linear ratio_ring (M ∷ x ∷ y ∷ Y ∷ []) (weigh ratio_ring one (magnitude-square y)) (search reads depth 60 fits 20000) none_left)
              (ratio_order.sum (ratio_order.product far (ratio_order.sum (magnitude_not_negative y) natural)) (square_not_negative x))
          | inl over_y ↦
              let parts = ratio_order.sum (twice (crossed M x d1 over_x)) (twice (crossed M y d2 over_y)) in
              let whole_sum = ratio_order.sum square (ratio_order.sum parts (ratio_order.sum (twice (ratio_order.product natural small)) squares)) in
              ratio_order.along
              (linear ratio_ring (M ∷ E ∷ x ∷ y ∷ a ∷ b ∷ d1 ∷ d2 ∷ m1 ∷ m2 ∷ [])
              (join ratio_ring (weigh ratio_ring (plus (plus a x) (opposite d1)) e1)
              (join ratio_ring (weigh ratio_ring (plus (plus b y) (opposite d2)) e2)
              (join ratio_ring (weigh ratio_ring (opposite one) (magnitude-square d1)) (weigh ratio_ring (opposite one) (magnitude-square d2)))))
              (search reads depth 80 fits 40000) none_left)
              whole_sum
        ]
      ]

-- ---- against a threshold T
-- a square of at most (R + E)² is at most T²
pub below_square : (T B z : Ratio) → NotNegative B → NotNegative (plus T (opposite B)) → NotNegative (plus (times B B) (opposite z)) → NotNegative (plus (times T T) (opposite z))
below_square T B z natural up most =
    ratio_order.along (ring ratio_ring (T ∷ B ∷ z ∷ []) (search reads depth 60 fits 20000) none_left)
    (ratio_order.sum (ratio_order.sum (ratio_order.product up up) (twice (ratio_order.product natural up))) most)

-- a square z of at least M² isn't at most T², where T is at most b and M at least b and one unit r more
pub over_square : (T b M r W z : Ratio) → times r W ≈ one → NotNegative T → NotNegative b → NotNegative r → NotNegative M → NotNegative (plus b (opposite T)) → NotNegative (plus M (opposite (plus b r)))
    → NotNegative (plus z (opposite (times M M))) → NotNegative (plus (times T T) (opposite z)) → NotNegative (opposite one)
over_square T b M r W z unit nt nb nr nm under over least most =
    let squares = ratio_order.sum most least in
    let levels = ratio_order.sum (ratio_order.product under under) (twice (ratio_order.product nt under)) in
    let apart = ratio_order.product over (ratio_order.sum nm (ratio_order.sum nb nr)) in
    let cross = twice (ratio_order.product nb nr) in
    ratio_order.along
    (linear ratio_ring (T ∷ b ∷ M ∷ r ∷ W ∷ z ∷ []) (weigh ratio_ring (opposite (plus (times r W) one)) unit) (search reads depth 80 fits 40000) none_left)
    (ratio_order.product (square_not_negative W) (ratio_order.sum (ratio_order.sum squares levels) (ratio_order.sum apart cross)))

-- A ohms are at most the size of an impedance, whose square is z per unit and at least M²: c is the ohms of 1 per unit, and M is N units r
pub ohms_under : (A c M N r W z : Ratio) → times r W ≈ one → M ≈ times N r → NotNegative r → NotNegative A → NotNegative c → NotNegative M
    → NotNegative (plus (times c N) (opposite (times A W))) → NotNegative (plus z (opposite (times M M))) → NotNegative (plus (times z (times c c)) (opposite (times A A)))
ohms_under A c M N r W z unit is nr na nc nm ohms least =
    let scaled : NotNegative (plus (times c M) (opposite A)) =
    ratio_order.along
    (linear ratio_ring (A ∷ c ∷ M ∷ N ∷ r ∷ W ∷ []) (join ratio_ring (weigh ratio_ring (opposite A) unit) (weigh ratio_ring (opposite c) is)) (search reads depth 60 fits 20000) none_left)
    (ratio_order.product ohms nr) in
    ratio_order.along (ring ratio_ring (A ∷ c ∷ M ∷ z ∷ []) (search reads depth 60 fits 20000) none_left)
    (ratio_order.sum (ratio_order.product (square_not_negative c) least) (ratio_order.product scaled (ratio_order.sum (ratio_order.product nc nm) na)))
