-- The pairs of taps of two branches of a group, of which the nodes of one may be dead.
use Rattle.std.proofs.Common.{◌≡◌, ◌∙◌, ℕ, Bool, true, false, List, [], ◌∷◌, refl, sym, subst, arith, inl, inr}
use Rattle.std.specs.Prelude.{Some, is_some, ◌||◌, if◌then◌else◌}
use Rattle.std.specs.List.{AllZip, AllByRecursion}
use Rattle.exact_algebra.specs.Complex.{Complex, complex_numbers, real}
use Rattle.exact_algebra.proofs.Complexes.{complex_field}
use Rattle.exact_algebra.proofs.Reader.{reads, linear, weigh, join, none_left}
use Rattle.complex_interval.specs.Rectangles.{Rectangle, EnclosesComplex}
use Rattle.network_theory.specs.Branch.{Tap, Branch}
use Rattle.network_theory.specs.Between.{TapUpTo, BranchUpTo}
use Rattle.network_theory.specs.Nodal.{IsDistinct, pair_entry}
use Rattle.network_theory.proofs.Carried.{IsAmong, pair_entry-is}
use Rattle.network_theory.proofs.Numbers.{R, one_at, one_at-apart}
use Rattle.network_theory.proofs.Sums.{ratio_at}
use Rattle.admittance_box.specs.Addends.{PlacedTap, TapPair, taps_between, tap_pairs, has_place, live_taps}
use Rattle.admittance_box.specs.BoxMatrix.{with_pairs}
use Rattle.admittance_box.specs.Places.{place_of}
use Rattle.admittance_box.proofs.HeldPairs.{Held, HoldsTap, taps_hold, pairs_hold, plus-none, along}
use Rattle.admittance_box.proofs.LivePlaces.{place-among}
use Rattle.admittance_box.proofs.Steps.{value_is}
open complex_numbers use {◌≈◌, nought, unit, ◌⊕◌, ◌⊗◌}
open complex_field use {next}

-- ---- entries of nodes of the ordering
-- a fact of each node among these and the item at its place gives another
zip_among : {X : Type 0} (P Q : ℕ → X → Type 0) (nodes : List ℕ) (xs : List X) → ((n : ℕ) (x : X) → IsAmong n nodes → P n x → Q n x) → AllZip P nodes xs → AllZip Q nodes xs
zip_among P Q [] [] f z = tt
zip_among P Q [] (x ∷ xs) f z = absurd z
zip_among P Q (n ∷ nodes) [] f z = absurd z
zip_among P Q (n ∷ nodes) (x ∷ xs) f z = (f n x (inl refl) z.0, zip_among P Q nodes xs (λ m y i. f m y (inr i)) z.1)

pub held_among : (s : ℕ) (ordering : List ℕ) (f g : ℕ → ℕ → Complex) (rows : List (List Rectangle)) → ((n k : ℕ) → IsAmong n ordering → IsAmong k ordering → f n k ≈ g n k) → Held s ordering f rows → Held s ordering g rows
held_among s ordering f g rows e =
    zip_among (λ n row. AllZip (λ k b. EnclosesComplex s b (f n k)) ordering row) (λ n row. AllZip (λ k b. EnclosesComplex s b (g n k)) ordering row) ordering rows
    (λ n row i. zip_among (λ k b. EnclosesComplex s b (f n k)) (λ k b. EnclosesComplex s b (g n k)) ordering row (λ k b j. along s b (f n k) (g n k) (e n k i j)))

-- ---- dead taps
-- no tap is at a node of the ordering
abbrev pub AreDead : List ℕ → List Tap → Type 0
AreDead ordering taps = AllByRecursion (λ t. ¬ IsAmong t.node ordering) taps

no_ratio : (ordering : List ℕ) (ts : List Tap) (n : ℕ) → AreDead ordering ts → IsAmong n ordering → ratio_at ts n ≈ nought
no_ratio ordering [] n d i = complex_field.same _
no_ratio ordering (t ∷ ts) n d i = go t.node (λ e. d.0 (subst (λ m. IsAmong m ordering) (sym e) i)) (no_ratio ordering ts n d.1 i)
  where
    go : (m : ℕ) → ¬ (m ≡ n) → ratio_at ts n ≈ nought → one_at m n ⊗ real t.ratio ⊕ ratio_at ts n ≈ nought
    go m ne rest = linear R (one_at m n ∷ real t.ratio ∷ ratio_at ts n ∷ []) (join R (weigh R (real t.ratio) (one_at-apart m n ne)) (weigh R unit rest)) (search reads depth 40 fits 4000) none_left

no_row : (ordering : List ℕ) (ts us : List Tap) (y : Complex) (n k : ℕ) → AreDead ordering ts → IsAmong n ordering → pair_entry ts us y n k ≈ nought
no_row ordering ts us y n k d i = next (pair_entry-is ts us y n k) (go (ratio_at ts n) (ratio_at us k) (no_ratio ordering ts n d i))
  where
    go : (a b : Complex) → a ≈ nought → a ⊗ (y ⊗ b) ≈ nought
    go a b e = linear R (a ∷ b ∷ y ∷ []) (weigh R (y ⊗ b) e) (search reads depth 40 fits 4000) none_left

no_column : (ordering : List ℕ) (ts us : List Tap) (y : Complex) (n k : ℕ) → AreDead ordering us → IsAmong k ordering → pair_entry ts us y n k ≈ nought
no_column ordering ts us y n k d i = next (pair_entry-is ts us y n k) (go (ratio_at ts n) (ratio_at us k) (no_ratio ordering us k d i))
  where
    go : (a b : Complex) → b ≈ nought → a ⊗ (y ⊗ b) ≈ nought
    go a b e = linear R (a ∷ b ∷ y ∷ []) (weigh R (a ⊗ y) e) (search reads depth 40 fits 4000) none_left

-- ---- the taps of a branch of a group
-- they stand for the exact ones, or there are none and the exact ones are dead
pub data StandsFor (s : ℕ) (ordering : List ℕ) : List PlacedTap → List Tap → Type 0 where
  live : (ps : List PlacedTap) (vs : List Tap) → AllZip (HoldsTap s ordering) ps vs → StandsFor s ordering ps vs
  dead : (vs : List Tap) → AreDead ordering vs → StandsFor s ordering [] vs

or_false : (a b : Bool) → (a || b) ≡ false → (a ≡ false) × (b ≡ false)
or_false a b e = grind arith

-- where no tap of the one branch has a place, the partner's are dead
pub dead_partner : (ordering : List ℕ) (ts vs : List Tap) → AllZip TapUpTo ts vs → has_place ordering ts ≡ false → AreDead ordering vs
dead_partner ordering [] [] z e = tt
dead_partner ordering [] (v ∷ vs) z e = absurd z
dead_partner ordering (t ∷ ts) [] z e = absurd z
dead_partner ordering (t ∷ ts) (v ∷ vs) z e =
    let (here, rest) = or_false (is_some (place_of ordering t.node)) (has_place ordering ts) e in
    (λ i. absurd (let has = place-among t.node ordering (subst (λ n. IsAmong n ordering) (sym z.0.node) i) in cc), dead_partner ordering ts vs z.1 rest)

pub taps_stand : (s : ℕ) (ordering : List ℕ) (a c b : Branch) (taps : List PlacedTap) → BranchUpTo a b → BranchUpTo b c → live_taps s ordering a c ≡ Some taps → StandsFor s ordering taps b.taps
taps_stand s ordering a c b taps p q e = go (has_place ordering a.taps) refl e
  where
    go : (t : Bool) → has_place ordering a.taps ≡ t → (if t then taps_between s ordering a.taps c.taps else Some []) ≡ Some taps → StandsFor s ordering taps b.taps
    go true h i = live taps b.taps (taps_hold s ordering a.taps c.taps b.taps taps p.taps q.taps i)
    go false h i = let is : [] ≡ taps = cc in subst (λ ps. StandsFor s ordering ps b.taps) is (dead b.taps (dead_partner ordering a.taps b.taps p.taps h))

-- no pairs with no taps
pub no_pairs : (s : ℕ) (ps : List PlacedTap) → tap_pairs s ps [] ≡ Some []
no_pairs s [] = refl
no_pairs s (p ∷ ps) = rw (no_pairs s ps) refl

module _ (s : ℕ) (ordering : List ℕ) (distinct : IsDistinct ordering) (y : Rectangle) (z : Complex) (y_held : EnclosesComplex s y z) where
  nothing_added : (vs ws : List Tap) (pairs : List TapPair) → [] ≡ pairs → ((n k : ℕ) → IsAmong n ordering → IsAmong k ordering → pair_entry vs ws z n k ≈ nought)
      → (rows after : List (List Rectangle)) (f : ℕ → ℕ → Complex) → with_pairs s y pairs rows ≡ Some after → Held s ordering f rows → Held s ordering (λ n k. f n k ⊕ pair_entry vs ws z n k) after
  nothing_added vs ws pairs none zero rows after f g held =
      let same : with_pairs s y [] rows ≡ Some after = subst (λ l. with_pairs s y l rows ≡ Some after) (sym none) g in
      let is : rows ≡ after = cc in
      subst (Held s ordering (λ n k. f n k ⊕ pair_entry vs ws z n k)) is
      (held_among s ordering f (λ n k. f n k ⊕ pair_entry vs ws z n k) rows (λ n k i j. plus-none (f n k) (pair_entry vs ws z n k) (zero n k i j)) held)

  -- what the pairs of two branches' taps add is held
  pub stand_hold : (ps : List PlacedTap) (vs : List Tap) → StandsFor s ordering ps vs → (qs : List PlacedTap) (ws : List Tap) → StandsFor s ordering qs ws → (pairs : List TapPair) → tap_pairs s ps qs ≡ Some pairs
      → (rows after : List (List Rectangle)) (f : ℕ → ℕ → Complex) → with_pairs s y pairs rows ≡ Some after → Held s ordering f rows → Held s ordering (λ n k. f n k ⊕ pair_entry vs ws z n k) after
  stand_hold _ _ (live ps vs a) _ _ (live qs ws b) pairs e = pairs_hold s ordering distinct y z y_held ps vs a qs ws b pairs e
  stand_hold _ _ (live ps vs a) _ _ (dead ws d) pairs e = nothing_added vs ws pairs (value_is [] pairs (sym (no_pairs s ps) ∙ e)) (λ n k i j. no_column ordering vs ws z n k d j)
  stand_hold _ _ (dead vs d) qs ws b pairs e = nothing_added vs ws pairs (value_is [] pairs e) (λ n k i j. no_row ordering vs ws z n k d i)
