-- The enclosed impedances of a pair of networks hold the exact ones.
use Rattle.std.proofs.Common.{◌≡◌, ◌≢◌, ◌∙◌, ℕ, zero, suc, ◌-◌, ◌<◌, ℤ, pos, ◌≤ℤ◌, Bool, true, false, List, [], ◌∷◌, ◌++◌, length, map, get_or, replicate, slice_get, Option, Some, None, refl, sym, ap, subst, arith}
use Rattle.std.specs.Prelude.{int_lt, if◌then◌else◌, slice_set}
use Rattle.std.specs.List.{AllZip, AllByRecursion}
use Rattle.exact_algebra.specs.Ratio.{Ratio, ◌≈◌, whole}
use Rattle.exact_algebra.specs.Complex.{Complex, complex_numbers, complex_plus}
use Rattle.exact_algebra.proofs.Complexes.{complex_field}
use Rattle.exact_algebra.proofs.Ratios.{num_nought}
use Rattle.exact_algebra.proofs.Reader.{reads, linear, weigh, join, none_left}
use Rattle.linear_systems.specs.Linear.{HasOneSolution}
use Rattle.complex_interval.specs.Ends.{range_ends}
use Rattle.complex_interval.specs.Rectangles.{Rectangle, EnclosesComplex}
use Rattle.network_theory.specs.Order.{Order, IsOrder}
use Rattle.network_theory.specs.Box.{LiesIn}
use Rattle.network_theory.specs.Network.{Network}
use Rattle.network_theory.specs.Between.{LiesBetween}
use Rattle.network_theory.specs.Extra.{shunt_at, with_shunt, scanned_network}
use Rattle.network_theory.specs.Impedance.{shunt_admittance}
use Rattle.network_theory.specs.Admittance.{Part, Alone}
use Rattle.network_theory.specs.DrivingPoint.{unit_at}
use Rattle.network_theory.specs.Nodal.{nodal_entry, IsDistinct}
use Rattle.network_theory.proofs.Driven.{nodal_square, impedance_of_solution, solves_right}
use Rattle.network_theory.proofs.Extra.{entry-more, shunted_system}
use Rattle.network_theory.proofs.Numbers.{R, one_at, one_at-same, one_at-apart}
use Rattle.plain_elimination.specs.Elimination.{HoldsRows}
use Rattle.plain_elimination.specs.Matrix.{entry, set_entry}
use Rattle.certified_inverse.specs.Certificate.{unit_row, enclosure}
use Rattle.certified_inverse.specs.declared.outcome.InverseOutcome.TheVariants.{Enclosed}
use Rattle.certified_inverse.proofs.Law.{enclosure_holds}
use Rattle.admittance_box.specs.HeldMatrix.{CanAssemble, HoldsNodal}
use Rattle.admittance_box.proofs.HeldMatrices.{box_matrix_holds}
use Rattle.admittance_box.specs.Steps.{◌>>=◌}
use Rattle.admittance_box.proofs.Steps.{bind-some}
use Rattle.band_subdivision.specs.Levels.{orders}
use Rattle.band_subdivision.specs.PairTest.{with_extra, pair_rows, with_last, last_enclosure, pair_enclosure}
use Rattle.band_subdivision.specs.Truth.{IsImpedanceNear, EnclosesImpedance}
use Rattle.band_subdivision.proofs.PairTests.{ok_some, not_above, extra_held, held_without}
open complex_numbers use {◌≈◌ as ◌≅◌, nought, unit, ◌⊕◌, ◌⊗◌}
open complex_field use {same, back, next}

-- ---- the unit right side
nought_zip : (k : ℕ) (nodes : List ℕ) → AllByRecursion (λ j. k ≢ j) nodes → AllZip ◌≅◌ (replicate (length nodes) nought) (map (unit_at k) nodes)
nought_zip k [] d = tt
nought_zip k (j ∷ nodes) d = (back (one_at-apart k j d.0), nought_zip k nodes d.1)

later : (m n : ℕ) (nodes : List ℕ) → AllByRecursion (λ j. m ≢ j) nodes → n < length nodes → ¬ (get_or nodes n 0 ≡ m)
later m n [] d l = absurd (omega arith)
later m zero (j ∷ nodes) d l = λ e. d.0 (sym e)
later m (suc n) (j ∷ nodes) d l = later m n nodes d.1 (omega arith)

unit_zip : (k n : ℕ) (nodes : List ℕ) → IsDistinct nodes → n < length nodes → get_or nodes n 0 ≡ k → AllZip ◌≅◌ (unit_row unit nought (length nodes) n) (map (unit_at k) nodes)
unit_zip k n [] d l e = absurd (omega arith)
unit_zip k zero (j ∷ nodes) d l e = (back (subst (λ i. one_at i j ≅ unit) e (one_at-same j)), nought_zip k nodes (subst (λ i. AllByRecursion (λ m. i ≢ m) nodes) e d.0))
unit_zip k (suc n) (j ∷ nodes) d l e =
    (back (one_at-apart k j (λ q. later j n nodes d.0 (omega arith) (e ∙ q))), unit_zip k n nodes d.1 (omega arith) e)

zip_back : (x y : List Complex) → AllZip ◌≅◌ x y → AllZip ◌≅◌ y x
zip_back [] [] z = tt
zip_back [] (b ∷ y) z = absurd z
zip_back (a ∷ x) [] z = absurd z
zip_back (a ∷ x) (b ∷ y) z = (back z.0, zip_back x y z.1)

same_length : {X Y : Type 0} (P : X → Y → Type 0) (xs : List X) (ys : List Y) → AllZip P xs ys → length xs ≡ length ys
same_length P [] [] h = refl
same_length P [] (y ∷ ys) h = absurd h
same_length P (x ∷ xs) [] h = absurd h
same_length P (x ∷ xs) (y ∷ ys) h = ap suc (same_length P xs ys h.1)

-- an enclosure by rows that hold a nodal matrix with the driven node last
near_of : (s : ℕ) (network : Network) (h : Order) (driven : ℕ) (ordering : List ℕ) (rows : List (List Rectangle)) (re im : ℤ) (error : ℕ) → HoldsNodal s network h driven ordering rows
    → enclosure s (length rows - 1) rows ≡ Enclosed re im error → IsImpedanceNear s network h driven re im error
near_of s network h driven ordering rows re im error has e =
    let square = nodal_square network h has.parts ordering has.rows has.system in
    let count : length rows ≡ length ordering = same_length _ rows has.rows has.held ∙ square.count in
    let last : length rows - 1 ≡ has.n = omega (arith, count, has.last.count) in
    let e' : enclosure s has.n rows ≡ Enclosed re im error = subst (λ k. enclosure s k rows ≡ Enclosed re im error) last e in
    let below : has.n < length ordering = omega (arith, has.last.count) in
    let enclosed = enclosure_holds s (length ordering) has.n rows re im error has.rows below e' square has.held in
    let zip = unit_zip driven has.n ordering has.system.listed.distinct below has.last.last in
    let one = enclosed.one in
    let moved : HasOneSolution complex_numbers (length ordering) has.rows (map (unit_at driven) ordering) = record {
      solution = one.solution;
      count = one.count;
      solves = solves_right has.rows one.solution _ _ zip one.solves;
      only = λ x l solves. one.only x l (solves_right has.rows x _ _ (zip_back _ _ zip) solves);
    } in
    record { Z = get_or one.solution has.n nought; exists = impedance_of_solution network h has.parts ordering has.rows has.system has.n driven has.last moved; near = enclosed.near }

-- ---- one more shunt at the last node
module _ (s : ℕ) where
  abbrev Held : List Rectangle → List Complex → Type 0
  Held row r = AllZip (EnclosesComplex s) row r

  -- the exact entry at a place of a row that is held, and the row with another number there
  pub record HoldsAt (a : Rectangle) (z : Option Complex) : Type 0 where
    pub number : Complex
    pub is : z ≡ Some number
    pub held : EnclosesComplex s a number

  row_at : (j : ℕ) (row : List Rectangle) (r : List Complex) (a : Rectangle) → Held row r → slice_get row j ≡ Some a → HoldsAt a (slice_get r j)
  row_at j [] r a h e = absurd cc
  row_at j (b ∷ row) [] a h e = absurd h
  row_at zero (b ∷ row) (z ∷ r) a h e = let q : b ≡ a = cc in record { number = z; is = refl; held = subst (λ t. EnclosesComplex s t z) q h.0 }
  row_at (suc j) (b ∷ row) (z ∷ r) a h e = row_at j row r a h.1 e

  entry_at : (i j : ℕ) (rows : List (List Rectangle)) (exact : List (List Complex)) (a : Rectangle) → HoldsRows (EnclosesComplex s) rows exact → entry rows i j ≡ Some a → HoldsAt a (entry exact i j)
  entry_at i j [] exact a h e = absurd cc
  entry_at i j (row ∷ rows) [] a h e = absurd h
  entry_at zero j (row ∷ rows) (r ∷ exact) a h e = row_at j row r a h.0 e
  entry_at (suc i) j (row ∷ rows) (r ∷ exact) a h e = entry_at i j rows exact a h.1 e

  row_set : (j : ℕ) (row : List Rectangle) (r : List Complex) (a : Rectangle) (z : Complex) → Held row r → EnclosesComplex s a z → Held (slice_set row j a) (slice_set r j z)
  row_set j [] [] a z h k = tt
  row_set j [] (y ∷ r) a z h k = absurd h
  row_set j (b ∷ row) [] a z h k = absurd h
  row_set zero (b ∷ row) (y ∷ r) a z h k = (k, h.1)
  row_set (suc j) (b ∷ row) (y ∷ r) a z h k = (h.0, row_set j row r a z h.1 k)

  rows_set : (i j : ℕ) (rows : List (List Rectangle)) (exact : List (List Complex)) (a : Rectangle) (z : Complex) → HoldsRows (EnclosesComplex s) rows exact → EnclosesComplex s a z
      → HoldsRows (EnclosesComplex s) (set_entry rows i j a) (set_entry exact i j z)
  rows_set i j [] [] a z h k = tt
  rows_set i j [] (r ∷ exact) a z h k = absurd h
  rows_set i j (row ∷ rows) [] a z h k = absurd h
  rows_set zero j (row ∷ rows) (r ∷ exact) a z h k = (row_set j row r a z h.0 k, h.1)
  rows_set (suc i) j (row ∷ rows) (r ∷ exact) a z h k = (h.0, rows_set i j rows exact a z h.1 k)

-- an entry set to itself
row_kept : (j : ℕ) (r : List Complex) (z : Complex) → slice_get r j ≡ Some z → slice_set r j z ≡ r
row_kept j [] z e = absurd cc
row_kept zero (y ∷ r) z e = let q : y ≡ z = cc in ap (λ t. t ∷ r) (sym q)
row_kept (suc j) (y ∷ r) z e = ap (λ t. y ∷ t) (row_kept j r z e)

rows_kept : (i j : ℕ) (exact : List (List Complex)) (z : Complex) → entry exact i j ≡ Some z → set_entry exact i j z ≡ exact
rows_kept i j [] z e = absurd cc
rows_kept zero j (r ∷ exact) z e = ap (λ t. t ∷ exact) (row_kept j r z e)
rows_kept (suc i) j (r ∷ exact) z e = ap (λ t. r ∷ t) (rows_kept i j exact z e)

-- the entries with the part of one more shunt at node k
module _ (network : Network) (k : ℕ) (e : Ratio) (h : Order) (parts : List Part) where
  abbrev w : Complex
  w = shunt_admittance e h

  abbrev all_parts : List Part
  all_parts = parts ++ Alone (shunt_at k e) w ∷ []

  abbrev RowOf : List Part → ℕ → List ℕ → List Complex → Type 0
  RowOf ps m nodes row = AllZip (λ m' entry. entry ≅ nodal_entry ps m m') nodes row

  plain_entry : (m m' : ℕ) (z : Complex) → one_at k m ≅ nought → z ≅ nodal_entry parts m m' → z ≅ nodal_entry all_parts m m'
  plain_entry m m' z none is =
      step z _ _ (one_at k m) (one_at k m') w none is (entry-more network k e h parts m m')
    where
      step : (z n n' o o' w : Complex) → o ≅ nought → z ≅ n → n' ≅ (n ⊕ o ⊗ (w ⊗ o')) → z ≅ n'
      step z n n' o o' w p q r = linear R (z ∷ n ∷ n' ∷ o ∷ o' ∷ w ∷ []) (join R (weigh R unit q) (join R (weigh R (complex_numbers.minus unit) r) (weigh R (complex_numbers.minus (w ⊗ o')) p))) (search reads depth 60 fits 20000) none_left

  plain_column : (m m' : ℕ) (z : Complex) → one_at k m' ≅ nought → z ≅ nodal_entry parts m m' → z ≅ nodal_entry all_parts m m'
  plain_column m m' z none is =
      step z _ _ (one_at k m) (one_at k m') w none is (entry-more network k e h parts m m')
    where
      step : (z n n' o o' w : Complex) → o' ≅ nought → z ≅ n → n' ≅ (n ⊕ o ⊗ (w ⊗ o')) → z ≅ n'
      step z n n' o o' w p q r = linear R (z ∷ n ∷ n' ∷ o ∷ o' ∷ w ∷ []) (join R (weigh R unit q) (join R (weigh R (complex_numbers.minus unit) r) (weigh R (complex_numbers.minus (o ⊗ w)) p))) (search reads depth 60 fits 20000) none_left

  last_entry : (m m' : ℕ) (z : Complex) → k ≡ m → k ≡ m' → z ≅ nodal_entry parts m m' → complex_plus z w ≅ nodal_entry all_parts m m'
  last_entry m m' z p q is =
      step z _ _ (one_at k m) (one_at k m') w (subst (λ i. one_at k i ≅ unit) p (one_at-same k)) (subst (λ i. one_at k i ≅ unit) q (one_at-same k)) is (entry-more network k e h parts m m')
    where
      step : (z n n' o o' w : Complex) → o ≅ unit → o' ≅ unit → z ≅ n → n' ≅ (n ⊕ o ⊗ (w ⊗ o')) → (z ⊕ w) ≅ n'
      step z n n' o o' w p p' q r =
          linear R (z ∷ n ∷ n' ∷ o ∷ o' ∷ w ∷ []) (join R (weigh R unit q) (join R (weigh R (complex_numbers.minus unit) r) (join R (weigh R (complex_numbers.minus (w ⊗ o')) p) (weigh R (complex_numbers.minus w) p')))) (search reads depth 60 fits 20000) none_left

  plain_row : (m : ℕ) (nodes : List ℕ) (row : List Complex) → ¬ (k ≡ m) → RowOf parts m nodes row → RowOf all_parts m nodes row
  plain_row m [] [] a h = tt
  plain_row m [] (z ∷ row) a h = absurd h
  plain_row m (j ∷ nodes) [] a h = absurd h
  plain_row m (j ∷ nodes) (z ∷ row) a h = (plain_entry m j z (one_at-apart k m a) h.0, plain_row m nodes row a h.1)

  other_columns : (m : ℕ) (nodes : List ℕ) (row : List Complex) → AllByRecursion (λ j. k ≢ j) nodes → RowOf parts m nodes row → RowOf all_parts m nodes row
  other_columns m [] [] a h = tt
  other_columns m [] (z ∷ row) a h = absurd h
  other_columns m (j ∷ nodes) [] a h = absurd h
  other_columns m (j ∷ nodes) (z ∷ row) a h = (plain_column m j z (one_at-apart k j a.0) h.0, other_columns m nodes row a.1 h.1)

  last_row : (m n : ℕ) (nodes : List ℕ) (row : List Complex) (z : Complex) → k ≡ m → IsDistinct nodes → n < length nodes → get_or nodes n 0 ≡ k → slice_get row n ≡ Some z → RowOf parts m nodes row → RowOf all_parts m nodes (slice_set row n (complex_plus z w))
  last_row m n [] row z p d l g is h = absurd (omega arith)
  last_row m n (j ∷ nodes) [] z p d l g is h = absurd h
  last_row m zero (j ∷ nodes) (y ∷ row) z p d l g is h =
      let q : y ≡ z = cc in
      (last_entry m j z p (sym g) (subst (λ t. t ≅ nodal_entry parts m j) q h.0), other_columns m nodes row (subst (λ i. AllByRecursion (λ c. i ≢ c) nodes) g d.0) h.1)
  last_row m (suc n) (j ∷ nodes) (y ∷ row) z p d l g is h =
      (plain_column m j y (one_at-apart k j (λ q. later j n nodes d.0 (omega arith) (g ∙ q))) h.0, last_row m n nodes row z p d.1 (omega arith) g is h.1)

  abbrev RowsOf : List Part → List ℕ → List ℕ → List (List Complex) → Type 0
  RowsOf ps columns nodes rows = AllZip (λ m row. RowOf ps m columns row) nodes rows

  other_rows : (columns nodes : List ℕ) (rows : List (List Complex)) → AllByRecursion (λ j. k ≢ j) nodes → RowsOf parts columns nodes rows → RowsOf all_parts columns nodes rows
  other_rows columns [] [] a h = tt
  other_rows columns [] (r ∷ rows) a h = absurd h
  other_rows columns (m ∷ nodes) [] a h = absurd h
  other_rows columns (m ∷ nodes) (r ∷ rows) a h = (plain_row m columns r a.0 h.0, other_rows columns nodes rows a.1 h.1)

  all_rows : (columns : List ℕ) (n : ℕ) (nodes : List ℕ) (i : ℕ) (rows : List (List Complex)) (z : Complex) → IsDistinct columns → n < length columns → get_or columns n 0 ≡ k → IsDistinct nodes → i < length nodes → get_or nodes i 0 ≡ k
      → entry rows i n ≡ Some z → RowsOf parts columns nodes rows → RowsOf all_parts columns nodes (set_entry rows i n (complex_plus z w))
  all_rows columns n [] i rows z dc lc gc d l g is h = absurd (omega arith)
  all_rows columns n (m ∷ nodes) i [] z dc lc gc d l g is h = absurd h
  all_rows columns n (m ∷ nodes) zero (r ∷ rows) z dc lc gc d l g is h =
      (last_row m n columns r z (sym g) dc lc gc is h.0, other_rows columns nodes rows (subst (λ i. AllByRecursion (λ c. i ≢ c) nodes) g d.0) h.1)
  all_rows columns n (m ∷ nodes) (suc i) (r ∷ rows) z dc lc gc d l g is h =
      (plain_row m columns r (λ q. later m i nodes d.0 (omega arith) (g ∙ q)) h.0, all_rows columns n nodes i rows z dc lc gc d.1 (omega arith) g is h.1)

-- the rows with the interval of the extra susceptance hold the nodal matrix of the scanned network
module _ (s lo hi : ℕ) (e : Ratio) (natural : pos 0 ≤ℤ e.num) (network : Network) (driven : ℕ) (ordering : List ℕ) (h : Order) (is_order : IsOrder h) (inside : LiesIn h (orders lo hi)) (rows : List (List Rectangle)) (has : HoldsNodal s network h driven ordering rows) where
  abbrev n : ℕ
  n = has.n

  below : n < length ordering
  below = let count = has.last.count in omega (arith, count)

  extra_holds : (more : List (List Rectangle)) → with_last s (range_ends s e e) lo hi rows ≡ Some more → HoldsNodal s (scanned_network network driven e) h driven ordering more
  extra_holds more made =
      let square = nodal_square network h has.parts ordering has.rows has.system in
      let count : length rows ≡ length ordering = same_length _ rows has.rows has.held ∙ square.count in
      let last : length rows - 1 ≡ n = omega (arith, count, has.last.count) in
      let made' : (entry rows n n >>= (λ y. with_extra s (range_ends s e e) lo hi y >>= (λ sum. Some (set_entry rows n n sum)))) ≡ Some more =
      subst (λ k. (entry rows k k >>= (λ y. with_extra s (range_ends s e e) lo hi y >>= (λ sum. Some (set_entry rows k k sum)))) ≡ Some more) last made in
      let (y, is_y, rest) = bind-some _ _ more made' in
      let (sum, is_sum, set) = bind-some _ _ more rest in
      let there = entry_at s n n rows has.rows y has.held is_y in
      let same_rows : set_entry rows n n sum ≡ more = cc in
      subst (λ m. HoldsNodal s (scanned_network network driven e) h driven ordering m) same_rows
      (by (int_lt (pos 0) e.num) refl y sum there (extra_held s lo hi e y sum there.number h is_order inside is_sum there.held))
    where
      by : (t : Bool) → int_lt (pos 0) e.num ≡ t → (y sum : Rectangle) → (there : HoldsAt s y (entry has.rows n n)) → EnclosesComplex s sum (complex_plus there.number (shunt_admittance e h))
          → HoldsNodal s (if t then with_shunt network driven e else network) h driven ordering (set_entry rows n n sum)
      by true some y sum there held =
          let exact = set_entry has.rows n n (complex_plus there.number (shunt_admittance e h)) in
          record {
            parts = has.parts ++ Alone (shunt_at driven e) (shunt_admittance e h) ∷ [];
            rows = exact;
            n = n;
            system = shunted_system network h driven e has.parts ordering has.rows exact n has.system has.last
                (all_rows network driven e h has.parts ordering n ordering n has.rows there.number has.system.listed.distinct below has.last.last has.system.listed.distinct below has.last.last there.is has.system.entries);
            last = has.last;
            held = rows_set s n n rows has.rows sum _ has.held held;
          }
      by false none y sum there held =
          let nothing : e ≈ whole (pos 0) = num_nought e (not_above e.num natural none) in
          let kept = rows_set s n n rows has.rows sum there.number has.held (held_without s e h there.number sum nothing held) in
          record {
            parts = has.parts;
            rows = has.rows;
            n = n;
            system = has.system;
            last = has.last;
            held = subst (λ r. HoldsRows (EnclosesComplex s) (set_entry rows n n sum) r) (rows_kept n n has.rows there.number there.is) kept;
          }

pub pair_encloses : (s from : ℕ) (low high : Network) (driven : ℕ) (ordering : List ℕ) (e : Ratio) → CanAssemble low high driven ordering → pos 0 ≤ℤ e.num
    → (network : Network) → LiesBetween network low high → EnclosesImpedance s from (pair_enclosure s low high ordering e) (scanned_network network driven e) driven
unfolding pair_enclosure
pair_encloses s from low high driven ordering e can natural network between = record {
  at_each = λ lo hi re im error h testable enclosed is_order inside.
      let (more, is_more, close) = rows_some (pair_rows s low high ordering lo hi >>= with_last s (range_ends s e e) lo hi) re im error enclosed in
      let (rows, is_rows, made) = bind-some _ _ more is_more in
      let has = box_matrix_holds s low high driven ordering can lo hi rows (ok_some _ _ is_rows) h is_order inside network between in
      near_of s (scanned_network network driven e) h driven ordering more re im error (extra_holds s lo hi e natural network driven ordering h is_order inside rows has more made) close;
}
  where
    rows_some : (o : Option (List (List Rectangle))) (re im : ℤ) (error : ℕ) → last_enclosure s o ≡ Enclosed re im error → (rows : List (List Rectangle)) × (o ≡ Some rows) × (enclosure s (length rows - 1) rows ≡ Enclosed re im error)
    rows_some None re im error e = absurd cc
    rows_some (Some rows) re im error e = (rows, refl, e)
