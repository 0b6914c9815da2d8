-- Rectangles that hold a matrix, entry by entry, and one of them changed.
use Rattle.std.proofs.Common.{◌≡◌, ◌≢◌, ℕ, zero, suc, Bool, true, false, List, [], ◌∷◌, length, refl, sym, subst, ap, arith, Option, ◌⊎◌, inl, inr}
use Rattle.std.specs.Prelude.{Some, None, ◌==◌, replicate, slice_get, slice_set, if◌then◌else◌}
use Rattle.std.specs.List.{AllZip, AllByRecursion}
use Rattle.std.specs.Option.{option_map}
use Rattle.network_theory.specs.Nodal.{IsDistinct}
use Rattle.plain_elimination.specs.Matrix.{entry, set_entry}
use Rattle.admittance_box.specs.Places.{place_of}
use Rattle.admittance_box.proofs.LivePairs.{zip_map}

-- a fact of each node and the item at its place
abbrev pub AtNodes : {X : Type 0} → (ℕ → X → Type 0) → List ℕ → List X → Type 0
AtNodes P ordering xs = AllZip P ordering xs

-- a fact of each two nodes and the entry at their places
abbrev pub AtEntries : {X : Type 0} → (ℕ → ℕ → X → Type 0) → List ℕ → List ℕ → List (List X) → Type 0
AtEntries P nodes ordering rows = AllZip (λ n row. AllZip (P n) ordering row) nodes rows

-- ---- one item
others : {X : Type 0} (P Q : ℕ → X → Type 0) (n : ℕ) → ((m : ℕ) (z : X) → m ≢ n → P m z → Q m z) → (ordering : List ℕ) (xs : List X) → AllByRecursion (λ m. n ≢ m) ordering → AllZip P ordering xs → AllZip Q ordering xs
others P Q n h [] [] a z = tt
others P Q n h [] (x ∷ xs) a z = absurd z
others P Q n h (m ∷ ordering) [] a z = absurd z
others P Q n h (m ∷ ordering) (x ∷ xs) a z = (h m x (λ e. a.0 (sym e)) z.0, others P Q n h ordering xs a.1 z.1)

pub some_suc : (o : Option ℕ) (i : ℕ) → option_map suc o ≡ Some i → (j : ℕ) × (o ≡ Some j) × (suc j ≡ i)
some_suc (Some j) i e = (j, refl, grind arith)
some_suc None i e = absurd cc

module _ {X : Type 0} (P Q : ℕ → X → Type 0) (n : ℕ) (y : X) (elsewhere : (m : ℕ) (z : X) → m ≢ n → P m z → Q m z) where
  -- the item at a node's place, which has the one fact there, and its new value with the other
  pub item_set : (ordering : List ℕ) (xs : List X) (i : ℕ) (x : X) → IsDistinct ordering → place_of ordering n ≡ Some i → slice_get xs i ≡ Some x → AllZip P ordering xs → (P n x → Q n y) → AllZip Q ordering (slice_set xs i y)
  item_set [] xs i x d p g z f = absurd cc
  item_set (m ∷ ordering) [] i x d p g z f = absurd z
  item_set (m ∷ ordering) (w ∷ xs) i x d p g z f =
      go (m == n) refl p (λ j p' g'. item_set ordering xs j x d.1 p' g' z.1 f)
    where
      go : (t : Bool) → (m == n) ≡ t → (if t then Some 0 else option_map suc (place_of ordering n)) ≡ Some i
          → ((j : ℕ) → place_of ordering n ≡ Some j → slice_get xs j ≡ Some x → AllZip Q ordering (slice_set xs j y)) → AllZip Q (m ∷ ordering) (slice_set (w ∷ xs) i y)
      go true e q more =
          let at : m ≡ n = grind arith in
          let zero_place : 0 ≡ i = grind arith in
          subst (λ k. AllZip Q (m ∷ ordering) (slice_set (w ∷ xs) k y)) zero_place (first (subst (λ k. slice_get (w ∷ xs) k ≡ Some x) (sym zero_place) g) at)
        where
          first : slice_get (w ∷ xs) 0 ≡ Some x → m ≡ n → AllZip Q (m ∷ ordering) (y ∷ xs)
          first h at =
              let same : w ≡ x = grind arith in
              let now : P n x = subst (λ k. P k x) at (subst (P m) same z.0) in
              (subst (λ k. Q k y) (sym at) (f now), others P Q n elsewhere ordering xs (subst (λ k. AllByRecursion (λ j. k ≢ j) ordering) at d.0) z.1)
      go false e q more =
          let apart : m ≢ n = grind arith in
          let (j, pj, is) = some_suc (place_of ordering n) i q in
          subst (λ k. AllZip Q (m ∷ ordering) (slice_set (w ∷ xs) k y)) is (elsewhere m w apart z.0, more j pj (subst (λ k. slice_get (w ∷ xs) k ≡ Some x) (sym is) g))

-- the item at a node's place has the fact
pub item_at : {X : Type 0} (P : ℕ → X → Type 0) (n : ℕ) (ordering : List ℕ) (xs : List X) (i : ℕ) (x : X) → place_of ordering n ≡ Some i → slice_get xs i ≡ Some x → AllZip P ordering xs → P n x
item_at P n [] xs i x p g z = absurd cc
item_at P n (m ∷ ordering) [] i x p g z = absurd z
item_at {X} P n (m ∷ ordering) (w ∷ xs) i x p g z = go (m == n) refl p (λ j p' g'. item_at P n ordering xs j x p' g' z.1)
  where
    go : (t : Bool) → (m == n) ≡ t → (if t then Some 0 else option_map suc (place_of ordering n)) ≡ Some i → ((j : ℕ) → place_of ordering n ≡ Some j → slice_get xs j ≡ Some x → P n x) → P n x
    go true e q more =
        let at : m ≡ n = grind arith in
        let zero_place : 0 ≡ i = grind arith in
        first (subst (λ k. slice_get (w ∷ xs) k ≡ Some x) (sym zero_place) g) at
      where
        first : slice_get (w ∷ xs) 0 ≡ Some x → m ≡ n → P n x
        first h at = let same : w ≡ x = grind arith in subst (λ k. P k x) at (subst (P m) same z.0)
    go false e q more =
        let (j, pj, is) = some_suc (place_of ordering n) i q in
        more j pj (subst (λ k. slice_get (w ∷ xs) k ≡ Some x) (sym is) g)

-- ---- one entry
-- an entry lies in a row
pub entry_row : {X : Type 0} (rows : List (List X)) (i j : ℕ) (x y : X) → entry rows i j ≡ Some x → (row : List X) × (slice_get rows i ≡ Some row) × (slice_get row j ≡ Some x) × (set_entry rows i j y ≡ slice_set rows i (slice_set row j y))
entry_row [] i j x y e = absurd cc
entry_row (r ∷ rows) zero j x y e = (r, refl, e, refl)
entry_row (r ∷ rows) (suc i) j x y e = let (row, a, b, c) = entry_row rows i j x y e in (row, a, b, ap (λ rs. r ∷ rs) c)

-- the entry of two nodes, which has the one fact there, and its new value with the other
pub entry_set : {X : Type 0} (P Q : ℕ → ℕ → X → Type 0) (n k : ℕ) (nodes ordering : List ℕ) (rows : List (List X)) (i j : ℕ) (x y : X) → IsDistinct nodes → IsDistinct ordering
    → place_of nodes n ≡ Some i → place_of ordering k ≡ Some j → entry rows i j ≡ Some x
    → ((m l : ℕ) (z : X) → ((m ≢ n) ⊎ (l ≢ k)) → P m l z → Q m l z) → (P n k x → Q n k y)
    → AtEntries P nodes ordering rows → AtEntries Q nodes ordering (set_entry rows i j y)
entry_set P Q n k nodes ordering rows i j x y d d' p p' e elsewhere f z =
    let (row, a, b, c) = entry_row rows i j x y e in
    let in_row = λ (h : AllZip (P n) ordering row). item_set (P n) (Q n) k y (λ m w ne. elsewhere n m w (inr ne)) ordering row j x d' p' b h f in
    let whole : (m : ℕ) (r : List _) → m ≢ n → AllZip (P m) ordering r → AllZip (Q m) ordering r = λ m r ne. zip_map (P m) (Q m) (λ l w. elsewhere m l w (inl ne)) ordering r in
    subst (λ rs. AtEntries Q nodes ordering rs) (sym c)
    (item_set (λ m r. AllZip (P m) ordering r) (λ m r. AllZip (Q m) ordering r) n (slice_set row j y) whole nodes rows i row d p a z in_row)

-- the entry of two nodes has the fact
pub entry_at : {X : Type 0} (P : ℕ → ℕ → X → Type 0) (n k : ℕ) (nodes ordering : List ℕ) (rows : List (List X)) (i j : ℕ) (x : X) → place_of nodes n ≡ Some i → place_of ordering k ≡ Some j → entry rows i j ≡ Some x
    → AtEntries P nodes ordering rows → P n k x
entry_at P n k nodes ordering rows i j x p p' e z =
    let (row, a, b, c) = entry_row rows i j x x e in
    item_at (P n) k ordering row j x p' b (item_at (λ m r. AllZip (P m) ordering r) n nodes rows i row p a z)

-- ---- all entries
pub entries_map : {X : Type 0} (P Q : ℕ → ℕ → X → Type 0) → ((n k : ℕ) (x : X) → P n k x → Q n k x) → (nodes ordering : List ℕ) (rows : List (List X)) → AtEntries P nodes ordering rows → AtEntries Q nodes ordering rows
entries_map P Q f nodes ordering rows = zip_map (λ n row. AllZip (P n) ordering row) (λ n row. AllZip (Q n) ordering row) (λ n row. zip_map (P n) (Q n) (f n) ordering row) nodes rows

all_same : {X : Type 0} (P : ℕ → X → Type 0) (x : X) → ((n : ℕ) → P n x) → (ordering : List ℕ) → AllZip P ordering (replicate (length ordering) x)
all_same P x h [] = tt
all_same P x h (n ∷ ordering) = (h n, all_same P x h ordering)

-- every entry is x
pub entries_same : {X : Type 0} (P : ℕ → ℕ → X → Type 0) (x : X) → ((n k : ℕ) → P n k x) → (ordering : List ℕ) → AtEntries P ordering ordering (replicate (length ordering) (replicate (length ordering) x))
entries_same P x h ordering = all_same (λ n row. AllZip (P n) ordering row) (replicate (length ordering) x) (λ n. all_same (P n) x (h n) ordering) ordering
