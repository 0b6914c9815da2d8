-- The pairs of taps of a group, row by row.
use Rattle.std.proofs.Common.{◌≡◌, ℕ, List, refl, subst, Option}
use Rattle.std.specs.Prelude.{Some, None, slice_get}
use Rattle.complex_interval.specs.Rectangles.{Rectangle}
use Rattle.admittance_box.specs.Addends.{PlacedTap, PairRow, PairRows, tap_pairs, pair_row, pair_rows}
use Rattle.admittance_box.specs.BoxMatrix.{with_pairs, with_pair_row}
use Rattle.admittance_box.specs.Coupling.{Columns}
use Rattle.admittance_box.specs.Steps.{◌>>=◌}
use Rattle.admittance_box.proofs.Steps.{bind-some}

pub row_pairs : (s : ℕ) (taps xs bs cs : List PlacedTap) (row : PairRow) → pair_row s taps xs bs cs ≡ Some row → (tap_pairs s taps xs ≡ Some row.first) × (tap_pairs s taps bs ≡ Some row.second) × (tap_pairs s taps cs ≡ Some row.third)
row_pairs s taps xs bs cs row e =
    let (first, e1, n1) = bind-some _ _ row e in
    let (second, e2, n2) = bind-some _ _ row n1 in
    let (third, e3, n3) = bind-some _ _ row n2 in
    let is : record { first = first; second = second; third = third } ≡ row = cc in
    subst (λ (r : PairRow). (tap_pairs s taps xs ≡ Some r.first) × (tap_pairs s taps bs ≡ Some r.second) × (tap_pairs s taps cs ≡ Some r.third)) is (e1, e2, e3)

pub rows_pairs : (s : ℕ) (xs bs cs : List PlacedTap) (rows : PairRows) → pair_rows s xs bs cs ≡ Some rows → (pair_row s xs xs bs cs ≡ Some rows.first) × (pair_row s bs xs bs cs ≡ Some rows.second) × (pair_row s cs xs bs cs ≡ Some rows.third)
rows_pairs s xs bs cs rows e =
    let (first, e1, n1) = bind-some _ _ rows e in
    let (second, e2, n2) = bind-some _ _ rows n1 in
    let (third, e3, n3) = bind-some _ _ rows n2 in
    let is : record { first = first; second = second; third = third } ≡ rows = cc in
    subst (λ (r : PairRows). (pair_row s xs xs bs cs ≡ Some r.first) × (pair_row s bs xs bs cs ≡ Some r.second) × (pair_row s cs xs bs cs ≡ Some r.third)) is (e1, e2, e3)

-- the steps that one branch of a group takes
pub record RowSteps (s : ℕ) (columns : Columns) (place : ℕ) (row : PairRow) (rows after : List (List Rectangle)) : Type 0 where
  pub a : Rectangle
  pub b : Rectangle
  pub c : Rectangle
  pub at_first : slice_get columns.first place ≡ Some a
  pub at_second : slice_get columns.second place ≡ Some b
  pub at_third : slice_get columns.third place ≡ Some c
  pub one : List (List Rectangle)
  pub two : List (List Rectangle)
  pub first : with_pairs s a row.first rows ≡ Some one
  pub second : with_pairs s b row.second one ≡ Some two
  pub third : with_pairs s c row.third two ≡ Some after

pub row_steps : (s : ℕ) (columns : Columns) (place : ℕ) (row : PairRow) (rows after : List (List Rectangle)) → with_pair_row s columns place row rows ≡ Some after → RowSteps s columns place row rows after
row_steps s columns place row rows after e = go (slice_get columns.first place) refl (slice_get columns.second place) refl (slice_get columns.third place) refl e
  where
    last : (a b c : Rectangle) → (with_pairs s a row.first rows >>= with_pairs s b row.second >>= with_pairs s c row.third) ≡ Some after
        → (one : List (List Rectangle)) × (two : List (List Rectangle)) × (with_pairs s a row.first rows ≡ Some one) × (with_pairs s b row.second one ≡ Some two) × (with_pairs s c row.third two ≡ Some after)
    last a b c k =
        let (two, k2, k3) = bind-some (with_pairs s a row.first rows >>= with_pairs s b row.second) (with_pairs s c row.third) after k in
        let (one, k0, k1) = bind-some (with_pairs s a row.first rows) (with_pairs s b row.second) two k2 in
        (one, two, k0, k1, k3)

    go : (x : Option Rectangle) → slice_get columns.first place ≡ x → (y : Option Rectangle) → slice_get columns.second place ≡ y → (z : Option Rectangle) → slice_get columns.third place ≡ z
        → (x >>= (λ a. y >>= (λ b. z >>= (λ c. with_pairs s a row.first rows >>= with_pairs s b row.second >>= with_pairs s c row.third)))) ≡ Some after → RowSteps s columns place row rows after
    go None ex y ey z ez k = absurd cc
    go (Some a) ex None ey z ez k = absurd cc
    go (Some a) ex (Some b) ey None ez k = absurd cc
    go (Some a) ex (Some b) ey (Some c) ez k =
        let (one, two, k0, k1, k3) = last a b c k in
        record { a = a; b = b; c = c; at_first = ex; at_second = ey; at_third = ez; one = one; two = two; first = k0; second = k1; third = k3 }
