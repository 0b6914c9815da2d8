-- The spots of a pattern are inside its square.
use Rattle.std.proofs.Common.{◌≡◌, ℕ, zero, suc, ◌<◌, List, [], ◌∷◌, ◌++◌, length, refl, arith}
use Rattle.std.specs.Prelude.{Option, Some, None}
use Rattle.std.proofs.lemmas.List.Elements.{All-append}
use Rattle.network_theory.specs.Branch.{Tap, Branch}
use Rattle.plain_elimination.specs.Pattern.{AreInside}
use Rattle.plain_elimination.specs.declared.pattern.Spot.{Spot}
use Rattle.admittance_box.specs.Addends.{place_in_group}
use Rattle.admittance_box.specs.Pattern.{spot_at, spots_with, tap_spots, row_spots, first_spots, branch_spots}
use Rattle.admittance_box.specs.Places.{place_of}
use Rattle.admittance_box.proofs.PairPlaces.{place-below}

module _ (ordering : List ℕ) where
  abbrev IsIn : Spot → Type 0
  IsIn s = (s.row < length ordering) × (s.column < length ordering)

  none_inside : AreInside (length ordering) []
  none_inside i d l = absurd (omega arith)

  one_inside : (s : Spot) → IsIn s → AreInside (length ordering) (s ∷ [])
  one_inside s h zero d l = h
  one_inside s h (suc i) d l = absurd (omega arith)

  spot_inside : (n m : ℕ) → AreInside (length ordering) (spot_at (place_of ordering n) (place_of ordering m))
  spot_inside n m = by (place_of ordering n) (place_of ordering m) refl refl
    where
      by : (row column : Option ℕ) → place_of ordering n ≡ row → place_of ordering m ≡ column → AreInside (length ordering) (spot_at row column)
      by (Some row) (Some column) e k = one_inside (record { row = row; column = column }) (place-below ordering n row e, place-below ordering m column k)
      by (Some row) None e k = none_inside
      by None column e k = none_inside

  with_inside : (n : ℕ) (us : List Tap) → AreInside (length ordering) (spots_with ordering (place_of ordering n) us)
  with_inside n [] = none_inside
  with_inside n (u ∷ us) = All-append IsIn (spot_at (place_of ordering n) (place_of ordering u.node)) (spots_with ordering (place_of ordering n) us) (spot_inside n u.node) (with_inside n us)

  taps_inside : (ts us : List Tap) → AreInside (length ordering) (tap_spots ordering ts us)
  taps_inside [] us = none_inside
  taps_inside (t ∷ ts) us = All-append IsIn (spots_with ordering (place_of ordering t.node) us) (tap_spots ordering ts us) (with_inside t.node us) (taps_inside ts us)

  row_inside : (ts : List Tap) (a b c : Branch) → AreInside (length ordering) (row_spots ordering ts a b c)
  row_inside ts a b c =
      All-append IsIn (tap_spots ordering ts a.taps ++ tap_spots ordering ts b.taps) (tap_spots ordering ts c.taps)
      (All-append IsIn (tap_spots ordering ts a.taps) (tap_spots ordering ts b.taps) (taps_inside ts a.taps) (taps_inside ts b.taps)) (taps_inside ts c.taps)

  first_inside : (place : Option ℕ) (b : Branch) (bs : List Branch) → AreInside (length ordering) (first_spots ordering place b bs)
  first_inside None b bs = taps_inside b.taps b.taps
  first_inside (Some zero) a [] = none_inside
  first_inside (Some zero) a (b ∷ []) = none_inside
  first_inside (Some zero) a (b ∷ c ∷ bs) =
      All-append IsIn (row_spots ordering a.taps a b c ++ row_spots ordering b.taps a b c) (row_spots ordering c.taps a b c)
      (All-append IsIn (row_spots ordering a.taps a b c) (row_spots ordering b.taps a b c) (row_inside a.taps a b c) (row_inside b.taps a b c)) (row_inside c.taps a b c)
  first_inside (Some (suc place)) b bs = none_inside

  pub branches_inside : (bs : List Branch) → AreInside (length ordering) (branch_spots ordering bs)
  branches_inside [] = none_inside
  branches_inside (b ∷ bs) = All-append IsIn (first_spots ordering (place_in_group b.law) b bs) (branch_spots ordering bs) (first_inside (place_in_group b.law) b bs) (branches_inside bs)
