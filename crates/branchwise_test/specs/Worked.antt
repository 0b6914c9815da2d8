-- Networks of one and of two nodes at scale 40 and order 1, worked by hand.
use Rattle.std.specs.Prelude.{◌≡◌, ℕ, ℤ, pos, negsuc, true, ◌*ℤ◌, List, [], ◌∷◌, Option, Some, Result, Ok, Err}
use Rattle.complex_interval.specs.Ends.{Ends}
use Rattle.admittance_box.specs.Addends.{LawEnds, OfSeries, OfShunt, PlacedTap, tap_pairs}
use Rattle.admittance_box.specs.Exact.{zero_ends, one_ends}
use Rattle.admittance_box.specs.Orders.{order_ends}
use Rattle.admittance_box.specs.Steps.{◌>>=◌}
use Rattle.branchwise_test.specs.declared.fault.BranchwiseFault.{BranchwiseFault}
use Rattle.branchwise_test.specs.declared.fault.BranchwiseFault.TheVariants.{NoInverse, NotContracting}
use Rattle.branchwise_test.specs.Drops.{LiveBranch, node_drops}
use Rattle.branchwise_test.specs.Enclosed.{valued, Near, near_of}

-- the numbers from so many halves to so many
abbrev pub halves : ℤ → ℤ → Ends
halves low high = record { low = pos 549755813888 *ℤ low; high = pos 549755813888 *ℤ high }

-- a resistance of so many halves
abbrev pub resistance_of : ℤ → LawEnds
resistance_of r = OfSeries (record { r = halves r r; k = zero_ends; m = one_ends 40; x = zero_ends; xc = zero_ends; plain = true })

-- a susceptance from so many halves to so many
abbrev pub susceptance_of : ℤ → ℤ → LawEnds
susceptance_of low high = OfShunt (halves low high)

-- a tap with a whole ratio
abbrev pub tap_of : ℕ → ℤ → PlacedTap
tap_of place ratio = record { place = place; ratio = halves (ratio *ℤ pos 2) (ratio *ℤ pos 2) }

-- a branch, if the products of its ratios have values
abbrev pub branch_of : LawEnds → List PlacedTap → Option LiveBranch
branch_of law taps = tap_pairs 40 taps taps >>= (λ pairs. Some (record { law = law; taps = taps; pairs = pairs }))

-- of one node and one branch
abbrev pub of_one : Option LiveBranch → Result Near BranchwiseFault
of_one branch = valued (node_drops 40 0 1) (λ nodes. valued branch (λ b. near_of 40 (order_ends 40 1000000 1000000) nodes (b ∷ [])))

-- of two nodes, the second driven, and two branches
abbrev pub of_two : Option LiveBranch → Option LiveBranch → Result Near BranchwiseFault
of_two first second = valued (node_drops 40 0 2) (λ nodes. valued first (λ a. valued second (λ b. near_of 40 (order_ends 40 1000000 1000000) nodes (a ∷ b ∷ []))))

-- the real number of so many halves, with no error
abbrev pub exactly : ℤ → Result Near BranchwiseFault
exactly n = Ok (record { estimate = record { re = halves n n; im = zero_ends }; error = 0 })

pub record WorkedEstimates : Type 0 where
  -- a resistance of 2 to ground
  pub resistance : of_one (branch_of (resistance_of (pos 4)) (tap_of 0 (pos 1) ∷ [])) ≡ exactly (pos 4)
  -- a resistance of 2 behind a ratio of 2: its admittance counts four times
  pub behind_ratio : of_one (branch_of (resistance_of (pos 4)) (tap_of 0 (pos 2) ∷ [])) ≡ exactly (pos 1)
  -- a resistance of 1 to ground at the first node, and one of 1 from there to the second: 2 at the second
  pub in_series : of_two (branch_of (resistance_of (pos 2)) (tap_of 0 (pos 1) ∷ [])) (branch_of (resistance_of (pos 2)) (tap_of 0 (pos 1) ∷ tap_of 1 (negsuc 0) ∷ [])) ≡ exactly (pos 4)
  -- a susceptance from 1 to 3, of the middle 2 with the inverse -j/2 and the rest from -j to j: the column 1/2 reaches 1/4, so the weight is 1/4 + 2^-22 + 2^-24, and what it reaches is half of it.
  -- So theta is 1/2, the error is the weight, and the estimate -j/2 + (1/4)(-j to j) holds -3j/4 to -j/4
  pub wide : of_one (branch_of (susceptance_of (pos 2) (pos 6)) (tap_of 0 (pos 1) ∷ []))
      ≡ Ok (record { estimate = record { re = zero_ends; im = record { low = negsuc 824633720831; high = negsuc 274877906943 } }; error = 274878234624 })
  -- one from 0 to 2: the rest is as great as the middle, so theta is 1
  pub too_wide : of_one (branch_of (susceptance_of (pos 0) (pos 4)) (tap_of 0 (pos 1) ∷ [])) ≡ Err (NotContracting 1099511627776)
  -- one of 0: no pivot
  pub no_pivot : of_one (branch_of (susceptance_of (pos 0) (pos 0)) (tap_of 0 (pos 1) ∷ [])) ≡ Err (NoInverse 1)
