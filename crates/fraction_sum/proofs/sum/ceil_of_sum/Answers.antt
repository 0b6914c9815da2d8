use Rattle.std.proofs.Common.{w64, ◌≡◌, ◌-ℤ◌, pos, to_z, of_z, arith}
use Rattle.std.specs.Prelude.{neg_ℤ}
use Rattle.std.proofs.lemmas.Int.{ints}
use Rattle.exact_fraction.specs.Fraction.{ratio_of}
use Rattle.exact_fraction.specs.Scaled.{floor_scaled_of}
use Rattle.exact_fraction.proofs.Steps.{opposite_end, end_bound}
use Rattle.fraction_sum.proofs.Sums.{sum, ceil_sum, opposite_none}
use Rattle.fraction_sum.proofs.sum.ceil_of_sum.Goals as goal

pub overflow_sub-result : goal.overflow_sub-result
overflow_sub-result c =
    let first = c.requires.first in
    let second = c.requires.second in
    let j : to_z w64 (of_z w64 (pos 0 -ℤ to_z w64 (of_z w64 c.args.j))) ≡ neg_ℤ c.args.j = omega (arith, ints) in
    let k : to_z w64 (of_z w64 (pos 0 -ℤ to_z w64 (of_z w64 c.args.k))) ≡ neg_ℤ c.args.k = omega (arith, ints) in
    let z = floor_scaled_of (sum (ratio_of c.args.x) (ratio_of c.args.y) (neg_ℤ c.args.j) (neg_ℤ c.args.k)) c.args.s in
    let made = rw (j, k) at c.in-Some.ensures in
    let bound = end_bound c.in-Some.end z made in
    omega (arith, ints)

pub returns-in-Some : goal.returns-in-Some
returns-in-Some c =
    let x = ratio_of c.args.x in
    let y = ratio_of c.args.y in
    let first = c.requires.first in
    let second = c.requires.second in
    let j : to_z w64 (of_z w64 (pos 0 -ℤ to_z w64 (of_z w64 c.args.j))) ≡ neg_ℤ c.args.j = omega (arith, ints) in
    let k : to_z w64 (of_z w64 (pos 0 -ℤ to_z w64 (of_z w64 c.args.k))) ≡ neg_ℤ c.args.k = omega (arith, ints) in
    let z = floor_scaled_of (sum x y (neg_ℤ c.args.j) (neg_ℤ c.args.k)) c.args.s in
    let made = rw (j, k) at c.in-Some.ensures in
    let bound = end_bound c.in-Some.end z made in
    let out : to_z w64 (of_z w64 (pos 0 -ℤ to_z w64 (of_z w64 c.in-Some.end))) ≡ neg_ℤ c.in-Some.end = omega (arith, ints) in
    rw (out, ceil_sum x y c.args.j c.args.k c.args.s) (opposite_end c.in-Some.end z made)

pub returns-in-None : goal.returns-in-None
returns-in-None c =
    let x = ratio_of c.args.x in
    let y = ratio_of c.args.y in
    let first = c.requires.first in
    let second = c.requires.second in
    let j : to_z w64 (of_z w64 (pos 0 -ℤ to_z w64 (of_z w64 c.args.j))) ≡ neg_ℤ c.args.j = omega (arith, ints) in
    let k : to_z w64 (of_z w64 (pos 0 -ℤ to_z w64 (of_z w64 c.args.k))) ≡ neg_ℤ c.args.k = omega (arith, ints) in
    let z = floor_scaled_of (sum x y (neg_ℤ c.args.j) (neg_ℤ c.args.k)) c.args.s in
    let made = rw (j, k) at c.in-None.ensures in
    rw (ceil_sum x y c.args.j c.args.k c.args.s) (opposite_none z made)
