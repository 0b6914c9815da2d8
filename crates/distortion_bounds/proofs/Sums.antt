-- Squares of rectangles, and sums of squares.
use Rattle.std.proofs.Common.{◌≡◌, ◌∙◌, ℕ, ◌+◌, ◌^◌, ◌≤◌, Bool, true, false, List, [], ◌∷◌, sym, ap, arith, pos, Option}
use Rattle.std.specs.Prelude.{Some, None, IfSome, sum_by, fold, min, max, nat_lt, unsigned_abs, if◌then◌else◌}
use Rattle.std.specs.List.{AllZip}
use Rattle.std.proofs.lemmas.Int.{ints}
use Rattle.std.proofs.lemmas.Nat.{mul-le, pow-add}
use Rattle.exact_algebra.specs.Ratio.{Ratio, Holds, den, whole, plus}
use Rattle.exact_algebra.proofs.Holding.{add_holds}
use Rattle.complex_interval.specs.Ends.{Ends, AreEnds, mig_of, mag_of, zero_between}
use Rattle.complex_interval.specs.Rectangles.{Rectangle}
use Rattle.complex_interval.proofs.Sizes.{four}
use Rattle.distortion_bounds.specs.declared.squares.Squares.{Squares}
use Rattle.distortion_bounds.specs.Squares.{squares_of, HoldsSquare, AreSquares}
use Rattle.distortion_bounds.specs.Totals.{total_of, sum_of, HoldsTotal}

-- ---- squares of a rectangle
mig_at_most : (a : Ends) → mig_of a ≤ mag_of a
mig_at_most a = go (zero_between a)
  where
    go : (t : Bool) → (if t then 0 else min (unsigned_abs a.low) (unsigned_abs a.high)) ≤ max (unsigned_abs a.low) (unsigned_abs a.high)
    go true = omega arith
    go false = omega arith

mag_fits : (a : Ends) → AreEnds a → mag_of a ≤ 2 ^ 62
mag_fits a h = let l = h.low_fits in let k = h.high_fits in omega (arith, l, k)

pub squares_fit : (a : Rectangle) → AreEnds a.re → AreEnds a.im → AreSquares (squares_of a)
squares_fit a p q =
    let re = mag_fits a.re p in
    let im = mag_fits a.im q in
    let low_re = mig_at_most a.re in
    let low_im = mig_at_most a.im in
    let first = mul-le _ _ _ _ low_re low_re in
    let second = mul-le _ _ _ _ low_im low_im in
    let third = mul-le _ _ _ _ re re in
    let fourth = mul-le _ _ _ _ im im in
    record { ordered = omega (arith, first, second); small = omega (arith, third, fourth) }

-- ---- sums
-- as intervals at twice the scale
as_holds : (s : ℕ) (q : Squares) (x : Ratio) → HoldsSquare s q x → Holds (pos q.lo) (pos q.hi) (s + s) x
as_holds s q x h =
    let e : pos (2 ^ (s + s)) ≡ pos (4 ^ s) = ap pos (pow-add 2 s s) ∙ sym (four s) in
    record { from = rw e h.low; to = rw e h.high }

as_squares : (s a b : ℕ) (x : Ratio) → Holds (pos a) (pos b) (s + s) x → HoldsSquare s (record { lo = a; hi = b }) x
as_squares s a b x h =
    let e : pos (4 ^ s) ≡ pos (2 ^ (s + s)) = four s ∙ sym (ap pos (pow-add 2 s s)) in
    record { low = rw e h.from; high = rw e h.to }

-- a sum, item by item
sum_from : (f : Squares → ℕ) (a : ℕ) (list : List Squares) → fold (λ b q. b + f q) a list ≡ a + sum_by f list
sum_from f a [] = omega arith
sum_from f a (q ∷ list) = let first = sum_from f (a + f q) list in let own = sum_from f (0 + f q) list in omega (arith, first, own)

sum_by-cons : (f : Squares → ℕ) (q : Squares) (list : List Squares) → sum_by f (q ∷ list) ≡ f q + sum_by f list
sum_by-cons f q list = sum_from f (0 + f q) list ∙ omega arith

pub sums_held : (s : ℕ) (list : List Squares) (xs : List Ratio) → AllZip (HoldsSquare s) list xs → HoldsSquare s (record { lo = sum_by (λ q. q.lo) list; hi = sum_by (λ q. q.hi) list }) (sum_of xs)
unfolding whole den
sums_held s [] [] h = record { low = omega (arith, ints); high = omega (arith, ints) }
sums_held s [] (x ∷ xs) h = absurd h
sums_held s (q ∷ list) [] h = absurd h
sums_held s (q ∷ list) (x ∷ xs) h =
    let more = sums_held s list xs h.1 in
    rw (sum_by-cons (λ r. r.lo) q list, sum_by-cons (λ r. r.hi) q list)
    (as_squares s (q.lo + sum_by (λ r. r.lo) list) (q.hi + sum_by (λ r. r.hi) list) (plus x (sum_of xs))
    (add_holds (pos q.lo) (pos q.hi) (pos (sum_by (λ r. r.lo) list)) (pos (sum_by (λ r. r.hi) list)) (s + s) x (sum_of xs) (as_holds s q x h.0) (as_holds s (record { lo = sum_by (λ r. r.lo) list; hi = sum_by (λ r. r.hi) list }) (sum_of xs) more)))

pub total_held : (list : List Squares) (o : Option Squares) → o ≡ total_of list → HoldsTotal list o
total_held list o e s xs h = go (nat_lt (sum_by (λ q. q.hi) list) (2 ^ 125)) o e
  where
    go : (t : Bool) (o : Option Squares) → o ≡ (if t then Some (record { lo = sum_by (λ q. q.lo) list; hi = sum_by (λ q. q.hi) list }) else None) → IfSome o (λ q. HoldsSquare s q (sum_of xs))
    go true o f = rw f (sums_held s list xs h)
    go false o f = rw f tt

pub whole_total_held : (list : List Squares) (lo hi : ℕ) → lo ≡ sum_by (λ q. q.lo) list → hi ≡ sum_by (λ q. q.hi) list → HoldsTotal list (Some (record { lo = lo; hi = hi }))
whole_total_held list lo hi p q s xs h = rw (p, q) (sums_held s list xs h)
