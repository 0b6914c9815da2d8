-- The least size of a number of an estimate is below 2^63: the ends of the estimate are in range.
use Rattle.std.proofs.Common.{◌≡◌, ℕ, ◌+◌, ◌^◌, ◌≤◌, ◌<◌, ◌-◌, ◌*◌, ◌-ℤ◌, unsigned_abs, Bool, true, false, nat_le, List, length, slice_get, Option, Some, None, Result, Ok, Err, refl, subst, arith}
use Rattle.std.specs.Prelude.{if◌then◌else◌, ◌&&◌}
use Rattle.std.proofs.lemmas.Bool.Decides.{nat_tests}
use Rattle.exact_algebra.specs.Ratio.{Ratio}
use Rattle.complex_interval.specs.Ends.{Ends, is_end, sub_ends}
use Rattle.complex_interval.specs.Rectangles.{Rectangle, both_parts, sub_rectangles, low_square_sum}
use Rattle.network_theory.specs.Network.{Network}
use Rattle.plain_elimination.specs.Matrix.{nought_rectangle}
use Rattle.certified_inverse.specs.Certificate.{in_size, ceil_over}
use Rattle.middle_inverse.specs.Inverse.{middle_inverse}
use Rattle.middle_inverse.specs.declared.fault.InverseFault.{InverseFault}
use Rattle.middle_inverse.specs.declared.fault.InverseFault.TheVariants.{NoInverse as NoPivot, OutOfRange as NoValue}
use Rattle.admittance_box.specs.BoxMatrix.{nought_rows}
use Rattle.admittance_box.specs.Orders.{order_ends}
use Rattle.admittance_box.specs.Steps.{◌>>=◌}
use Rattle.branchwise_test.specs.Drops.{DropEnds, LiveBranch, node_drops, live_branches, with_extra_branch, with_branches, with_middles}
use Rattle.branchwise_test.specs.Reach.{Contraction}
use Rattle.branchwise_test.specs.Enclosed.{Near, Found, valued, correction, near_by, contracting, by_inverse, near_of_drops, near_of, impedance_near_with}
use Rattle.branchwise_test.specs.declared.fault.BranchwiseFault.{BranchwiseFault}
use Rattle.branchwise_test.specs.declared.fault.BranchwiseFault.TheVariants.{NotContracting}
use Rattle.band_subdivision.proofs.TestSteps.{low_square_fits}

both_true : (s t : Bool) (v a : Ends) → (if s && t then Some v else None) ≡ Some a → (s ≡ true) × (v ≡ a)
both_true true true v a h = (refl, cc)
both_true true false v a h = absurd cc
both_true false t v a h = absurd cc

le_true : (m n : ℕ) → nat_le m n ≡ true → m ≤ n
le_true m n h = grind (arith, nat_tests)

sub_fits : (a b r : Ends) → sub_ends a b ≡ Some r → unsigned_abs r.low ≤ 2 ^ 62
sub_fits a b r e =
    let parts = both_true (is_end (a.low -ℤ b.high)) (is_end (a.high -ℤ b.low)) _ r e in
    subst (λ (b : Ends). unsigned_abs b.low ≤ 2 ^ 62) parts.1 (le_true _ _ parts.0)

parts_fit : (p q : Option Ends) (r : Rectangle) → both_parts p q ≡ Some r → ((a : Ends) → p ≡ Some a → unsigned_abs a.low ≤ 2 ^ 62) → ((a : Ends) → q ≡ Some a → unsigned_abs a.low ≤ 2 ^ 62) → low_square_sum r < 2 ^ 126
parts_fit (Some a) (Some b) r e f g = let k : record { re = a; im = b } ≡ r = cc in subst (λ (z : Rectangle). low_square_sum z < 2 ^ 126) k (low_square_fits (record { re = a; im = b }) (f a refl) (g b refl))
parts_fit (Some a) None r e f g = absurd cc
parts_fit None q r e f g = absurd cc

less_fits : (a b r : Rectangle) → sub_rectangles a b ≡ Some r → low_square_sum r < 2 ^ 126
less_fits a b r e = parts_fit (sub_ends a.re b.re) (sub_ends a.im b.im) r e (λ x h. sub_fits a.re b.re x h) (λ x h. sub_fits a.im b.im x h)

-- the estimate, if there is one, is of such a size
abbrev pub Fits : Result Near BranchwiseFault → Type 0
Fits (Ok near) = low_square_sum near.estimate < 2 ^ 126
Fits (Err fault) = Unit {0}

valued_fits : {X : Type 0} (o : Option X) (f : X → Result Near BranchwiseFault) → ((x : X) → o ≡ Some x → Fits (f x)) → Fits (valued o f)
valued_fits None f h = tt
valued_fits (Some x) f h = h x refl

abbrev Kept : Option Near → Type 0
Kept (Some near) = low_square_sum near.estimate < 2 ^ 126
Kept None = Unit {0}

last_keeps : (a b : Rectangle) (error : ℕ) (o : Option Rectangle) → sub_rectangles a b ≡ o → Kept (o >>= (λ estimate. Some (record { estimate = estimate; error = error })))
last_keeps a b error None e = tt
last_keeps a b error (Some r) e = less_fits a b r e

-- an estimate by its error, the driven node's entry and the correction
abbrev made : Option ℕ → Option Rectangle → Option Rectangle → Option Near
made o p q = do
  error ← o
  value ← p
  sum ← q
  estimate ← sub_rectangles value sum
  Some (record { estimate = estimate; error = error })

made_keeps : (o : Option ℕ) (p q : Option Rectangle) → Kept (made o p q)
made_keeps None p q = tt
made_keeps (Some error) None q = tt
made_keeps (Some error) (Some value) None = tt
made_keeps (Some error) (Some value) (Some sum) = last_keeps value sum error (sub_rectangles value sum) refl

near_by_keeps : (s k : ℕ) (drops : List DropEnds) (vs : List (List Rectangle)) (column xs : List Rectangle) (c : Contraction) → Kept (near_by s k drops vs column xs c)
near_by_keeps s k drops vs column xs c = made_keeps (in_size (c.edge + ceil_over (c.last * 2 ^ s) (2 ^ s - c.theta))) (slice_get column k) (correction s k nought_rectangle drops vs xs)

kept_fits : (o : Option Near) → Kept o → Fits (valued o (λ near. Ok near))
kept_fits None h = tt
kept_fits (Some near) h = h

contracting_fits : (s k : ℕ) (drops : List DropEnds) (vs : List (List Rectangle)) (column xs : List Rectangle) (c : Contraction) → Fits (contracting s k drops vs column xs c)
contracting_fits s k drops vs column xs c = by (nat_le (2 ^ s) c.theta)
  where
    by : (t : Bool) → Fits (if t then Err (NotContracting c.theta) else valued (near_by s k drops vs column xs c) (λ near. Ok near))
    by true = tt
    by false = kept_fits (near_by s k drops vs column xs c) (near_by_keeps s k drops vs column xs c)

inverse_fits : (s k : ℕ) (drops : List DropEnds) (ps : List (List Rectangle)) (o : Result (List (List Rectangle)) InverseFault) → Fits (by_inverse s k drops ps o)
inverse_fits s k drops ps (Err (NoPivot column)) = tt
inverse_fits s k drops ps (Err NoValue) = tt
inverse_fits s k drops ps (Ok cs) = valued_fits _ _ (λ (f : Found) e. contracting_fits s k drops f.voltages f.column f.drops f.contraction)

drops_fit : (s n : ℕ) (drops : List DropEnds) → Fits (near_of_drops s n drops)
drops_fit s n drops = valued_fits (with_middles s drops (nought_rows n)) (λ ps. by_inverse s (n - 1) drops ps (middle_inverse s ps)) (λ ps e. inverse_fits s (n - 1) drops ps (middle_inverse s ps))

branches_fit : (s : ℕ) (h : Ends) (nodes : List DropEnds) (branches : List LiveBranch) → Fits (near_of s h nodes branches)
unfolding near_of
branches_fit s h nodes branches = valued_fits (with_branches s h branches nodes) (near_of_drops s (length nodes)) (λ drops e. drops_fit s (length nodes) drops)

pub estimate_fits : (s : ℕ) (low high : Network) (ordering : List ℕ) (e : Ratio) (lo hi : ℕ) → Fits (impedance_near_with s low high ordering e lo hi)
unfolding impedance_near_with
estimate_fits s low high ordering e lo hi =
    let branches = live_branches s ordering low.branches high.branches >>= with_extra_branch s (length ordering - 1) e in
    let near = near_of s (order_ends s lo hi) in
    valued_fits (node_drops s 0 (length ordering)) (λ nodes. valued branches (near nodes)) (λ nodes d. valued_fits branches (near nodes) (λ all b. branches_fit s (order_ends s lo hi) nodes all))
