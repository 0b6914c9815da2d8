-- The parts of an enclosed value are ends, so of a size of at most 2^62.
use Rattle.std.proofs.Common.{◌≡◌, ℕ, zero, suc, ◌*◌, ◌-◌, ◌≤◌, ◌^◌, ℤ, ◌-ℤ◌, Bool, true, false, unsigned_abs, nat_le, List, [], ◌∷◌, slice_get, Option, Some, None, Result, Ok, Err, refl, subst, arith}
use Rattle.std.specs.Prelude.{if◌then◌else◌, ◌&&◌, ◌==◌, option_map}
use Rattle.std.specs.List.{AllByRecursion}
use Rattle.std.proofs.lemmas.Bool.Decides.{nat_tests}
use Rattle.complex_interval.specs.Ends.{Ends, is_end, ends_in_range, sub_ends, zero_between, low_quotient, high_quotient, div_ends, mul_ends, mig_of, add_ends}
use Rattle.complex_interval.specs.Rectangles.{Rectangle, both_parts, on_both, on_second, after, clip_to, quotient_by, quotient_along, quotient_by_across, quotient_across, div_along, div_across, sub_rectangles, mul_rectangles, div_rectangles}
use Rattle.middle_inverse.specs.Lists.{and_then}
use Rattle.middle_inverse.specs.Inverse.{low_point, point_quotient, point_less, middle_inverse}
use Rattle.middle_inverse.specs.declared.fault.InverseFault.{InverseFault}
use Rattle.middle_inverse.specs.declared.fault.InverseFault.TheVariants.{NoInverse as NoPivot, OutOfRange as NoValue}
use Rattle.certified_inverse.specs.declared.outcome.InverseOutcome.{InverseOutcome}
use Rattle.certified_inverse.specs.declared.outcome.InverseOutcome.TheVariants.{NotContracting}
use Rattle.certified_inverse.specs.Certificate.{valued, in_size, theta_of, sigma_of, column_of, ceil_over, certified, by_inverse, enclosure}
use Rattle.certified_inverse.specs.Sizes.{IsInRange}
use Rattle.certified_inverse.proofs.Rows.{and_then-some}
use Rattle.certified_inverse.proofs.Shape.{inverse_all}

-- both low ends are in range
record IsSmall (a : Rectangle) : Type 0 where
  pub re : unsigned_abs a.re.low ≤ 2 ^ 62
  pub im : unsigned_abs a.im.low ≤ 2 ^ 62

both_true : (s t : Bool) (v a : Ends) → (if s && t then Some v else None) ≡ Some a → (s ≡ true) × (v ≡ a)
both_true true true v a h = (refl, cc)
both_true true false v a h = absurd cc
both_true false t v a h = absurd cc

le_true : (m n : ℕ) → nat_le m n ≡ true → m ≤ n
le_true m n h = grind (arith, nat_tests)

in_range_small : (low high : ℤ) (a : Ends) → ends_in_range low high ≡ Some a → unsigned_abs a.low ≤ 2 ^ 62
in_range_small low high a e =
    let parts = both_true (is_end low) (is_end high) _ a e in
    subst (λ (b : Ends). unsigned_abs b.low ≤ 2 ^ 62) parts.1 (le_true _ _ parts.0)

div_small : (s : ℕ) (a b r : Ends) → div_ends s a b ≡ Some r → unsigned_abs r.low ≤ 2 ^ 62
div_small s a b r e = by (zero_between b) e
  where
    by : (t : Bool) → (if t then None else ends_in_range (low_quotient s a b) (high_quotient s a b)) ≡ Some r → unsigned_abs r.low ≤ 2 ^ 62
    by true e = absurd cc
    by false e = in_range_small (low_quotient s a b) (high_quotient s a b) r e

on_div_small : (s : ℕ) (o p : Option Ends) (r : Ends) → on_both (div_ends s) o p ≡ Some r → unsigned_abs r.low ≤ 2 ^ 62
on_div_small s (Some a) (Some b) r e = div_small s a b r e
on_div_small s (Some a) None r e = absurd cc
on_div_small s None p r e = absurd cc

both_small : (p q : Option Ends) (r : Rectangle) → both_parts p q ≡ Some r → ((a : Ends) → p ≡ Some a → unsigned_abs a.low ≤ 2 ^ 62) → ((a : Ends) → q ≡ Some a → unsigned_abs a.low ≤ 2 ^ 62) → IsSmall r
both_small (Some a) (Some b) r e f g = let k : record { re = a; im = b } ≡ r = cc in subst IsSmall k (record { re = f a refl; im = g b refl })
both_small (Some a) None r e f g = absurd cc
both_small None q r e f g = absurd cc

-- ---- quotients
quotient_by_small : (s : ℕ) (a b rho : Ends) (e : Option Ends) (r : Rectangle) → quotient_by s a b rho e ≡ Some r → IsSmall r
quotient_by_small s a b rho None r h = absurd cc
quotient_by_small s a b rho (Some e) r h =
    let top = on_second add_ends a (mul_ends s b rho) in
    let other = on_second sub_ends b (mul_ends s a rho) in
    both_small (on_both (div_ends s) top (Some e)) (on_both (div_ends s) other (Some e)) r h (λ x k. on_div_small s top (Some e) x k) (λ x k. on_div_small s other (Some e) x k)

along_small : (s : ℕ) (a b c d : Ends) (rho : Option Ends) (r : Rectangle) → quotient_along s a b c d rho ≡ Some r → IsSmall r
along_small s a b c d None r h = absurd cc
along_small s a b c d (Some rho) r h = quotient_by_small s a b rho (on_second add_ends c (after (clip_to c) (mul_ends s d rho))) r h

quotient_across_small : (s : ℕ) (a b rho : Ends) (e : Option Ends) (r : Rectangle) → quotient_by_across s a b rho e ≡ Some r → IsSmall r
quotient_across_small s a b rho None r h = absurd cc
quotient_across_small s a b rho (Some e) r h =
    let top = after (λ p. add_ends p b) (mul_ends s a rho) in
    let other = after (λ p. sub_ends p a) (mul_ends s b rho) in
    both_small (on_both (div_ends s) top (Some e)) (on_both (div_ends s) other (Some e)) r h (λ x k. on_div_small s top (Some e) x k) (λ x k. on_div_small s other (Some e) x k)

across_small : (s : ℕ) (a b c d : Ends) (rho : Option Ends) (r : Rectangle) → quotient_across s a b c d rho ≡ Some r → IsSmall r
across_small s a b c d None r h = absurd cc
across_small s a b c d (Some rho) r h = quotient_across_small s a b rho (on_second add_ends d (after (clip_to d) (mul_ends s c rho))) r h

quotient_small : (s : ℕ) (a b r : Rectangle) → div_rectangles s a b ≡ Some r → IsSmall r
quotient_small s a b r e = by (mig_of b.re == 0 && mig_of b.im == 0) (nat_le (mig_of b.im) (mig_of b.re)) e
  where
    by : (t u : Bool) → (if t then None else (if u then div_along s a b else div_across s a b)) ≡ Some r → IsSmall r
    by true u e = absurd cc
    by false true e = along_small s a.re a.im b.re b.im (div_ends s b.im b.re) r e
    by false false e = across_small s a.re a.im b.re b.im (div_ends s b.re b.im) r e

sub_small : (a b r : Ends) → sub_ends a b ≡ Some r → unsigned_abs r.low ≤ 2 ^ 62
sub_small a b r e = in_range_small (a.low -ℤ b.high) (a.high -ℤ b.low) r e

less_small : (a b r : Rectangle) → sub_rectangles a b ≡ Some r → IsSmall r
less_small a b r e = both_small (sub_ends a.re b.re) (sub_ends a.im b.im) r e (λ x h. sub_small a.re b.re x h) (λ x h. sub_small a.im b.im x h)

-- ---- points
kept_small : (o : Option Rectangle) (b : Rectangle) → ((a : Rectangle) → o ≡ Some a → IsSmall a) → option_map low_point o ≡ Some b → IsSmall b
unfolding low_point
kept_small None b f e = absurd cc
kept_small (Some a) b f e = let k : low_point a ≡ b = cc in let h = f a refl in subst IsSmall k (record { re = h.re; im = h.im })

of_quotient : (s : ℕ) (a p b : Rectangle) → point_quotient s a p ≡ Some b → IsSmall b
unfolding point_quotient
of_quotient s a p b e = kept_small (div_rectangles s a p) b (quotient_small s a p) e

of_less : (s : ℕ) (f a a0 b : Rectangle) → point_less s f a a0 ≡ Some b → IsSmall b
unfolding point_less
of_less s f a a0 b e = let (t, et, k) = and_then-some (option_map low_point (mul_rectangles s f a0)) (λ t. option_map low_point (sub_rectangles a t)) b e in kept_small (sub_rectangles a t) b (less_small a t) k

-- ---- outcomes
small_at : (k : ℕ) (row : List Rectangle) (a : Rectangle) → AllByRecursion IsSmall row → slice_get row k ≡ Some a → IsSmall a
small_at k [] a h e = absurd cc
small_at zero (b ∷ row) a h e = let q : b ≡ a = cc in subst IsSmall q h.0
small_at (suc k) (b ∷ row) a h e = small_at k row a h.1 e

column_small : (k : ℕ) (rows : List (List Rectangle)) (x : List Rectangle) → AllByRecursion (λ row. AllByRecursion IsSmall row) rows → column_of k rows ≡ Some x → AllByRecursion IsSmall x
column_small k [] x h e = let q : [] ≡ x = cc in subst (AllByRecursion IsSmall) q tt
column_small k (row ∷ rows) x h e =
    let (a, ea, e) = and_then-some _ _ _ e in
    let (more, em, e) = and_then-some _ _ _ e in
    let q : a ∷ more ≡ x = cc in
    subst (AllByRecursion IsSmall) q (small_at k row a h.0 ea, column_small k rows more h.1 em)

valued_in_range : {X : Type 0} (o : Option X) (f : X → InverseOutcome) → ((x : X) → o ≡ Some x → IsInRange (f x)) → IsInRange (valued o f)
valued_in_range None f h = tt
valued_in_range (Some x) f h = h x refl

certified_in_range : (s k : ℕ) (cs ys : List (List Rectangle)) → AllByRecursion (λ row. AllByRecursion IsSmall row) cs → IsInRange (certified s k cs ys)
certified_in_range s k cs ys h =
    valued_in_range (and_then (theta_of s cs ys) in_size) _ (λ theta et.
    unless_contracting (nat_le (2 ^ s) theta) theta _
    (valued_in_range (column_of k cs) _ (λ x ex.
    valued_in_range (and_then (sigma_of s k cs ys x) in_size) _ (λ sigma es.
    valued_in_range (slice_get x k) _ (λ value ev.
    valued_in_range (and_then (Some (ceil_over (sigma * 2 ^ s) (2 ^ s - theta))) in_size) _ (λ error ee.
    let small = small_at k x value (column_small k cs x h ex) ev in (small.re, small.im)))))))
  where
    unless_contracting : (t : Bool) (theta : ℕ) (o : InverseOutcome) → IsInRange o → IsInRange (if t then NotContracting theta else o)
    unless_contracting true theta o h = tt
    unless_contracting false theta o h = h

inverse_in_range : (s k : ℕ) (ys : List (List Rectangle)) (o : Result (List (List Rectangle)) InverseFault) → middle_inverse s ys ≡ o → IsInRange (by_inverse s k ys o)
inverse_in_range s k ys (Err (NoPivot column)) e = tt
inverse_in_range s k ys (Err NoValue) e = tt
inverse_in_range s k ys (Ok cs) e = certified_in_range s k cs ys (inverse_all IsSmall of_quotient of_less s ys cs e).0

-- each enclosure is in range
pub enclosure_in_range : (s k : ℕ) (ys : List (List Rectangle)) → IsInRange (enclosure s k ys)
enclosure_in_range s k ys = inverse_in_range s k ys (middle_inverse s ys) refl
