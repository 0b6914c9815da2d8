-- Drops, and the currents that leave a node, are linear.
use Rattle.std.proofs.Common.{ℕ, suc, List, [], ◌∷◌}
use Rattle.exact_algebra.specs.Complex.{Complex, complex_numbers, real}
use Rattle.exact_algebra.proofs.Complexes.{complex_field}
use Rattle.exact_algebra.proofs.Reader.{reads, ring, linear, weigh, join, none_left}
use Rattle.linear_systems.specs.Assembly.{where_equal}
use Rattle.network_theory.specs.Branch.{Tap, Branch}
use Rattle.network_theory.specs.State.{drop, leaving_by, leaving}
use Rattle.network_theory.proofs.Numbers.{R, one_at, where_equal-is}
open complex_numbers use {◌≈◌, nought, unit, ◌⊕◌, ◌⊗◌, minus}
open complex_field use {same, back, next, add_same, mul_same, minus_same}

abbrev C : Type 0
C = Complex

pub drop-less : (V W : ℕ → C) (taps : List Tap) → drop (λ n. V n ⊕ minus (W n)) taps ≈ drop V taps ⊕ minus (drop W taps)
drop-less V W [] = ring R [] (search reads depth 40 fits 4000) none_left
drop-less V W (t ∷ taps) =
    linear R (real t.ratio ∷ V t.node ∷ W t.node ∷ drop V taps ∷ drop W taps ∷ drop (λ n. V n ⊕ minus (W n)) taps ∷ [])
    (weigh R unit (drop-less V W taps)) (search reads depth 40 fits 4000) none_left

-- the sum of the ratios of the taps at a node
abbrev pub ratio_at : List Tap → ℕ → C
ratio_at [] n = nought
ratio_at (t ∷ taps) n = one_at t.node n ⊗ real t.ratio ⊕ ratio_at taps n

pub leaving_by-is : (taps : List Tap) (I : C) (n : ℕ) → leaving_by taps I n ≈ ratio_at taps n ⊗ I
leaving_by-is [] I n = ring R (I ∷ []) (search reads depth 40 fits 4000) none_left
leaving_by-is (t ∷ taps) I n =
    linear R (real t.ratio ∷ I ∷ one_at t.node n ∷ where_equal complex_numbers t.node n (real t.ratio ⊗ I) ∷ ratio_at taps n ∷ leaving_by taps I n ∷ [])
    (join R (weigh R unit (leaving_by-is taps I n)) (weigh R unit (where_equal-is t.node n (real t.ratio ⊗ I)))) (search reads depth 40 fits 4000) none_left

pub leaving-less : (bs : List Branch) (I K : ℕ → C) (n : ℕ) → leaving bs (λ i. I i ⊕ minus (K i)) n ≈ leaving bs I n ⊕ minus (leaving bs K n)
leaving-less [] I K n = ring R [] (search reads depth 40 fits 4000) none_left
leaving-less (b ∷ bs) I K n =
    let a = ratio_at b.taps n in
    let more = leaving-less bs (λ i. I (suc i)) (λ i. K (suc i)) n in
    linear R (a ∷ I 0 ∷ K 0 ∷ leaving_by b.taps (I 0) n ∷ leaving_by b.taps (K 0) n ∷ leaving_by b.taps (I 0 ⊕ minus (K 0)) n
    ∷ leaving bs (λ i. I (suc i)) n ∷ leaving bs (λ i. K (suc i)) n ∷ leaving bs (λ i. I (suc i) ⊕ minus (K (suc i))) n ∷ [])
    (join R (weigh R unit more) (join R (weigh R unit (leaving_by-is b.taps (I 0 ⊕ minus (K 0)) n)) (join R (weigh R (minus unit) (leaving_by-is b.taps (I 0) n)) (weigh R unit (leaving_by-is b.taps (K 0) n)))))
    (search reads depth 40 fits 4000) none_left
