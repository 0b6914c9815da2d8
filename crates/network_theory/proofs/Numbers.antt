-- A choice by places, as a product.
use Rattle.std.proofs.Common.{◌≡◌, ℕ, zero, suc, pos, refl, ap, [], ◌∷◌}
use Rattle.exact_algebra.specs.Complex.{Complex, ◌≅◌, complex_numbers, complex_whole}
use Rattle.exact_algebra.proofs.Algebra.{CommutativeRing, ring_of}
use Rattle.exact_algebra.proofs.Reader.{reads, ring, none_left}
use Rattle.exact_algebra.proofs.Complexes.{complex_field}
use Rattle.linear_systems.specs.Assembly.{where_equal}

abbrev pub R : CommutativeRing
R = ring_of complex_numbers complex_field

-- a choice by places is a product
abbrev pub one_at : ℕ → ℕ → Complex
one_at i k = where_equal complex_numbers i k (complex_whole (pos 1))

open complex_numbers use {◌⊗◌, nought, unit}

pub where_equal-is : (i k : ℕ) (x : Complex) → where_equal complex_numbers i k x ≅ (one_at i k ⊗ x)
where_equal-is zero zero x = ring R (x ∷ []) (search reads depth 40 fits 4000) none_left
where_equal-is zero (suc k) x = ring R (x ∷ []) (search reads depth 40 fits 4000) none_left
where_equal-is (suc i) zero x = ring R (x ∷ []) (search reads depth 40 fits 4000) none_left
where_equal-is (suc i) (suc k) x = where_equal-is i k x

pub one_at-same : (i : ℕ) → one_at i i ≅ unit
one_at-same zero = ring R [] (search reads depth 40 fits 4000) none_left
one_at-same (suc i) = one_at-same i

pub one_at-apart : (i k : ℕ) → ¬ (i ≡ k) → one_at i k ≅ nought
one_at-apart zero zero h = absurd (h refl)
one_at-apart zero (suc k) h = ring R [] (search reads depth 40 fits 4000) none_left
one_at-apart (suc i) zero h = ring R [] (search reads depth 40 fits 4000) none_left
one_at-apart (suc i) (suc k) h = one_at-apart i k (λ e. h (ap suc e))

pub same_node : (i k : ℕ) → Dec (i ≡ k)
same_node zero zero = yes refl
same_node zero (suc k) = no (λ e. cc)
same_node (suc i) zero = no (λ e. cc)
same_node (suc i) (suc k) = elim (same_node i k) [ yes e ↦ yes (ap suc e) | no n ↦ no (λ e. n cc) ]
