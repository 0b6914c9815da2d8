-- What the products of rows of rectangles hold.
use Rattle.std.proofs.Common.{◌≡◌, ℕ, suc, List, [], ◌∷◌, length, map, Option, Some, None, refl, sym, ap, ◌∙◌, subst, arith}
use Rattle.std.specs.List.{AllZip, AllByRecursion}
use Rattle.exact_algebra.specs.Numbers.{Numbers}
use Rattle.exact_algebra.specs.Complex.{Complex, complex_numbers, complex_plus, complex_times, complex_difference, ◌≅◌}
use Rattle.exact_algebra.proofs.Algebra.{CommutativeRing, ring_of}
use Rattle.exact_algebra.proofs.Complexes.{complex_field}
use Rattle.exact_algebra.proofs.Holding.{holds_along}
use Rattle.exact_algebra.proofs.Reader.{reads, ring, linear, weigh, none_left}
use Rattle.linear_systems.specs.Linear.{less}
use Rattle.linear_systems.specs.Residual.{residual}
use Rattle.complex_interval.specs.Rectangles.{Rectangle, EnclosesComplex, sub_rectangles}
use Rattle.complex_interval.proofs.RectangleLaws.{add_encloses_rectangle, sub_encloses_rectangle, mul_encloses_rectangle}
use Rattle.certified_inverse.specs.Certificate.{and_then, each_two, add_times, combination}

abbrev pub N : Numbers
N = complex_numbers

abbrev pub R : CommutativeRing
R = ring_of complex_numbers complex_field

abbrev pub one : Complex
one = N.unit

abbrev pub Held : ℕ → List Rectangle → List Complex → Type 0
Held s row r = AllZip (EnclosesComplex s) row r

pub along : (s : ℕ) (x : Rectangle) (a b : Complex) → a ≅ b → EnclosesComplex s x a → EnclosesComplex s x b
along s x a b p h = record { re = holds_along _ _ _ _ _ p.re h.re; im = holds_along _ _ _ _ _ p.im h.im }

pub row_along : (s : ℕ) (row : List Rectangle) (cs ds : List Complex) → AllZip ◌≅◌ cs ds → Held s row cs → Held s row ds
row_along s [] [] [] h k = tt
row_along s [] [] (d ∷ ds) h k = absurd h
row_along s [] (c ∷ cs) ds h k = absurd k
row_along s (x ∷ row) [] ds h k = absurd k
row_along s (x ∷ row) (c ∷ cs) [] h k = absurd h
row_along s (x ∷ row) (c ∷ cs) (d ∷ ds) h k = (along s x c d h.0 k.0, row_along s row cs ds h.1 k.1)

pub and_then-some : {X Y : Type 0} (o : Option X) (f : X → Option Y) (y : Y) → and_then o f ≡ Some y → (x : X) × (o ≡ Some x) × (f x ≡ Some y)
and_then-some None f y e = absurd cc
and_then-some (Some x) f y e = (x, refl, e)

-- sum + f a
pub add_times-holds : (s : ℕ) (f sum a r : Rectangle) (g t b : Complex) → add_times s f sum a ≡ Some r → EnclosesComplex s f g → EnclosesComplex s sum t → EnclosesComplex s a b → EnclosesComplex s r (complex_plus t (complex_times g b))
unfolding add_times
add_times-holds s f sum a r g t b e hf ht ha =
    let (p, ep, e) = and_then-some _ _ _ e in
    add_encloses_rectangle s sum p r t (complex_times g b) ht (mul_encloses_rectangle s f a p g b hf ha ep) e

-- the sums with a row times its factor, as less the row times the opposite factor
pub times_row-holds : (s : ℕ) (f : Rectangle) (sums row new : List Rectangle) (g : Complex) (ts us : List Complex) → each_two (add_times s f) sums row ≡ Some new → EnclosesComplex s f g → Held s sums ts → Held s row us → Held s new (less N (N.minus g) us ts)
times_row-holds s f [] [] new g [] [] e hf ht hu = let k : [] ≡ new = cc in subst (λ r. Held s r []) k tt
times_row-holds s f [] [] new g ts (u ∷ us) e hf ht hu = absurd hu
times_row-holds s f [] [] new g (t ∷ ts) us e hf ht hu = absurd ht
times_row-holds s f [] (a ∷ row) new g ts us e hf ht hu = absurd cc
times_row-holds s f (x ∷ sums) [] new g ts us e hf ht hu = absurd cc
times_row-holds s f (x ∷ sums) (a ∷ row) new g [] us e hf ht hu = absurd ht
times_row-holds s f (x ∷ sums) (a ∷ row) new g (t ∷ ts) [] e hf ht hu = absurd hu
times_row-holds s f (x ∷ sums) (a ∷ row) new g (t ∷ ts) (u ∷ us) e hf ht hu =
    let (d, ed, e) = and_then-some _ _ _ e in
    let (ds, eds, e) = and_then-some _ _ _ e in
    let k : d ∷ ds ≡ new = cc in
    let h = add_times-holds s f x a d g t u ed hf ht.0 hu.0 in
    let q : complex_plus t (complex_times g u) ≅ N.◌⊕◌ t (N.minus (N.◌⊗◌ (N.minus g) u)) = ring R (t ∷ g ∷ u ∷ []) (search reads depth 40 fits 4000) none_left in
    subst (λ r. Held s r (less N (N.minus g) (u ∷ us) (t ∷ ts))) k (along s d _ _ q h, times_row-holds s f sums row ds g ts us eds hf ht.1 hu.1)

pub combination-holds : (s : ℕ) (sums cs : List Rectangle) (ys : List (List Rectangle)) (new : List Rectangle) (ts gs : List Complex) (us : List (List Complex)) → combination s sums cs ys ≡ Some new → Held s sums ts → Held s cs gs → AllZip (Held s) ys us
    → Held s new (residual N (map N.minus gs) us ts)
combination-holds s sums [] [] new ts [] [] e ht hg hu = let k : sums ≡ new = cc in subst (λ r. Held s r ts) k ht
combination-holds s sums [] [] new ts [] (u ∷ us) e ht hg hu = absurd hu
combination-holds s sums [] [] new ts (g ∷ gs) us e ht hg hu = absurd hg
combination-holds s sums [] (y ∷ ys) new ts gs us e ht hg hu = absurd cc
combination-holds s sums (c ∷ cs) [] new ts gs us e ht hg hu = absurd cc
combination-holds s sums (c ∷ cs) (y ∷ ys) new ts [] us e ht hg hu = absurd hg
combination-holds s sums (c ∷ cs) (y ∷ ys) new ts (g ∷ gs) [] e ht hg hu = absurd hu
combination-holds s sums (c ∷ cs) (y ∷ ys) new ts (g ∷ gs) (u ∷ us) e ht hg hu =
    let (more, em, e) = and_then-some _ _ _ e in
    combination-holds s more cs ys new (less N (N.minus g) u ts) gs us e (times_row-holds s c sums y more g ts u em hg.0 ht hu.0) hg.1 hu.1

-- the difference of two rows
pub sub_row-holds : (s : ℕ) (xs row new : List Rectangle) (ts us : List Complex) → each_two sub_rectangles xs row ≡ Some new → Held s xs ts → Held s row us → Held s new (less N one us ts)
sub_row-holds s [] [] new [] [] e ht hu = let k : [] ≡ new = cc in subst (λ r. Held s r []) k tt
sub_row-holds s [] [] new ts (u ∷ us) e ht hu = absurd hu
sub_row-holds s [] [] new (t ∷ ts) us e ht hu = absurd ht
sub_row-holds s [] (a ∷ row) new ts us e ht hu = absurd cc
sub_row-holds s (x ∷ xs) [] new ts us e ht hu = absurd cc
sub_row-holds s (x ∷ xs) (a ∷ row) new [] us e ht hu = absurd ht
sub_row-holds s (x ∷ xs) (a ∷ row) new (t ∷ ts) [] e ht hu = absurd hu
sub_row-holds s (x ∷ xs) (a ∷ row) new (t ∷ ts) (u ∷ us) e ht hu =
    let (d, ed, e) = and_then-some _ _ _ e in
    let (ds, eds, e) = and_then-some _ _ _ e in
    let k : d ∷ ds ≡ new = cc in
    let h = sub_encloses_rectangle s x a d t u ht.0 hu.0 ed in
    let q : complex_difference t u ≅ N.◌⊕◌ t (N.minus (N.◌⊗◌ one u)) = ring R (t ∷ u ∷ []) (search reads depth 40 fits 4000) none_left in
    subst (λ r. Held s r (less N one (u ∷ us) (t ∷ ts))) k (along s d _ _ q h, sub_row-holds s xs row ds ts us eds ht.1 hu.1)

-- ---- the rows that were summed first and those that were taken away one by one
less_twice : (g : Complex) (us ts es fs : List Complex) → length us ≡ length es → length ts ≡ length es → AllZip ◌≅◌ (less N one ts es) fs → AllZip ◌≅◌ (less N one (less N (N.minus g) us ts) es) (less N g us fs)
less_twice g [] [] [] [] lu lt h = tt
less_twice g [] [] [] (f ∷ fs) lu lt h = absurd h
less_twice g [] [] (e ∷ es) fs lu lt h = absurd (omega arith)
less_twice g [] (t ∷ ts) [] fs lu lt h = absurd (omega arith)
less_twice g [] (t ∷ ts) (e ∷ es) fs lu lt h = absurd (omega arith)
less_twice g (u ∷ us) ts [] fs lu lt h = absurd (omega arith)
less_twice g (u ∷ us) [] (e ∷ es) fs lu lt h = absurd (omega arith)
less_twice g (u ∷ us) (t ∷ ts) (e ∷ es) [] lu lt h = absurd h
less_twice g (u ∷ us) (t ∷ ts) (e ∷ es) (f ∷ fs) lu lt h =
    (linear R (g ∷ u ∷ t ∷ e ∷ f ∷ []) (weigh R one h.0) (search reads depth 40 fits 4000) none_left, less_twice g us ts es fs (omega arith) (omega arith) h.1)

length-times_row : (g : Complex) (us ts : List Complex) → length us ≡ length ts → length (less N g us ts) ≡ length ts
length-times_row g [] ts l = refl
length-times_row g (u ∷ us) [] l = absurd (omega arith)
length-times_row g (u ∷ us) (t ∷ ts) l = ap suc (length-times_row g us ts (omega arith))

pub summed_first : (gs : List Complex) (us : List (List Complex)) (ts es fs : List Complex) → AllByRecursion (λ u. length u ≡ length es) us → length ts ≡ length es → AllZip ◌≅◌ (less N one ts es) fs
    → AllZip ◌≅◌ (less N one (residual N (map N.minus gs) us ts) es) (residual N gs us fs)
summed_first [] us ts es fs w l h = h
summed_first (g ∷ gs) [] ts es fs w l h = h
summed_first (g ∷ gs) (u ∷ us) ts es fs w l h =
    summed_first gs us (less N (N.minus g) u ts) es (less N g u fs) w.1 (length-times_row (N.minus g) u ts (w.0 ∙ sym l) ∙ l) (less_twice g u ts es fs w.0 l h)
