-- What counts at drops, in place.
use Rattle.std.proofs.Common.{◌≡◌, ◌∙◌, ℕ, zero, suc, ◌+◌, ◌-◌, ◌<◌, ◌≤◌, Bool, true, false, List, [], ◌∷◌, ◌++◌, length, get_or, set, take, drop, map, pos, Option, Some, None, refl, sym, ap, arith, length-append}
use Rattle.std.specs.Prelude.{slice_get, slice_set, int_lt, if◌then◌else◌}
use Rattle.std.specs.Option.{option_map}
use Rattle.std.proofs.lemmas.List.{map-set, take_more_set, take_all, length-map}
use Rattle.exact_algebra.specs.Ratio.{Ratio, whole}
use Rattle.complex_interval.specs.Ends.{Ends, range_ends, mul_ends}
use Rattle.complex_interval.specs.Rectangles.{Rectangle, sub_rectangles}
use Rattle.plain_elimination.specs.Matrix.{nought_rectangle}
use Rattle.middle_inverse.specs.Inverse.{middle_point}
use Rattle.admittance_box.specs.Addends.{OfShunt, PlacedTap, TapPair}
use Rattle.admittance_box.specs.BoxMatrix.{law_rectangle}
use Rattle.admittance_box.specs.Exact.{one_ends}
use Rattle.admittance_box.specs.Steps.{◌>>=◌}
use Rattle.branchwise_test.specs.Drops.{LiveBranch, DropEnds, raised, counted, extra_branch, with_extra_branch, with_branch, with_branches}
use Rattle.branchwise_bench.specs.Layout.{bare_node, bare_nodes, own_drop, own_drops, own_count, raised_at, with_extra, counted_all}
use Rattle.drop_bench.specs.Drops.{bare}

-- ---- lists
drop_next : {X : Type 0} (n : ℕ) (xs : List X) (y : X) (ys : List X) → drop n xs ≡ y ∷ ys → drop (n + 1) xs ≡ ys
drop_next zero [] y ys e = absurd cc
drop_next zero (x ∷ xs) y ys e = cc
drop_next (suc n) [] y ys e = absurd cc
drop_next (suc n) (x ∷ xs) y ys e = let k : suc n + 1 ≡ suc (n + 1) = omega arith in rw k (drop_next n xs y ys e)

drop_within : {X : Type 0} (n : ℕ) (xs : List X) (y : X) (ys : List X) → drop n xs ≡ y ∷ ys → n < length xs
drop_within zero [] y ys e = absurd cc
drop_within zero (x ∷ xs) y ys e = omega arith
drop_within (suc n) [] y ys e = absurd cc
drop_within (suc n) (x ∷ xs) y ys e = let k = drop_within n xs y ys e in omega (arith, k)

pub take_front : {X : Type 0} (xs ys : List X) (n : ℕ) → length xs ≡ n → take n (xs ++ ys) ≡ xs
take_front [] ys zero e = refl
take_front [] ys (suc n) e = absurd (omega arith)
take_front (x ∷ xs) ys zero e = absurd (omega arith)
take_front (x ∷ xs) ys (suc n) e = ap (λ l. x ∷ l) (take_front xs ys n (omega arith))

pub drop_front : {X : Type 0} (xs ys : List X) (n : ℕ) → length xs ≡ n → drop n (xs ++ ys) ≡ ys
drop_front [] ys zero e = refl
drop_front [] ys (suc n) e = absurd (omega arith)
drop_front (x ∷ xs) ys zero e = absurd (omega arith)
drop_front (x ∷ xs) ys (suc n) e = drop_front xs ys n (omega arith)

beyond : {X : Type 0} (xs : List X) (n i : ℕ) → n ≤ i → slice_get (take n xs) i ≡ None
beyond [] zero i l = refl
beyond [] (suc n) i l = refl
beyond (x ∷ xs) zero i l = refl
beyond (x ∷ xs) (suc n) zero l = absurd (omega arith)
beyond (x ∷ xs) (suc n) (suc i) l = beyond xs n i (omega arith)

-- ---- one drop among others
module _ {R : Type 0} (h : R → DropEnds) where
  pub bare_set : (rs : List R) (i : ℕ) (r r' : R) → i < length rs → r ≡ get_or rs i r → bare (h r') ≡ bare (h r) → map bare (map h (set rs i r')) ≡ map bare (map h rs)
  bare_set [] i r r' l e q = absurd (omega arith)
  bare_set (c ∷ rs) zero r r' l e q = ap (λ d. d ∷ map bare (map h rs)) (q ∙ ap (λ x. bare (h x)) e)
  bare_set (c ∷ rs) (suc i) r r' l e q = ap (λ ds. bare (h c) ∷ ds) (bare_set rs i r r' (omega arith) e q)

  got_taken : (rs : List R) (n i : ℕ) (r : R) → i < n → n ≤ length rs → r ≡ get_or rs i r → slice_get (take n (map h rs)) i ≡ Some (h r)
  got_taken [] n i r l k e = absurd (omega arith)
  got_taken (c ∷ rs) zero i r l k e = absurd (omega arith)
  got_taken (c ∷ rs) (suc n) zero r l k e = ap (λ x. Some (h x)) (sym e)
  got_taken (c ∷ rs) (suc n) (suc i) r l k e = got_taken rs n i r (omega arith) (omega arith) e

  set_taken : (rs : List R) (n i : ℕ) (r : R) → i < n → slice_set (take n (map h rs)) i (h r) ≡ take n (map h (set rs i r))
  set_taken [] zero i r l = absurd (omega arith)
  set_taken [] (suc n) i r l = refl
  set_taken (c ∷ rs) zero i r l = absurd (omega arith)
  set_taken (c ∷ rs) (suc n) zero r l = refl
  set_taken (c ∷ rs) (suc n) (suc i) r l = ap (λ ds. h c ∷ ds) (set_taken rs n i r (omega arith))

  -- one drop more is bare
  pub bare_more : (rs : List R) (i : ℕ) (r r' : R) → i < length rs → r ≡ get_or rs i r → h r' ≡ bare (h r)
      → take (i + 1) (map h (set rs i r')) ++ map bare (drop (i + 1) (map h (set rs i r'))) ≡ take i (map h rs) ++ map bare (drop i (map h rs))
  bare_more [] i r r' l e q = absurd (omega arith)
  bare_more (c ∷ rs) zero r r' l e q = ap (λ d. d ∷ map bare (map h rs)) (q ∙ ap (λ x. bare (h x)) e)
  bare_more (c ∷ rs) (suc i) r r' l e q = let k : suc i + 1 ≡ suc (i + 1) = omega arith in rw k (ap (λ ds. h c ∷ ds) (bare_more rs i r r' (omega arith) e q))

  -- a drop among the first n is raised
  module _ (s : ℕ) (m rest : Rectangle) (f : Ends) (rs : List R) (n i : ℕ) where
    pub raised-some : (r r' : R) → i < n → n ≤ length rs → r ≡ get_or rs i r → Some (h r') ≡ raised s m rest f (h r) → Some (take n (map h (set rs i r'))) ≡ raised_at s m rest f i (take n (map h rs))
    raised-some r r' l k e q = rw (got_taken rs n i r l k e, ← q) (ap Some (sym (set_taken rs n i r' l)))

    pub raised-none : (r : R) → i < n → n ≤ length rs → r ≡ get_or rs i r → None ≡ raised s m rest f (h r) → None ≡ raised_at s m rest f i (take n (map h rs))
    raised-none r l k e q = rw (got_taken rs n i r l k e, ← q) refl

    pub raised-either : (r r' : R) (o : Option (Unit {0})) → i < n → n ≤ length rs → r ≡ get_or rs i r → option_map (λ _. h r') o ≡ raised s m rest f (h r) → option_map (λ _. take n (map h (set rs i r'))) o ≡ raised_at s m rest f i (take n (map h rs))
    raised-either r r' (Some u) l k e q = raised-some r r' l k e q
    raised-either r r' None l k e q = raised-none r l k e q

    pub raised-beyond : n ≤ i → None ≡ raised_at s m rest f i (take n (map h rs))
    raised-beyond l = rw (beyond (map h rs) n i l) refl

  -- ---- a drop of a branch's own
  pub own_within : (rs : List R) (n : ℕ) (d : DropEnds) (ds : List DropEnds) → drop n (map bare (map h rs)) ≡ d ∷ ds → n < length rs
  own_within rs n d ds e = let k = drop_within n (map bare (map h rs)) d ds e in omega (arith, k, length-map (map h rs) bare, length-map rs h)

  own_is : (rs : List R) (n : ℕ) (r : R) (d : DropEnds) (ds : List DropEnds) → drop n (map bare (map h rs)) ≡ d ∷ ds → r ≡ get_or rs n r → bare (h r) ≡ d
  own_is [] zero r d ds e q = absurd cc
  own_is [] (suc n) r d ds e q = absurd cc
  own_is (c ∷ rs) zero r d ds e q = ap (λ x. bare (h x)) q ∙ (let k : bare (h c) ≡ d = cc in k)
  own_is (c ∷ rs) (suc n) r d ds e q = own_is rs n r d ds e q

  -- its admittance is set
  pub own_set : (s : ℕ) (rs : List R) (n : ℕ) (r r' : R) (m rest : Rectangle) (taps : List PlacedTap) (p q : TapPair) (pairs : List TapPair) (others : List DropEnds)
      → drop n (map bare (map h rs)) ≡ own_drop taps (p ∷ q ∷ pairs) others → r ≡ get_or rs n r → h r' ≡ record { taps = (h r).taps; pairs = (h r).pairs; middle = m; rest = rest }
      → Some (take (n + 1) (map h (set rs n r'))) ≡ counted s m rest taps (p ∷ q ∷ pairs) (take n (map h rs))
  own_set s rs n r r' m rest taps p q pairs others e i k =
      let inside = own_within rs n _ others e in
      let same = own_is rs n r _ others e i in
      let same_taps : (h r).taps ≡ taps = ap (λ (d : DropEnds). d.taps) same in
      let same_pairs : (h r).pairs ≡ p ∷ q ∷ pairs = ap (λ (d : DropEnds). d.pairs) same in
      let is : h r' ≡ record { taps = taps; pairs = p ∷ q ∷ pairs; middle = m; rest = rest } = rw (k, same_taps, same_pairs) refl in
      rw (map-set h rs n r', take_more_set (map h rs) n (h r') (rw (length-map rs h) inside), is) refl

-- so for pairs of another type
module _ {R P : Type 0} (h : R → DropEnds) (f : P → TapPair) where
  pub own_counted : (s : ℕ) (rs : List R) (n : ℕ) (r r' : R) (m rest : Rectangle) (taps : List PlacedTap) (ps : List P) (others : List DropEnds) → 2 ≤ length ps
      → drop n (map bare (map h rs)) ≡ own_drop taps (map f ps) others → r ≡ get_or rs n r → h r' ≡ record { taps = (h r).taps; pairs = (h r).pairs; middle = m; rest = rest }
      → Some (take (n + 1) (map h (set rs n r'))) ≡ counted s m rest taps (map f ps) (take n (map h rs))
  own_counted s rs n r r' m rest taps [] others l e i k = absurd (omega arith)
  own_counted s rs n r r' m rest taps (p ∷ []) others l e i k = absurd (omega arith)
  own_counted s rs n r r' m rest taps (p ∷ q ∷ ps) others l e i k = own_set h s rs n r r' m rest taps (f p) (f q) (map f ps) others e i k

  pub own_bare : (rs : List R) (n : ℕ) (r r' : R) (m rest : Rectangle) (taps : List PlacedTap) (ps : List P) (others : List DropEnds) → 2 ≤ length ps
      → drop n (map bare (map h rs)) ≡ own_drop taps (map f ps) others → r ≡ get_or rs n r → h r' ≡ record { taps = (h r).taps; pairs = (h r).pairs; middle = m; rest = rest }
      → map bare (map h (set rs n r')) ≡ map bare (map h rs)
  own_bare rs n r r' m rest taps [] others l e i k = absurd (omega arith)
  own_bare rs n r r' m rest taps (p ∷ []) others l e i k = absurd (omega arith)
  own_bare rs n r r' m rest taps (p ∷ q ∷ ps) others l e i k = bare_set h rs n r r' (own_within h rs n _ others e) i (ap bare k)

-- ---- the next branch
pub own_fits : (taps : List PlacedTap) (pairs : List TapPair) (others ds : List DropEnds) (n : ℕ) → drop n ds ≡ own_drop taps pairs others → n ≤ length ds → n + own_count pairs ≤ length ds
own_fits taps [] others ds n e l = omega (arith, l)
own_fits taps (p ∷ []) others ds n e l = omega (arith, l)
own_fits taps (p ∷ q ∷ pairs) others ds n e l = let k = drop_within n ds _ others e in omega (arith, k)

pub after_own : (taps : List PlacedTap) (pairs : List TapPair) (others ds : List DropEnds) (n : ℕ) → drop n ds ≡ own_drop taps pairs others → drop (n + own_count pairs) ds ≡ others
after_own taps [] others ds n e = let k : n + 0 ≡ n = omega arith in rw k e
after_own taps (p ∷ []) others ds n e = let k : n + 0 ≡ n = omega arith in rw k e
after_own taps (p ∷ q ∷ pairs) others ds n e = drop_next n ds _ others e

-- all are done
pub all_taken : {R : Type 0} (h : R → DropEnds) (rs : List R) (n : ℕ) → drop n (map bare (map h rs)) ≡ [] → take n (map h rs) ≡ map h rs
all_taken h [] zero e = refl
all_taken h [] (suc n) e = refl
all_taken h (c ∷ rs) zero e = absurd cc
all_taken h (c ∷ rs) (suc n) e = ap (λ ds. h c ∷ ds) (all_taken h rs n e)

pub no_more : {B : Type 0} (L : B → LiveBranch) (bs : List B) → length bs < 1 → map L bs ≡ []
no_more L [] l = refl
no_more L (b ∷ bs) l = absurd (omega arith)

pub all_of : {R : Type 0} (h : R → DropEnds) (rs : List R) (n : ℕ) → length rs ≤ n → take n (map h rs) ≡ map h rs
all_of h rs n l = take_all n (map h rs) (rw (length-map rs h) l)

-- what is left after a branch
module _ (b : LiveBranch) (bs : List LiveBranch) (ds : List DropEnds) (n m : ℕ) (laid : drop n ds ≡ own_drops (b ∷ bs)) (next : m ≡ n + own_count b.pairs) where
  pub next_fits : n ≤ length ds → m ≤ length ds
  next_fits l = let k = own_fits b.taps b.pairs (own_drops bs) ds n laid l in omega (arith, k, next)

  pub next_laid : drop m ds ≡ own_drops bs
  next_laid = rw next (after_own b.taps b.pairs (own_drops bs) ds n laid)

-- ---- an extra susceptance
module _ (s : ℕ) (h : Ends) where
  abbrev shunt_of : ℕ → Ends → LiveBranch
  shunt_of place b = record { law = OfShunt b; taps = record { place = place; ratio = one_ends s } ∷ []; pairs = record { row = place; column = place; factor = one_ends s } ∷ [] }

  module _ (one : range_ends s (whole (pos 1)) (whole (pos 1)) ≡ Some (one_ends s)) (square : mul_ends s (one_ends s) (one_ends s) ≡ Some (one_ends s)) where
    extra_is : (place : ℕ) (e : Ratio) (b : Ends) → Some b ≡ range_ends s e e → extra_branch s place e ≡ Some (shunt_of place b)
    extra_is place e b q = rw (← q, one, square) refl

    pub extra_counts : (place : ℕ) (e : Ratio) (b : Ends) (ds : List DropEnds) → int_lt (pos 0) e.num ≡ true → Some b ≡ range_ends s e e → with_extra s h place e ds ≡ with_branch s h (shunt_of place b) ds
    extra_counts place e b ds t q = rw (t, extra_is place e b q) refl

    pub extra_absent : (place : ℕ) (e : Ratio) (ds : List DropEnds) → int_lt (pos 0) e.num ≡ true → None ≡ range_ends s e e → with_extra s h place e ds ≡ None
    extra_absent place e ds t q = rw (t, ← q) refl

    pub no_admittance : (place : ℕ) (e : Ratio) (b : Ends) (ds : List DropEnds) → int_lt (pos 0) e.num ≡ true → Some b ≡ range_ends s e e → None ≡ law_rectangle s h (OfShunt b) → None ≡ with_extra s h place e ds
    no_admittance place e b ds t q k = rw (extra_counts place e b ds t q, ← k) refl

    pub no_rest : (place : ℕ) (e : Ratio) (b : Ends) (y : Rectangle) (ds : List DropEnds) → int_lt (pos 0) e.num ≡ true → Some b ≡ range_ends s e e → Some y ≡ law_rectangle s h (OfShunt b) → None ≡ sub_rectangles y (middle_point y) → None ≡ with_extra s h place e ds
    no_rest place e b y ds t q k r = rw (extra_counts place e b ds t q, ← k, ← r) refl

    pub extra_raised : (place : ℕ) (e : Ratio) (b : Ends) (y rest : Rectangle) (ds : List DropEnds) → int_lt (pos 0) e.num ≡ true → Some b ≡ range_ends s e e → Some y ≡ law_rectangle s h (OfShunt b) → Some rest ≡ sub_rectangles y (middle_point y)
        → raised_at s (middle_point y) rest (one_ends s) place ds ≡ with_extra s h place e ds
    extra_raised place e b y rest ds t q k r = rw (extra_counts place e b ds t q, ← k, ← r) refl

  some_again : {X : Type 0} (o : Option X) → (o >>= (λ x. Some x)) ≡ o
  some_again (Some x) = refl
  some_again None = refl

  -- one branch more at the end
  with_branches-end : (bs : List LiveBranch) (b : LiveBranch) (ds : List DropEnds) → with_branches s h (bs ++ b ∷ []) ds ≡ (with_branches s h bs ds >>= with_branch s h b)
  with_branches-end [] b ds = some_again (with_branch s h b ds)
  with_branches-end (c ∷ bs) b ds = go (with_branch s h c ds) (with_branches-end bs b)
    where
      go : (o : Option (List DropEnds)) → ((ds : List DropEnds) → with_branches s h (bs ++ b ∷ []) ds ≡ (with_branches s h bs ds >>= with_branch s h b))
          → (o >>= with_branches s h (bs ++ b ∷ [])) ≡ ((o >>= with_branches s h bs) >>= with_branch s h b)
      go (Some ds) more = more ds
      go None more = refl

  no_value : (o : Option (List DropEnds)) → ◌≡◌ {A = Option (List DropEnds)} (o >>= (λ ds. None)) None
  no_value (Some ds) = refl
  no_value None = refl

  pub extra_last : (bs : List LiveBranch) (place : ℕ) (e : Ratio) (ds : List DropEnds) → (with_branches s h bs ds >>= with_extra s h place e) ≡ (with_extra_branch s place e bs >>= (λ all. with_branches s h all ds))
  extra_last bs place e ds = go (int_lt (pos 0) e.num) (extra_branch s place e)
    where
      go : (t : Bool) (o : Option LiveBranch)
          → (with_branches s h bs ds >>= (λ ds. if t then o >>= (λ b. with_branch s h b ds) else Some ds)) ≡ ((if t then o >>= (λ b. Some (bs ++ b ∷ [])) else Some bs) >>= (λ all. with_branches s h all ds))
      go true (Some b) = sym (with_branches-end bs b ds)
      go true None = no_value (with_branches s h bs ds)
      go false o = some_again (with_branches s h bs ds)

-- ---- drops as they are laid out
pub nodes_count : (s place n : ℕ) → length (bare_nodes s place n) ≡ n
nodes_count s place zero = refl
nodes_count s place (suc n) = ap suc (nodes_count s (suc place) n)

bare_again : (ds : List DropEnds) → map bare (map bare ds) ≡ map bare ds
bare_again [] = refl
bare_again (d ∷ ds) = ap (λ l. bare d ∷ l) (bare_again ds)

bare_own : (taps : List PlacedTap) (pairs : List TapPair) (others : List DropEnds) → map bare others ≡ others → map bare (own_drop taps pairs others) ≡ own_drop taps pairs others
bare_own taps [] others e = e
bare_own taps (p ∷ []) others e = e
bare_own taps (p ∷ q ∷ pairs) others e = ap (λ l. record { taps = taps; pairs = p ∷ q ∷ pairs; middle = nought_rectangle; rest = nought_rectangle } ∷ l) e

bare_owns : (bs : List LiveBranch) → map bare (own_drops bs) ≡ own_drops bs
bare_owns [] = refl
bare_owns (b ∷ bs) = bare_own b.taps b.pairs (own_drops bs) (bare_owns bs)

bare_from : (s place n : ℕ) (ds : List DropEnds) → map bare ds ≡ ds → map bare (bare_nodes s place n ++ ds) ≡ bare_nodes s place n ++ ds
bare_from s place zero ds e = e
bare_from s place (suc n) ds e = ap (λ l. bare_node s place ∷ l) (bare_from s (suc place) n ds e)

pub bare_laid : (s n : ℕ) (bs : List LiveBranch) → map bare (bare_nodes s 0 n ++ own_drops bs) ≡ bare_nodes s 0 n ++ own_drops bs
bare_laid s n bs = bare_from s 0 n (own_drops bs) (bare_owns bs)

-- drops that were cleared
module _ (cleared old : List DropEnds) (s n : ℕ) (bs : List LiveBranch) (e : cleared ≡ map bare old) (laid : map bare old ≡ bare_nodes s 0 n ++ own_drops bs) where
  pub cleared_bare : map bare cleared ≡ map bare old
  cleared_bare = ap (map bare) e ∙ bare_again old

  pub cleared_rest : drop n (map bare cleared) ≡ own_drops bs
  cleared_rest = rw (cleared_bare, laid) (drop_front (bare_nodes s 0 n) (own_drops bs) n (nodes_count s 0 n))

  pub cleared_front : take n cleared ≡ bare_nodes s 0 n
  cleared_front = rw (e, laid) (take_front (bare_nodes s 0 n) (own_drops bs) n (nodes_count s 0 n))

  pub cleared_count : n ≤ length cleared
  cleared_count = rw (e, laid) (let k = nodes_count s 0 n in omega (arith, k, length-append (bare_nodes s 0 n) (own_drops bs)))

-- ---- all branches and the extra susceptance
module _ (s : ℕ) (h : Ends) (n : ℕ) (e : Ratio) (bs : List LiveBranch) where
  pub all_counted : (ds : List DropEnds) (o : Option (List DropEnds)) → Some ds ≡ with_branches s h bs (bare_nodes s 0 n) → o ≡ with_extra s h (n - 1) e ds → o ≡ counted_all s h n e bs
  all_counted ds o q k = k ∙ (ap (λ p. p >>= with_extra s h (n - 1) e) q ∙ extra_last s h bs (n - 1) e (bare_nodes s 0 n))

  pub none_counted : None ≡ with_branches s h bs (bare_nodes s 0 n) → None ≡ counted_all s h n e bs
  none_counted q = ap (λ p. p >>= with_extra s h (n - 1) e) q ∙ extra_last s h bs (n - 1) e (bare_nodes s 0 n)
