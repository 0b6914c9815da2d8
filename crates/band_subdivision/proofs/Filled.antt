-- What the parts of a test say of a box.
use Rattle.std.proofs.Common.{◌≡◌, ◌∙◌, ℕ, zero, suc, ◌-◌, ◌≤◌, ◌<◌, ℤ, Bool, true, false, List, [], ◌∷◌, length, Option, Some, None, Result, refl, sym, subst, ap, ap₂, nat_le, arith}
use Rattle.std.specs.Prelude.{◌&&◌, ◌||◌, if◌then◌else◌, is_some}
use Rattle.std.proofs.lemmas.Bool.Decides.{nat_tests}
use Rattle.exact_algebra.specs.Ratio.{Ratio}
use Rattle.complex_interval.specs.Ends.{Ends, range_ends}
use Rattle.complex_interval.specs.Rectangles.{Rectangle}
use Rattle.plain_elimination.specs.Matrix.{entry, set_entry}
use Rattle.admittance_box.specs.Assembled.{Assembled}
use Rattle.admittance_box.specs.Steps.{◌>>=◌}
use Rattle.certified_inverse.specs.Certificate.{enclosure}
use Rattle.certified_inverse.specs.declared.outcome.InverseOutcome.{InverseOutcome}
use Rattle.branchwise_test.specs.Enclosed.{Near, near_of_branches, impedance_near_with}
use Rattle.branchwise_test.specs.declared.fault.BranchwiseFault.{BranchwiseFault}
use Rattle.branchwise_bench.specs.Pair.{BranchwisePair, branchwise_pair}
use Rattle.study_model.specs.declared.words.Method.{Method}
use Rattle.study_model.specs.declared.words.Method.TheVariants.{Elimination, Both, Branchwise}
use Rattle.band_subdivision.specs.Boxes.{BoxTest}
use Rattle.band_subdivision.specs.IntervalTest.{clear_bound, above_bound, is_clear_by, ohms_above_by, elimination_test}
use Rattle.band_subdivision.specs.InverseTest.{most_within, least_above, is_within_by, ohms_over_by, inverse_test}
use Rattle.band_subdivision.specs.BranchwisePart.{is_within_near, ohms_over_near, branchwise_part}
use Rattle.band_subdivision.specs.Levels.{Levels}
use Rattle.band_subdivision.specs.Parts.{or_else, where_near, nowhere, second_part}
use Rattle.band_subdivision.specs.PairTest.{Asked, with_extra, value_with, pair_value, with_last, last_enclosure, enclosure_with, pair_enclosure, pair_test}
use Rattle.band_subdivision.specs.Testing.{bench_for}
use Rattle.band_subdivision.specs.declared.second_bench.SecondBench.{SecondBench}
use Rattle.band_subdivision.specs.declared.second_bench.SecondBench.TheVariants.{Nothing, OfInverse, OfDrops}

-- ---- the method whose bench this is
module _ (E : Type 0) (s : ℕ) (a : Assembled) where
  -- the bench that a method asks for
  abbrev bench_of : Method → SecondBench E
  bench_of m = bench_for s m a

  module _ (locate : ℕ) (inverse branchwise : BoxTest) where
    nothing_asked : (m : Method) → Nothing ≡ bench_of m → second_part m locate inverse branchwise ≡ nowhere
    nothing_asked Elimination h = refl
    nothing_asked Both h = absurd cc
    nothing_asked Branchwise h = absurd cc

    inverse_asked : (m : Method) (n : ℕ) → OfInverse n ≡ bench_of m → second_part m locate inverse branchwise ≡ where_near locate inverse
    inverse_asked Elimination n h = absurd cc
    inverse_asked Both n h = refl
    inverse_asked Branchwise n h = absurd cc

    drops_asked : (m : Method) (p : BranchwisePair) → OfDrops p ≡ bench_of m → second_part m locate inverse branchwise ≡ branchwise
    drops_asked Elimination p h = absurd cc
    drops_asked Both p h = absurd cc
    drops_asked Branchwise p h = refl

  pub inverse_size_is : (m : Method) (n : ℕ) → OfInverse n ≡ bench_of m → n ≡ length a.ordering
  inverse_size_is Elimination n h = absurd cc
  inverse_size_is Both n h = cc
  inverse_size_is Branchwise n h = absurd cc

  drops_pair_is : (m : Method) (p : BranchwisePair) → OfDrops p ≡ bench_of m → p ≡ branchwise_pair s a
  drops_pair_is Elimination p h = absurd cc
  drops_pair_is Both p h = absurd cc
  drops_pair_is Branchwise p h = cc

-- ---- the enclosure by a matrix whose last entry was changed
length-set_entry : (rows : List (List Rectangle)) (i j : ℕ) (x : Rectangle) → length (set_entry rows i j x) ≡ length rows
length-set_entry [] i j x = refl
length-set_entry (r ∷ rows) zero j x = refl
length-set_entry (r ∷ rows) (suc i) j x = ap suc (length-set_entry rows i j x)

pub bind_is : {A B : Type 0} (o : Option A) (f : A → Option B) (a : A) (r : Option B) → o ≡ Some a → f a ≡ r → (o >>= f) ≡ r
bind_is o f a r e h = rw e h

pub enclosed_is : (s lo hi last : ℕ) (rows : List (List Rectangle)) (susceptance : Option Ends) (y sum : Rectangle) → last ≡ length rows - 1 → entry rows last last ≡ Some y → Some sum ≡ with_extra s susceptance lo hi y
    → enclosure s last (set_entry rows last last sum) ≡ last_enclosure s (with_last s susceptance lo hi rows)
enclosed_is s lo hi last rows susceptance y sum el ey es =
    let k = length rows - 1 in
    let at : entry rows k k ≡ Some y = subst (λ i. entry rows i i ≡ Some y) el ey in
    let more = set_entry rows k k sum in
    let made : with_last s susceptance lo hi rows ≡ Some more =
    bind_is (entry rows k k) (λ y. with_extra s susceptance lo hi y >>= (λ sum. Some (set_entry rows k k sum))) y (Some more) at
    (bind_is (with_extra s susceptance lo hi y) (λ sum. Some (set_entry rows k k sum)) sum (Some more) (sym es) refl) in
    let count : length more ≡ length rows = length-set_entry rows k k sum in
    let first : enclosure s last (set_entry rows last last sum) ≡ enclosure s k more = ap (λ i. enclosure s i (set_entry rows i i sum)) el in
    let second : enclosure s k more ≡ enclosure s (length more - 1) more = ap (λ n. enclosure s (n - 1) more) (sym count) in
    let third : enclosure s (length more - 1) more ≡ last_enclosure s (with_last s susceptance lo hi rows) = ap (last_enclosure s) (sym made) in
    first ∙ second ∙ third

-- the first answer where there is one, else the second
kept_first : (o p : Option ℤ) → is_some o ≡ true → or_else o p ≡ o
kept_first (Some x) p e = refl
kept_first None p e = absurd cc

kept_second : (o p : Option ℤ) → is_some o ≡ false → or_else o p ≡ p
kept_second (Some x) p e = absurd cc
kept_second None p e = refl

-- ---- the test of a box by its parts
narrow : (m n : ℕ) → m ≤ n → nat_le m n ≡ true
narrow m n h = grind (arith, nat_tests)

wide : (m n : ℕ) → n < m → nat_le m n ≡ false
wide m n h = grind (arith, nat_tests)

module _ (s : ℕ) (asked : Asked) (a : Assembled) (e : Ratio) (lo hi : ℕ) (kept : Levels) (el : kept ≡ asked.levels lo hi) where
  abbrev test : BoxTest
  test = pair_test s asked a.low a.high a.ordering e

  abbrev value : Option Rectangle
  value = pair_value s a.low a.high a.ordering e lo hi

  abbrev enclosed : ℕ → ℕ → InverseOutcome
  enclosed = pair_enclosure s a.low a.high a.ordering e

  abbrev estimated : ℕ → ℕ → Result Near BranchwiseFault
  estimated = impedance_near_with s a.low a.high a.ordering e

  abbrev inverse : BoxTest
  inverse = inverse_test s asked.levels enclosed

  abbrev branchwise : BoxTest
  branchwise = branchwise_part s asked.levels estimated

  abbrev second : BoxTest
  second = second_part asked.method asked.locate inverse branchwise

  -- both answers by their parts
  clear_is : test.clear lo hi ≡ (is_clear_by (clear_bound s (asked.levels lo hi)) value || second.clear lo hi)
  unfolding elimination_test
  clear_is = refl

  above_is : test.above lo hi ≡ or_else (ohms_above_by s (asked.levels lo hi) (above_bound s (asked.levels lo hi)) value) (second.above lo hi)
  unfolding elimination_test
  above_is = refl

  -- by the interval of the extra susceptance
  module _ (susceptance : Option Ends) (es : susceptance ≡ range_ends s e e) where
    -- the elimination part
    module _ (y : Option Rectangle) (ey : y ≡ value_with s a.low a.high a.ordering susceptance lo hi) where
      value_here : y ≡ value
      unfolding pair_value
      value_here = ey ∙ ap (λ b. value_with s a.low a.high a.ordering b lo hi) es

      first_clear : (bound : Option ℤ) (t : Bool) → bound ≡ clear_bound s kept → t ≡ is_clear_by bound y → is_clear_by (clear_bound s (asked.levels lo hi)) value ≡ t
      first_clear bound t eb et = sym (et ∙ ap₂ is_clear_by (eb ∙ ap (clear_bound s) el) value_here)

      first_above : (bound o : Option ℤ) → bound ≡ above_bound s kept → o ≡ ohms_above_by s kept bound y → ohms_above_by s (asked.levels lo hi) (above_bound s (asked.levels lo hi)) value ≡ o
      first_above bound o eb eo = sym (eo ∙ ap₂ (ohms_above_by s kept) eb value_here ∙ ap (λ l. ohms_above_by s l (above_bound s l) value) el)

      pub clear_first : (bound : Option ℤ) (t : Bool) → bound ≡ clear_bound s kept → t ≡ is_clear_by bound y → t ≡ true → true ≡ test.clear lo hi
      clear_first bound t eb et passed = sym (clear_is ∙ ap (λ u. u || second.clear lo hi) (first_clear bound t eb et ∙ passed))

      pub clear_second : (bound : Option ℤ) (t r : Bool) → bound ≡ clear_bound s kept → t ≡ is_clear_by bound y → t ≡ false → r ≡ second.clear lo hi → r ≡ test.clear lo hi
      clear_second bound t r eb et failed er = er ∙ sym (clear_is ∙ ap (λ u. u || second.clear lo hi) (first_clear bound t eb et ∙ failed))

      pub above_first : (bound o : Option ℤ) → bound ≡ above_bound s kept → o ≡ ohms_above_by s kept bound y → is_some o ≡ true → o ≡ test.above lo hi
      above_first bound o eb eo passed = sym (above_is ∙ ap (λ o. or_else o (second.above lo hi)) (first_above bound o eb eo) ∙ kept_first o _ passed)

      pub above_second : (bound o r : Option ℤ) → bound ≡ above_bound s kept → o ≡ ohms_above_by s kept bound y → is_some o ≡ false → r ≡ second.above lo hi → r ≡ test.above lo hi
      above_second bound o r eb eo failed er = er ∙ sym (above_is ∙ ap (λ o. or_else o (second.above lo hi)) (first_above bound o eb eo) ∙ kept_second o _ failed)

    -- the inverse part
    module _ (E : Type 0) (n : ℕ) (en : OfInverse n ≡ bench_of E s a asked.method) where
      asks : second ≡ where_near asked.locate inverse
      asks = inverse_asked E s a asked.locate inverse branchwise asked.method n en

      pub far_clear : asked.locate < hi - lo → false ≡ second.clear lo hi
      far_clear far = sym (ap (λ (t : BoxTest). t.clear lo hi) asks ∙ ap (λ t. t && inverse.clear lo hi) (wide _ _ far))

      pub far_above : asked.locate < hi - lo → None ≡ second.above lo hi
      far_above far = sym (ap (λ (t : BoxTest). t.above lo hi) asks ∙ ap (λ t. if t then inverse.above lo hi else None) (wide _ _ far))

      module _ (here : hi - lo ≤ asked.locate) (z : InverseOutcome) (ez : z ≡ enclosure_with s a.low a.high a.ordering susceptance lo hi) where
        enclosure_here : z ≡ enclosed lo hi
        unfolding pair_enclosure
        enclosure_here = ez ∙ ap (λ b. enclosure_with s a.low a.high a.ordering b lo hi) es

        pub inverse_clear : (r : Bool) → r ≡ is_within_by (most_within s kept) z → r ≡ second.clear lo hi
        unfolding inverse_test
        inverse_clear r er =
            er ∙ ap₂ is_within_by (ap (most_within s) el) enclosure_here ∙ sym (ap (λ (t : BoxTest). t.clear lo hi) asks ∙ ap (λ t. t && inverse.clear lo hi) (narrow _ _ here))

        pub inverse_above : (r : Option ℤ) → r ≡ ohms_over_by s kept (least_above s kept) z → r ≡ second.above lo hi
        unfolding inverse_test
        inverse_above r er =
            er ∙ ap₂ (λ l z. ohms_over_by s l (least_above s l) z) el enclosure_here ∙ sym (ap (λ (t : BoxTest). t.above lo hi) asks ∙ ap (λ t. if t then inverse.above lo hi else None) (narrow _ _ here))

  -- nothing
  pub nothing_clear : (E : Type 0) → Nothing ≡ bench_of E s a asked.method → false ≡ second.clear lo hi
  nothing_clear E en = sym (ap (λ (t : BoxTest). t.clear lo hi) (nothing_asked E s a asked.locate inverse branchwise asked.method en))

  pub nothing_above : (E : Type 0) → Nothing ≡ bench_of E s a asked.method → None ≡ second.above lo hi
  nothing_above E en = sym (ap (λ (t : BoxTest). t.above lo hi) (nothing_asked E s a asked.locate inverse branchwise asked.method en))

  -- the branch-wise part
  module _ (E : Type 0) (p : BranchwisePair) (ep : OfDrops p ≡ bench_of E s a asked.method) (found : Result Near BranchwiseFault) (ef : found ≡ near_of_branches s p.nodes p.branches e lo hi) where
    estimate_here : found ≡ estimated lo hi
    unfolding impedance_near_with
    estimate_here = ef ∙ ap (λ (p : BranchwisePair). near_of_branches s p.nodes p.branches e lo hi) (drops_pair_is E s a asked.method p ep)

    pub drops_clear : (r : Bool) → r ≡ is_within_near (most_within s kept) found → r ≡ second.clear lo hi
    unfolding branchwise_part
    drops_clear r er =
        er ∙ ap₂ is_within_near (ap (most_within s) el) estimate_here ∙ sym (ap (λ (t : BoxTest). t.clear lo hi) (drops_asked E s a asked.locate inverse branchwise asked.method p ep))

    pub drops_above : (r : Option ℤ) → r ≡ ohms_over_near s kept (least_above s kept) found → r ≡ second.above lo hi
    unfolding branchwise_part
    drops_above r er =
        er ∙ ap₂ (λ l f. ohms_over_near s l (least_above s l) f) el estimate_here ∙ sym (ap (λ (t : BoxTest). t.above lo hi) (drops_asked E s a asked.locate inverse branchwise asked.method p ep))
