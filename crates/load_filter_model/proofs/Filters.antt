-- The branches of a filter of a lawful study are sound: at its bus and its inner node.
use Rattle.std.proofs.Common.{◌≡◌, ℕ, ◌≤◌, ◌*◌, ◌^◌, ◌*ℤ◌, ℤ, pos, unsigned_abs, Bool, true, false, length, mul-le-mul, arith}
use Rattle.std.proofs.lemmas.Int.{ints}
use Rattle.std.specs.Prelude.{None, if◌then◌else◌}
use Rattle.element_parts.specs.Phases.{power_in}
use Rattle.exact_algebra.specs.Ratio.{Ratio, whole}
use Rattle.study_model.specs.Range.{IsIn}
use Rattle.study_model.specs.Lawful.{IsLawful, IsLawfulFilter}
use Rattle.study_model.specs.declared.range.TheConstants.Range.{BASE_MVA, TUNED_ORDER, QUALITY}
use Rattle.study_model.specs.declared.words.Sequence.{Sequence}
use Rattle.study_model.specs.declared.words.FilterKind.{FilterKind}
use Rattle.study_model.specs.declared.words.FilterKind.TheVariants.{Single, HighPass, CType}
use Rattle.study_model.specs.declared.records.Filter.{Filter}
use Rattle.study_model.specs.declared.records.Study.{Study}
use Rattle.element_parts.specs.PerUnit.{impedance_of_rating}
use Rattle.element_parts.specs.Expansion.{Expansion, open_circuit}
use Rattle.element_parts.specs.Plain.{IsPlainLaw}
use Rattle.element_parts.specs.Small.{IsSmall}
use Rattle.element_parts.proofs.Numbers.{product_not_nought}
use Rattle.element_parts.proofs.SmallValues.{small_over, size, small_zero, small_one, small_rating}
use Rattle.element_parts.proofs.Sound.{IsSoundLaw, IsSound, sound_series}
use Rattle.element_parts.proofs.Values.{product_above, base_above}
use Rattle.load_filter_model.specs.Presence.{is_present}
use Rattle.load_filter_model.specs.Filters.{tuned_reactance, tuned_resistance, highpass_resistance, above_fundamental, ctype_reactance, ctype_resistance, resonant, capacitor, filter_port, filter_expansion, filter_phases}
use Rattle.load_filter_model.specs.Ports.{at_node}
use Rattle.load_filter_model.proofs.Ports.{IsSoundPort, at_node_sound, at_phases_sound}
use Rattle.load_filter_model.proofs.Sound.{rating_there, IsRating, rating_in}
use Rattle.load_filter_model.proofs.TunedValues.{order_square, order_quality}

-- what a filter's values are made of: its rating q, its order n, its quality w, and the base s
record AreTuned (q n w s : ℤ) : Type 0 where
  rating : IsRating q
  order : IsIn TUNED_ORDER n
  quality : IsIn QUALITY w
  base : IsIn BASE_MVA s

-- ---- sizes
order_size : (n : ℤ) → IsIn TUNED_ORDER n → unsigned_abs n ≤ 10 ^ 8
order_size n h = omega (arith, ints, h.0, h.1)

quality_size : (w : ℤ) → IsIn QUALITY w → unsigned_abs w ≤ 10 ^ 9
quality_size w h = omega (arith, ints, h.0, h.1)

million_million : (s : ℤ) → IsIn BASE_MVA s → unsigned_abs (s *ℤ pos (10 ^ 12)) ≤ 10 ^ 31
million_million s h = omega (arith, size s (pos (10 ^ 12)) (10 ^ 10) (10 ^ 12) (base_above s h).1 (omega arith))

fundamental_size : (q n : ℤ) → IsRating q → IsIn TUNED_ORDER n → unsigned_abs q * unsigned_abs (above_fundamental n) ≤ 10 ^ 31
fundamental_size q n h k =
    let square = order_square n k in
    let above : unsigned_abs (above_fundamental n) ≤ 10 ^ 16 = omega (arith, ints, square.0, square.1) in
    omega (arith, mul-le-mul h.size above)

small_tuned : (q n w s : ℤ) → AreTuned q n w s → IsSmall (tuned_reactance q n s)
unfolding tuned_reactance
small_tuned q n w s h =
    small_over (s *ℤ pos (10 ^ 12)) (unsigned_abs q * unsigned_abs (n *ℤ n)) (million_million s h.base) (omega (arith, mul-le-mul h.rating.size (order_square n h.order).0))

small_single : (q n w s : ℤ) → AreTuned q n w s → IsSmall (tuned_resistance q n w s)
unfolding tuned_resistance
small_single q n w s h =
    small_over (s *ℤ pos (10 ^ 12)) (unsigned_abs q * unsigned_abs (n *ℤ w)) (million_million s h.base) (omega (arith, mul-le-mul h.rating.size (order_quality n w h.order h.quality).0))

small_highpass : (q n w s : ℤ) → AreTuned q n w s → IsSmall (highpass_resistance q n w s)
unfolding highpass_resistance
small_highpass q n w s h =
    small_over (w *ℤ s) (unsigned_abs (q *ℤ n)) (omega (arith, size w s (10 ^ 9) (10 ^ 10) (quality_size w h.quality) (base_above s h.base).1))
    (omega (arith, size q n (3 * 10 ^ 12) (10 ^ 8) h.rating.size (order_size n h.order)))

small_ctype_reactance : (q n w s : ℤ) → AreTuned q n w s → IsSmall (ctype_reactance q n s)
unfolding ctype_reactance
small_ctype_reactance q n w s h = small_over (s *ℤ pos (10 ^ 12)) (unsigned_abs q * unsigned_abs (above_fundamental n)) (million_million s h.base) (fundamental_size q n h.rating h.order)

small_ctype_resistance : (q n w s : ℤ) → AreTuned q n w s → IsSmall (ctype_resistance q n w s)
unfolding ctype_resistance
small_ctype_resistance q n w s h =
    let both : unsigned_abs (w *ℤ n) ≤ 10 ^ 17 = omega (arith, size w n (10 ^ 9) (10 ^ 8) (quality_size w h.quality) (order_size n h.order)) in
    small_over (w *ℤ n *ℤ s) (unsigned_abs q * unsigned_abs (above_fundamental n)) (omega (arith, size (w *ℤ n) s (10 ^ 17) (10 ^ 10) both (base_above s h.base).1)) (fundamental_size q n h.rating h.order)

-- ---- laws
sound_resonant : (r x xc : Ratio) → IsPlainLaw (resonant r x xc) → IsSmall r → IsSmall x → IsSmall xc → IsSoundLaw (resonant r x xc)
sound_resonant r x xc p h k l = record { plain = p; small = (h, small_zero, small_one, k, l) }

tuned_there : (q n w s : ℤ) → AreTuned q n w s → ¬ ((tuned_reactance q n s).num ≡ pos 0)
unfolding tuned_reactance
tuned_there q n w s h e = product_not_nought s (pos (10 ^ 12)) (base_above s h.base).0 (omega (arith, ints)) e

highpass_there : (q n w s : ℤ) → AreTuned q n w s → ¬ ((highpass_resistance q n w s).num ≡ pos 0)
unfolding highpass_resistance
highpass_there q n w s h e = product_not_nought w s (omega (arith, ints, h.quality.0)) (base_above s h.base).0 e

ctype_reactance_there : (q n w s : ℤ) → AreTuned q n w s → ¬ ((ctype_reactance q n s).num ≡ pos 0)
unfolding ctype_reactance
ctype_reactance_there q n w s h e = product_not_nought s (pos (10 ^ 12)) (base_above s h.base).0 (omega (arith, ints)) e

ctype_resistance_there : (q n w s : ℤ) → AreTuned q n w s → ¬ ((ctype_resistance q n w s).num ≡ pos 0)
unfolding ctype_resistance
ctype_resistance_there q n w s h e =
    product_not_nought (w *ℤ n) s (product_above w n (omega (arith, ints, h.quality.0)) (omega (arith, ints, h.order.0))) (base_above s h.base).0 e

-- ---- ports
capacitor_sound : (q n w s : ℤ) → AreTuned q n w s → IsSoundLaw (capacitor q s)
capacitor_sound q n w s h =
    sound_resonant (whole (pos 0)) (whole (pos 0)) (impedance_of_rating q s) (λ z. rating_there q s h.base z.2) small_zero small_zero (small_rating q s (omega (arith, h.rating.size)) h.base)

of_kind : (s : ℤ) (e : Filter) (q : ℤ) (kind : FilterKind) → AreTuned q e.order e.quality s → IsSoundPort (filter_port s e q kind)
of_kind s e q Single h = record {
  capacitor = tt;
  laws = (
    sound_resonant (tuned_resistance q e.order e.quality s) (tuned_reactance q e.order s) (impedance_of_rating q s) (λ z. rating_there q s h.base z.2)
        (small_single q e.order e.quality s h) (small_tuned q e.order e.quality s h) (small_rating q s (omega (arith, h.rating.size)) h.base),
    tt,
  );
}
of_kind s e q HighPass h = record {
  capacitor = capacitor_sound q e.order e.quality s h;
  laws = (
    sound_series (highpass_resistance q e.order e.quality s) (whole (pos 0)) (λ z. highpass_there q e.order e.quality s h z.0) (small_highpass q e.order e.quality s h) small_zero,
    (sound_series (whole (pos 0)) (tuned_reactance q e.order s) (λ z. tuned_there q e.order e.quality s h z.1) small_zero (small_tuned q e.order e.quality s h), tt),
  );
}
of_kind s e q CType h =
    let reactance = small_ctype_reactance q e.order e.quality s h in
    record {
      capacitor = capacitor_sound q e.order e.quality s h;
      laws = (
        sound_series (ctype_resistance q e.order e.quality s) (whole (pos 0)) (λ z. ctype_resistance_there q e.order e.quality s h z.0) (small_ctype_resistance q e.order e.quality s h) small_zero,
        (sound_resonant (whole (pos 0)) (ctype_reactance q e.order s) (ctype_reactance q e.order s) (λ z. ctype_reactance_there q e.order e.quality s h z.1) small_zero reactance reactance, tt),
      );
    }

where_present : (present : Bool) (next owner : ℕ) (e : Expansion) → IsSound next owner e → IsSound next owner (if present then e else open_circuit)
where_present true next owner e h = h
where_present false next owner e h = tt

pub filter_sound : (study : Study) (e : Filter) (owner : ℕ) (sequence : Sequence) (next : ℕ) → IsLawful study → IsLawfulFilter study.model study.buses e → length study.buses ≤ next
    → IsSound next owner (filter_expansion study e owner sequence next)
unfolding filter_expansion
filter_sound study e owner sequence next s l n =
    where_present (is_present sequence e.grounded e.phase) next owner (at_node (filter_port study.mva e e.q e.kind) e.bus next owner)
    (at_node_sound (filter_port study.mva e e.q e.kind) e.bus next owner (omega (arith, l.bus))
    (of_kind study.mva e e.q e.kind (record { rating = rating_in None e.q l.q; order = l.order; quality = l.quality; base = s.mva })))

pub filter_phases_sound : (study : Study) (e : Filter) (owner next : ℕ) → IsLawful study → IsLawfulFilter study.model study.buses e → 3 * length study.buses ≤ next
    → IsSound next owner (filter_phases study e owner next)
unfolding filter_phases
filter_phases_sound study e owner next s l n =
    let q = power_in e.phase e.q in
    at_phases_sound (filter_port study.mva e q e.kind) e.grounded e.phase e.bus next owner (omega (arith, l.bus, n))
    (of_kind study.mva e q e.kind (record { rating = rating_in e.phase e.q l.q; order = l.order; quality = l.quality; base = s.mva }))
