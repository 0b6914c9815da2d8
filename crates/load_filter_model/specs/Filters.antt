-- Filters as branches.
use Rattle.std.specs.Prelude.{ℕ, ◌*◌, ◌^◌, ℤ, pos, ◌*ℤ◌, ◌-ℤ◌, unsigned_abs, List, [], ◌∷◌, Some, None, if◌then◌else◌}
use Rattle.exact_algebra.specs.Ratio.{Ratio, whole, over}
use Rattle.network_theory.specs.Branch.{Law, Series}
use Rattle.study_model.specs.declared.words.Sequence.{Sequence}
use Rattle.study_model.specs.declared.words.FilterKind.{FilterKind}
use Rattle.study_model.specs.declared.words.FilterKind.TheVariants.{Single, HighPass, CType}
use Rattle.study_model.specs.declared.records.Filter.{Filter}
use Rattle.study_model.specs.declared.records.Study.{Study}
use Rattle.element_parts.specs.PerUnit.{impedance_of_rating}
use Rattle.element_parts.specs.Expansion.{Expansion, series, open_circuit}
use Rattle.element_parts.specs.Phases.{power_in}
use Rattle.load_filter_model.specs.Presence.{is_present}
use Rattle.load_filter_model.specs.Ports.{Port, at_node, at_phases}

-- A filter of q MVAr is tuned to the order n and has the quality w. Its capacitor has the reactance xc = s/q.
-- the reactance that is tuned with it, xc/n²: s·10^12/(q·n²)
unfoldable pub tuned_reactance : ℤ → ℤ → ℤ → Ratio
tuned_reactance q n s = over (s *ℤ pos (10 ^ 12)) (unsigned_abs q * unsigned_abs (n *ℤ n))

-- the resistance of a single tuned filter, xc/(n·w): s·10^12/(q·n·w)
unfoldable pub tuned_resistance : ℤ → ℤ → ℤ → ℤ → Ratio
tuned_resistance q n w s = over (s *ℤ pos (10 ^ 12)) (unsigned_abs q * unsigned_abs (n *ℤ w))

-- the resistance of a high-pass filter, w·xc/n: w·s/(q·n)
unfoldable pub highpass_resistance : ℤ → ℤ → ℤ → ℤ → Ratio
highpass_resistance q n w s = over (w *ℤ s) (unsigned_abs (q *ℤ n))

-- n² - 1, in units of 10^-12
abbrev pub above_fundamental : ℤ → ℤ
above_fundamental n = n *ℤ n -ℤ pos (10 ^ 12)

-- the reactance of a C-type filter, xc/(n² - 1): s·10^12/(q·(n² - 1))
unfoldable pub ctype_reactance : ℤ → ℤ → ℤ → Ratio
ctype_reactance q n s = over (s *ℤ pos (10 ^ 12)) (unsigned_abs q * unsigned_abs (above_fundamental n))

-- the resistance of a C-type filter, w·n·xc/(n² - 1): w·n·s/(q·(n² - 1))
unfoldable pub ctype_resistance : ℤ → ℤ → ℤ → ℤ → Ratio
ctype_resistance q n w s = over (w *ℤ n *ℤ s) (unsigned_abs q * unsigned_abs (above_fundamental n))

-- a resistance, a reactance and a capacitor in series, with no skin coefficients
abbrev pub resonant : Ratio → Ratio → Ratio → Law
resonant r x xc = Series r (whole (pos 0)) (whole (pos 1)) x xc

-- single: Series r, x, xc to ground
abbrev pub single_laws : ℤ → ℤ → ℤ → ℤ → List Law
single_laws q n w s = resonant (tuned_resistance q n w s) (tuned_reactance q n s) (impedance_of_rating q s) ∷ []

-- highpass: Series r and Series x from the inner node to ground
abbrev pub highpass_laws : ℤ → ℤ → ℤ → ℤ → List Law
highpass_laws q n w s = series (highpass_resistance q n w s) (whole (pos 0)) ∷ series (whole (pos 0)) (tuned_reactance q n s) ∷ []

-- ctype: Series r, and Series x with xc equal to x, from the inner node to ground
abbrev pub ctype_laws : ℤ → ℤ → ℤ → ℤ → List Law
ctype_laws q n w s = series (ctype_resistance q n w s) (whole (pos 0)) ∷ resonant (whole (pos 0)) (ctype_reactance q n s) (ctype_reactance q n s) ∷ []

-- the capacitor before an inner node
abbrev pub capacitor : ℤ → ℤ → Law
capacitor q s = resonant (whole (pos 0)) (whole (pos 0)) (impedance_of_rating q s)

-- a filter of q MVAr by its kind, for a base of s MVA
abbrev pub filter_port : ℤ → Filter → ℤ → FilterKind → Port
filter_port s e q Single = record { capacitor = None; laws = single_laws q e.order e.quality s }
filter_port s e q HighPass = record { capacitor = Some (capacitor q s); laws = highpass_laws q e.order e.quality s }
filter_port s e q CType = record { capacitor = Some (capacitor q s); laws = ctype_laws q e.order e.quality s }

-- in the positive network to ground, in the zero network the same where grounded, else open
unfoldable pub filter_expansion : Study → Filter → ℕ → Sequence → ℕ → Expansion
filter_expansion study e owner sequence next = if is_present sequence e.grounded e.phase then at_node (filter_port study.mva e e.q e.kind) e.bus next owner else open_circuit

-- in the network of three phases
unfoldable pub filter_phases : Study → Filter → ℕ → ℕ → Expansion
filter_phases study e owner next = at_phases (filter_port study.mva e (power_in e.phase e.q) e.kind) e.grounded e.phase e.bus next owner
