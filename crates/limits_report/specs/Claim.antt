-- What the report on distortion claims of a study and a spectrum.
use Rattle.std.specs.Prelude.{◌≡◌, ◌≢◌, ℕ, pos, List, ◌∷◌, Option, Some, None, IfSome, slice_get}
use Rattle.std.specs.List.{AllByRecursion, AllZip, filter}
use Rattle.exact_algebra.specs.Ratio.{Ratio, plus, whole}
use Rattle.network_theory.specs.Reach.{is_live}
use Rattle.network_theory.specs.State.{State, IsExactState}
use Rattle.network_theory.specs.Laws.{SameState}
use Rattle.network_theory.specs.DrivingPoint.{HasOnlyZeroState}
use Rattle.node_injection.specs.Injected.{injected}
use Rattle.admittance_box.specs.Terminal.{terminal_of}
use Rattle.ieee519_limits.specs.declared.bounds.PercentBounds.{PercentBounds}
use Rattle.ieee519_limits.specs.declared.bounds.Verdict.{Verdict}
use Rattle.ieee519_limits.specs.declared.bounds.Verdict.TheVariants.{Undecided}
use Rattle.ieee519_limits.specs.Verdicts.{IsVerdict}
use Rattle.ieee519_limits.specs.ExactVerdicts.{IsExactVerdict, Bounds}
use Rattle.distortion_bounds.specs.Distortion.{voltage_square, current_square}
use Rattle.distortion_bounds.specs.Solved.{whole_order}
use Rattle.scan_report.specs.declared.rows.PhaseWord.{PhaseWord}
use Rattle.scan_report.specs.declared.rows.Row.{Row}
use Rattle.scan_report.specs.declared.rows.Row.TheVariants as row
use Rattle.harmonic_injection.specs.Injections.{injections_of}
use Rattle.spectrum_reader.specs.declared.injection.Injection.{Injection}
use Rattle.spectrum_reader.specs.declared.level.Level.{Level}
use Rattle.study_model.specs.Voltages.{kv_of}
use Rattle.study_model.specs.declared.records.Bus.{Bus}
use Rattle.study_model.specs.declared.records.Pcc.{Pcc}
use Rattle.study_model.specs.declared.records.Study.{Study}
use Rattle.limits_report.specs.Sites.{node_in}
use Rattle.limits_report.specs.Table.{orders_of, network_at}
use Rattle.limits_report.specs.Report.{limits_rows_of}

-- an exact state of an order for the spectrum's injections, which is the only one; without injections only the zero state is one
pub record IsOnlyState (study : Study) (rows : List Injection) (order : ℕ) (s : State) : Type 0 where
  pub exact : IsExactState (network_at study order) (whole_order order) (injected (injections_of study rows order)) s
  pub only : (t : State) → IsExactState (network_at study order) (whole_order order) (injected (injections_of study rows order)) t → SameState (network_at study order) t s
  pub only_zero : HasOnlyZeroState (network_at study order) (whole_order order)

-- a distortion of this square lies between the bounds, and a verdict of pass or fail is the exact one
pub record IsJudged (square : Ratio) (bounds : PercentBounds) (limit : ℕ) (verdict : Verdict) : Type 0 where
  pub between : Bounds (Some bounds) square
  pub exact : verdict ≢ Undecided → IsExactVerdict square limit verdict

-- both bounds, where both are there
abbrev pub both : Option ℕ → Option ℕ → Option PercentBounds
both (Some lo) (Some hi) = Some (record { lo = lo; hi = hi })
both _ _ = None

-- the orders of the spectrum in whose network a node is live
abbrev pub live_orders : Study → List Injection → ℕ → List ℕ
live_orders study rows node = filter (λ order. is_live (network_at study order) node) (orders_of rows)

-- the distortion square of the voltage of a node, in a state
abbrev pub voltage_in : ℕ → State → Ratio
voltage_in node s = voltage_square (s.voltage node)

-- and of the current from a node into a point's element, in a state of the network of an order
abbrev pub current_in : Study → Pcc → ℕ → ℕ → State → Ratio
current_in study point node order s =
    current_square (kv_of study.buses point.bus) study.mva point.il (terminal_of point.element (network_at study order).branches s.current node)

-- One order: the verdict is by the bounds, undecided only where they are absent or the limit lies between them; and where there are bounds, the
-- order has exactly one exact state, which is judged.
pub record IsTrueAt (study : Study) (rows : List Injection) (order : ℕ) (square : State → Ratio) (bounds : Option PercentBounds) (limit : ℕ) (verdict : Verdict) : Type 0 where
  pub by_bounds : IsVerdict bounds limit verdict
  pub known : IfSome bounds (λ b. (s : State) × IsOnlyState study rows order s × IsJudged (square s) b limit verdict)

-- the sum over orders, each in its state
abbrev pub sum_over : (ℕ → State → Ratio) → List ℕ → List State → Ratio
sum_over square (order ∷ orders) (s ∷ states) = plus (square order s) (sum_over square orders states)
sum_over square _ _ = whole (pos 0)

-- Several orders: the same of the sum over the exact states of all.
pub record IsTrueOver (study : Study) (rows : List Injection) (orders : List ℕ) (square : ℕ → State → Ratio) (bounds : Option PercentBounds) (limit : ℕ) (verdict : Verdict) : Type 0 where
  pub by_bounds : IsVerdict bounds limit verdict
  pub known : IfSome bounds (λ b. (states : List State) × AllZip (IsOnlyState study rows) orders states × IsJudged (sum_over square orders states) b limit verdict)

-- the row of a voltage: it is one of the bus that it names, at the node of the phase
pub record IsTrueVoltage (study : Study) (rows : List Injection) (name : List ℕ) (phase : PhaseWord) (order : ℕ) (bounds : Option PercentBounds) (limit : ℕ) (verdict : Verdict) : Type 0 where
  pub number : ℕ
  pub bus : Bus
  pub at : slice_get study.buses number ≡ Some bus
  pub named : bus.name ≡ name
  pub holds : IsTrueAt study rows order (voltage_in (node_in study.model number phase)) bounds limit verdict

-- that of the total distortion of a voltage, over the orders in whose network the node is live
pub record IsTrueThd (study : Study) (rows : List Injection) (name : List ℕ) (phase : PhaseWord) (bounds : Option PercentBounds) (limit : ℕ) (verdict : Verdict) : Type 0 where
  pub number : ℕ
  pub bus : Bus
  pub at : slice_get study.buses number ≡ Some bus
  pub named : bus.name ≡ name
  pub holds : IsTrueOver study rows (live_orders study rows (node_in study.model number phase)) (λ order. voltage_in (node_in study.model number phase)) bounds limit verdict

-- that of a current: it is one at the point that it names, at the node of its bus and the phase
pub record IsTrueCurrent (study : Study) (rows : List Injection) (name : List ℕ) (phase : PhaseWord) (order : ℕ) (bounds : Option PercentBounds) (limit : ℕ) (verdict : Verdict) : Type 0 where
  pub number : ℕ
  pub point : Pcc
  pub at : slice_get study.points number ≡ Some point
  pub named : point.name ≡ name
  pub holds : IsTrueAt study rows order (current_in study point (node_in study.model point.bus phase) order) bounds limit verdict

-- that of the total demand distortion at a point, over the orders in whose network the node is live
pub record IsTrueTdd (study : Study) (rows : List Injection) (name : List ℕ) (phase : PhaseWord) (bounds : Option PercentBounds) (limit : ℕ) (verdict : Verdict) : Type 0 where
  pub number : ℕ
  pub point : Pcc
  pub at : slice_get study.points number ≡ Some point
  pub named : point.name ≡ name
  pub holds : IsTrueOver study rows (live_orders study rows (node_in study.model point.bus phase)) (current_in study point (node_in study.model point.bus phase)) bounds limit verdict

-- what a row says is true; the counts and the status say nothing of the network
abbrev pub IsTrueRow : Study → List Injection → Row → Type 0
IsTrueRow study rows (row.Voltage bus phase order lo hi limit verdict) = IsTrueVoltage study rows bus phase order (both lo hi) limit verdict
IsTrueRow study rows (row.Thd bus phase lo hi limit verdict) = IsTrueThd study rows bus phase (both lo hi) limit verdict
IsTrueRow study rows (row.Current point phase order lo hi limit verdict) = IsTrueCurrent study rows point phase order (both lo hi) limit verdict
IsTrueRow study rows (row.Tdd point phase lo hi limit verdict) = IsTrueTdd study rows point phase (both lo hi) limit verdict
IsTrueRow study rows _ = Unit {0}

-- so does each row of the report
abbrev pub HoldsOfLimits : Study → List Injection → List Level → Type 0
HoldsOfLimits study rows levels = AllByRecursion (IsTrueRow study rows) (limits_rows_of study rows levels)
