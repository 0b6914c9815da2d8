-- What a cell says of the exact state of its order.
use Rattle.std.proofs.Common.{◌≡◌, ap, sym, subst, ℕ, zero, suc, Bool, true, false, refl, List, [], ◌∷◌, map}
use Rattle.std.specs.Prelude.{slice_get, Option, Some, None, IfSome}
use Rattle.std.specs.List.{AllByRecursion}
use Rattle.exact_algebra.specs.Complex.{Complex, square_size}
use Rattle.network_theory.specs.Reach.{is_live}
use Rattle.network_theory.specs.State.{State}
use Rattle.node_injection.specs.Injected.{injected}
use Rattle.admittance_box.specs.Terminal.{terminal_of}
use Rattle.distortion_bounds.specs.declared.squares.Squares.{Squares}
use Rattle.distortion_bounds.specs.Squares.{HoldsSquare}
use Rattle.distortion_bounds.specs.Laws.{HoldsSizes}
use Rattle.distortion_bounds.specs.Solved.{IsSolvedFor, HoldsVoltageSquare, HoldsCurrentSquare}
use Rattle.distortion_bounds.specs.Solver.{Solution, voltage_squares, current_squares}
use Rattle.harmonic_injection.specs.Injections.{injections_of}
use Rattle.spectrum_reader.specs.declared.injection.Injection.{Injection}
use Rattle.study_model.specs.declared.records.Pcc.{Pcc}
use Rattle.study_model.specs.declared.records.Study.{Study}
use Rattle.limits_report.specs.declared.cell.Cell.{Cell}
use Rattle.limits_report.specs.declared.cell.Cell.TheVariants.{Dead, Live}
use Rattle.limits_report.specs.Cells.{cell_at}
use Rattle.limits_report.specs.declared.site.Site.{Site}
use Rattle.limits_report.specs.declared.site.Subject.{Subject}
use Rattle.limits_report.specs.declared.site.Subject.TheVariants.{Voltage, Current}
use Rattle.limits_report.specs.Sites.{sites_of}
use Rattle.limits_report.specs.Table.{network_at, solver_at, cell_of, squares_at, site_cell, cells_of}
use Rattle.limits_report.specs.Truth.{AreTrueSquares, IsTrueSite, IsTrueOrder}
use Rattle.limits_report.specs.Claim.{IsOnlyState}

-- an only state, of which the squares hold the square of the size of a value
pub record HasSizes (study : Study) (rows : List Injection) (order : ℕ) (value : State → Complex) (q : Squares) : Type 0 where
  pub state : State
  pub only : IsOnlyState study rows order state
  pub held : HoldsSizes study.scale q (value state)

-- the cell says whether its node is live, and its squares hold the value in the only state
abbrev pub IsTrueCell : Study → List Injection → ℕ → (State → Complex) → ℕ → Cell → Type 0
IsTrueCell study rows node value order Dead = is_live (network_at study order) node ≡ false
IsTrueCell study rows node value order (Live squares) = (is_live (network_at study order) node ≡ true) × IfSome squares (HasSizes study rows order value)

with_squares : (study : Study) (rows : List Injection) (order : ℕ) (value : State → Complex) (s : State) (squares : Option Squares) → IsOnlyState study rows order s
    → IfSome squares (λ q. HoldsSquare study.scale q (square_size (value s))) → IfSome squares (HasSizes study rows order value)
with_squares study rows order value s None only h = tt
with_squares study rows order value s (Some q) only h = record { state = s; only = only; held = h }

-- the only state of a solver that found a solution
only_of : (study : Study) (rows : List Injection) (order : ℕ) (solved : IsSolvedFor study.scale (solver_at study rows order) order (injected (injections_of study rows order)))
    → IsOnlyState study rows order solved.one.state
unfolding solver_at
only_of study rows order solved = record { exact = solved.one.exact; only = solved.one.only; only_zero = solved.one.only_zero }

by_found_voltage : (study : Study) (rows : List Injection) (order n : ℕ) (found : Option Solution) → (solver_at study rows order).found ≡ found
    → IfSome found (λ solution. IsSolvedFor study.scale (solver_at study rows order) order (injected (injections_of study rows order)))
    → HoldsVoltageSquare study.scale (solver_at study rows order) n (voltage_squares (solver_at study rows order).ordering found n)
    → IfSome (voltage_squares (solver_at study rows order).ordering found n) (HasSizes study rows order (λ s. s.voltage n))
by_found_voltage study rows order n None e solved holds = tt
by_found_voltage study rows order n (Some solution) e solved holds =
    with_squares study rows order (λ s. s.voltage n) solved.one.state _ (only_of study rows order solved) (holds _ solved.found solved.one.state.voltage solved.held)

voltage_held : (study : Study) (rows : List Injection) (order n : ℕ)
    → IfSome (solver_at study rows order).found (λ solution. IsSolvedFor study.scale (solver_at study rows order) order (injected (injections_of study rows order)))
    → HoldsVoltageSquare study.scale (solver_at study rows order) n (voltage_squares (solver_at study rows order).ordering (solver_at study rows order).found n)
    → IfSome (voltage_squares (solver_at study rows order).ordering (solver_at study rows order).found n) (HasSizes study rows order (λ s. s.voltage n))
voltage_held study rows order n solved holds = by_found_voltage study rows order n (solver_at study rows order).found refl solved holds

-- the terminal current of a point's element at a node, in a state of the network of an order
abbrev pub point_current : Study → Pcc → ℕ → ℕ → State → Complex
point_current study point node order s = terminal_of point.element (network_at study order).branches s.current node

by_found_current : (study : Study) (rows : List Injection) (order : ℕ) (point : Pcc) (node : ℕ) (found : Option Solution) → (solver_at study rows order).found ≡ found
    → IfSome found (λ solution. IsSolvedFor study.scale (solver_at study rows order) order (injected (injections_of study rows order)))
    → HoldsCurrentSquare study.scale (solver_at study rows order) point.element node
    (current_squares study.scale (solver_at study rows order).network (solver_at study rows order).ordering found point.element node)
    → IfSome (current_squares study.scale (solver_at study rows order).network (solver_at study rows order).ordering found point.element node)
    (HasSizes study rows order (point_current study point node order))
unfolding solver_at
by_found_current study rows order point node None e solved holds = tt
by_found_current study rows order point node (Some solution) e solved holds =
    with_squares study rows order (point_current study point node order) solved.one.state _ (only_of study rows order solved)
    (holds _ solved.found (injected (injections_of study rows order)) solved.one.state solved.one.exact solved.held)

current_held : (study : Study) (rows : List Injection) (order : ℕ) (point : Pcc) (node : ℕ)
    → IfSome (solver_at study rows order).found (λ solution. IsSolvedFor study.scale (solver_at study rows order) order (injected (injections_of study rows order)))
    → HoldsCurrentSquare study.scale (solver_at study rows order) point.element node
    (current_squares study.scale (solver_at study rows order).network (solver_at study rows order).ordering (solver_at study rows order).found point.element node)
    → IfSome (current_squares study.scale (solver_at study rows order).network (solver_at study rows order).ordering (solver_at study rows order).found point.element node)
    (HasSizes study rows order (point_current study point node order))
current_held study rows order point node solved holds = by_found_current study rows order point node (solver_at study rows order).found refl solved holds

-- ---- sites
-- the value of what is said at a node, in a state of the network of an order
abbrev pub value_of : Study → Subject → ℕ → ℕ → State → Complex
value_of study (Voltage number bus) node order s = s.voltage node
value_of study (Current point) node order s = point_current study point node order s

site_held : (study : Study) (rows : List Injection) (order : ℕ) (subject : Subject) (node : ℕ)
    → IfSome (solver_at study rows order).found (λ solution. IsSolvedFor study.scale (solver_at study rows order) order (injected (injections_of study rows order)))
    → AreTrueSquares study.scale (solver_at study rows order) subject node
    → IfSome (squares_at study.scale (solver_at study rows order) subject node) (HasSizes study rows order (value_of study subject node order))
site_held study rows order (Voltage number bus) node solved holds = voltage_held study rows order node solved holds
site_held study rows order (Current point) node solved holds = current_held study rows order point node solved holds

by_live : (study : Study) (rows : List Injection) (node : ℕ) (value : State → Complex) (order : ℕ) (b : Bool) (squares : Option Squares) → is_live (network_at study order) node ≡ b
    → IfSome squares (HasSizes study rows order value) → IsTrueCell study rows node value order (cell_of b squares)
by_live study rows node value order true squares e h = (e, h)
by_live study rows node value order false squares e h = e

cell_there : (f : Site → Cell) (sites : List Site) (k : ℕ) (site : Site) → slice_get sites k ≡ Some site → cell_at (map f sites) k ≡ f site
cell_there f [] k site e = absurd (cc)
cell_there f (s ∷ sites) zero site e = let same : s ≡ site = cc in ap f same
cell_there f (s ∷ sites) (suc k) site e = cell_there f sites k site e

pub one_at : {X : Type 0} (P : X → Type 0) (xs : List X) (k : ℕ) (x : X) → slice_get xs k ≡ Some x → AllByRecursion P xs → P x
one_at P [] k x e all = absurd (cc)
one_at P (y ∷ xs) zero x e all = let same : y ≡ x = cc in subst P same all.0
one_at P (y ∷ xs) (suc k) x e all = one_at P xs k x e all.1

-- the cell of a site is true of what is said there
pub site_true : (study : Study) (rows : List Injection) (order k : ℕ) (site : Site) → IsTrueOrder study rows order → slice_get (sites_of study) k ≡ Some site
    → IsTrueCell study rows site.node (value_of study site.subject site.node order) order (cell_at (cells_of study rows order).cells k)
unfolding cells_of
site_true study rows order k site h at =
    let held = site_held study rows order site.subject site.node h.solved (one_at (IsTrueSite study.scale (solver_at study rows order)) (sites_of study) k site at h.each) in
    let live : is_live (network_at study order) site.node ≡ is_live (solver_at study rows order).network site.node = unfold solver_at in refl in
    subst (IsTrueCell study rows site.node (value_of study site.subject site.node order) order) (sym (cell_there (site_cell study.scale (solver_at study rows order)) (sites_of study) k site at))
    (by_live study rows site.node (value_of study site.subject site.node order) order (is_live (solver_at study rows order).network site.node) _ live held)
