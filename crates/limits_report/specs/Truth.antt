-- What the squares of an order hold of its exact state.
use Rattle.std.specs.Prelude.{ℕ, List, IfSome}
use Rattle.std.specs.List.{AllByRecursion}
use Rattle.node_injection.specs.Injected.{ExactInjection, injected}
use Rattle.distortion_bounds.specs.Solved.{IsSolvedFor, HoldsVoltageSquare, HoldsCurrentSquare}
use Rattle.distortion_bounds.specs.Solver.{Solver, voltage_squares, current_squares}
use Rattle.harmonic_injection.specs.Injections.{injections_of}
use Rattle.spectrum_reader.specs.declared.injection.Injection.{Injection}
use Rattle.study_model.specs.declared.records.Study.{Study}
use Rattle.limits_report.specs.declared.site.Site.{Site}
use Rattle.limits_report.specs.declared.site.Subject.{Subject}
use Rattle.limits_report.specs.declared.site.Subject.TheVariants.{Voltage, Current}
use Rattle.limits_report.specs.Sites.{sites_of}
use Rattle.limits_report.specs.Table.{solver_at}

-- the squares of the voltage of a node, or of the current there
abbrev pub AreTrueSquares : ℕ → Solver → Subject → ℕ → Type 0
AreTrueSquares scale solver (Voltage number bus) node = HoldsVoltageSquare scale solver node (voltage_squares solver.ordering solver.found node)
AreTrueSquares scale solver (Current point) node =
    HoldsCurrentSquare scale solver point.element node (current_squares scale solver.network solver.ordering solver.found point.element node)

-- so of a site
abbrev pub IsTrueSite : ℕ → Solver → Site → Type 0
IsTrueSite scale solver site = AreTrueSquares scale solver site.subject site.node

-- where there is a solution, it is of the only exact state for these injections, and the squares of each site are true
pub record IsTrueSolver (scale : ℕ) (solver : Solver) (order : ℕ) (list : List ExactInjection) (sites : List Site) : Type 0 where
  pub solved : IfSome solver.found (λ solution. IsSolvedFor scale solver order (injected list))
  pub each : AllByRecursion (IsTrueSite scale solver) sites

-- the same of an order of a spectrum
abbrev pub IsTrueOrder : Study → List Injection → ℕ → Type 0
IsTrueOrder study rows order = IsTrueSolver study.scale (solver_at study rows order) order (injections_of study rows order) (sites_of study)
