-- What the answers of reduction and solving say of exact matrices.
use Rattle.std.proofs.Common.{List, length, ◌≡◌, ℕ, suc, ◌-◌, ◌≤◌, Result, Ok, Err, IfOk, OnOk, sym, subst, arith, rules}
use Rattle.exact_algebra.specs.Complex.{complex_numbers}
use Rattle.linear_systems.specs.Linear.{IsSquare}
use Rattle.complex_interval.specs.Rectangles.{Rectangle}
use Rattle.plain_elimination.specs.Elimination.{bind}
use Rattle.plain_elimination.specs.Matrix.{Square, HoldsComplements, HoldsSolutions}
use Rattle.plain_elimination.specs.Rectangles.{reduce_rectangles, solve_rectangles}
use Rattle.plain_elimination.specs.declared.failure.Failure.{Failure}
use Rattle.plain_elimination.proofs.Rectangles.{reduction_holds, solution_holds}

pub complements_held : {R : Type 0} (s : ℕ) (h : R → Rectangle) (m : Square) (result : Result R Failure) → 1 ≤ m.size → bind result (λ value. Ok (h value)) ≡ reduce_rectangles s m.rows
    → IfOk result (λ value. HoldsComplements s m (h value))
complements_held s h m (Err e) some k = search rules
complements_held s h m (Ok value) some k = λ exact square held.
    let size : m.size ≡ suc (m.size - 1) = omega arith in
    reduction_holds s (m.size - 1) m.rows (h value) exact (sym k) (subst (λ n. IsSquare complex_numbers n exact) size square) held

pub solutions_held : (s : ℕ) (m : Square) (right values : List Rectangle) (result : Result (Unit {0}) Failure) → length right ≡ m.size → bind result (λ _. Ok values) ≡ solve_rectangles s m.rows right
    → OnOk result (HoldsSolutions s m right values)
solutions_held s m right values (Err e) sizes k = search rules
solutions_held s m right values (Ok x) sizes k = λ exact exact_right square held held_right. solution_holds s m.size m.rows right values exact exact_right (sym k) square held held_right sizes
