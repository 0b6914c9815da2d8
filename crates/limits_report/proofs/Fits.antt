-- Cells whose squares are in order and at most 2^125.
use Rattle.std.proofs.Common.{◌≡◌, ◌∙◌, ap, sym, subst, ℕ, ◌≤◌, Bool, true, false, List, [], ◌∷◌, ◌++◌, append_assoc, refl}
use Rattle.std.specs.Prelude.{zero, suc, Option, Some, None, option_map}
use Rattle.std.specs.List.{AllByRecursion}
use Rattle.distortion_bounds.specs.Squares.{AreSquares}
use Rattle.distortion_bounds.specs.declared.squares.Squares.{Squares}
use Rattle.limits_report.specs.declared.cell.Cell.{Cell}
use Rattle.limits_report.specs.declared.cell.Cell.TheVariants.{Dead, Live}
use Rattle.limits_report.specs.declared.cell.OrderCells.{OrderCells}
use Rattle.limits_report.specs.Cells.{cell_at, column_of, live_squares}
use Rattle.limits_report.specs.Fit.{IsFitCell, AreFitCells}
use Rattle.limits_report.specs.Gathering.{Gathers}

pub fit_at : (cells : List Cell) (number : ℕ) → AllByRecursion IsFitCell cells → IsFitCell (cell_at cells number)
fit_at [] number h = tt
fit_at (c ∷ cells) zero h = h.0
fit_at (c ∷ cells) (suc n) h = fit_at cells n h.1

pub fit_column : (number : ℕ) (table : List OrderCells) → AllByRecursion AreFitCells table → AllByRecursion IsFitCell (column_of number table)
fit_column number [] h = tt
fit_column number (c ∷ table) h = (fit_at c.cells number h.0.each, fit_column number table h.1)

-- one more, where more are put after it
pub gathers_more : (squares : Squares) (more : Option (List Squares)) (old mid new : List Squares) (whole : Bool) → mid ≡ old ++ squares ∷ [] → Gathers more mid new whole
    → Gathers (option_map (λ xs. squares ∷ xs) more) old new whole
gathers_more squares None old mid new whole e h = h
gathers_more squares (Some list) old mid new whole e h = (h.0, h.1 ∙ ap (λ xs. xs ++ list) e ∙ append_assoc old (squares ∷ []) list)

-- beginning with none, the list is all of them
pub gathered : (some : Option (List Squares)) (new : List Squares) (whole : Bool) → Gathers some [] new whole → whole ≡ true → some ≡ Some new
gathered None new whole h e = absurd (cc)
gathered (Some list) new whole h e = ap Some (sym h.1)

pub not_gathered : (some : Option (List Squares)) (new : List Squares) (whole : Bool) → Gathers some [] new whole → whole ≡ false → some ≡ None
not_gathered None new whole h e = refl
not_gathered (Some list) new whole h e = absurd (cc)

-- the squares of fit cells are in order
ordered_with : (squares : Squares) (some : Option (List Squares)) (list : List Squares) → squares.lo ≤ squares.hi
    → ((more : List Squares) → some ≡ Some more → AllByRecursion (λ q. q.lo ≤ q.hi) more)
    → option_map (λ xs. squares ∷ xs) some ≡ Some list → AllByRecursion (λ q. q.lo ≤ q.hi) list
ordered_with squares None list h rest e = absurd (cc)
ordered_with squares (Some more) list h rest e = let same : squares ∷ more ≡ list = cc in subst (λ xs. AllByRecursion (λ q. q.lo ≤ q.hi) xs) same (h, rest more refl)

pub ordered_squares : (cells : List Cell) (list : List Squares) → AllByRecursion IsFitCell cells → live_squares cells ≡ Some list → AllByRecursion (λ q. q.lo ≤ q.hi) list
ordered_squares [] list h e = let same : [] ≡ list = cc in subst (λ xs. AllByRecursion (λ q. q.lo ≤ q.hi) xs) same tt
ordered_squares (Dead ∷ cells) list h e = ordered_squares cells list h.1 e
ordered_squares (Live None ∷ cells) list h e = absurd (cc)
ordered_squares (Live (Some squares) ∷ cells) list h e =
    let fit : AreSquares squares = h.0 in
    ordered_with squares (live_squares cells) list fit.ordered (λ more. ordered_squares cells more h.1) e
