use Rattle.std.proofs.Common.{◌≡◌, ◌<◌, ◌∙◌, ℕ, suc, List, [], ◌∷◌, length, map, get_or, refl, ap, ap₂, arith}
use Rattle.std.specs.Prelude.{replicate}
use Rattle.complex_interval.specs.Rect.{rectangle_of}
use Rattle.complex_interval.specs.declared.rect.Rect.{Rect}
use Rattle.plain_elimination.specs.Matrix.{nought_rectangle}
use Rattle.plain_elimination.proofs.cells.clear_cells.Goals as goal

-- a list whose items are all mapped to one value
same_items : {X Y : Type 0} (f : X → Y) (xs : List X) (d : X) (y : Y) → ((k : ℕ) → k < length xs → f (get_or xs k d) ≡ y) → map f xs ≡ replicate (length xs) y
same_items f [] d y h = refl
same_items f (x ∷ xs) d y h = ap₂ (λ z zs. z ∷ zs) (h 0 (omega arith)) (same_items f xs d y (λ k l. h (suc k) (omega arith)))

pub returns : goal.returns
returns g c =
    let zero : Rect _ = record { re = c.nought-re.result; im = c.nought-re.result } in
    let same : length c.loop-cell.cells ≡ length c.args.cells.now = omega arith in
    same_items (rectangle_of g.E.Enclosure.ends) c.loop-cell.cells zero nought_rectangle (λ k l. c.loop-cell.invariant k (omega arith)) ∙ ap (λ n. replicate n nought_rectangle) same
