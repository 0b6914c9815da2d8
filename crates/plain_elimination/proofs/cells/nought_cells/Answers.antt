use Rattle.std.proofs.Common.{◌≡◌, ◌-◌, ◌++◌, [], List, ℕ, ap, ap₂, ◌∙◌, map, take, replicate, vec_len, arith}
use Rattle.std.proofs.lemmas.List.{take_all}
use Rattle.complex_interval.specs.Rectangles.{Rectangle}
use Rattle.complex_interval.specs.Ends.{Ends}
use Rattle.complex_interval.specs.Rect.{rectangle_of}
use Rattle.plain_elimination.specs.Matrix.{nought_rectangle}
use Rattle.plain_elimination.proofs.Places.{map-replicate}
use Rattle.plain_elimination.proofs.cells.nought_cells.Goals as goal

both : (x : Ends) → x ≡ nought_rectangle.re → record { re = x; im = x } ≡ nought_rectangle
both x e = ap (λ (y : Ends). record { re = y; im = y }) e

filled_up : {R : Type 0} (h : R → Rectangle) (start cells : List R) (n k : ℕ) (x : R) → start ≡ [] → k ≡ 0 → cells ≡ take n start ++ replicate (n - k) x → h x ≡ nought_rectangle → map h cells ≡ replicate n nought_rectangle
filled_up h start cells n k x es ek e ex =
    ap (map h) (e ∙ ap₂ (λ xs m. take n xs ++ replicate (n - m) x) es ek ∙ ap₂ (λ xs m. xs ++ replicate m x) (take_all n [] (omega arith)) (omega arith))
    ∙ map-replicate h n x
    ∙ ap (replicate n) ex

pub returns : goal.returns
returns g c =
    filled_up (rectangle_of g.E.Enclosure.ends) c.new-cells.result.items c.resize.new.self.items c.args.count (vec_len c.new-cells.result) _ c.new-cells.ensures.items c.new-cells.ensures.len c.in_ok-resize.ensures.items (both _ c.nought-re.ensures)
