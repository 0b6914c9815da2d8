use Rattle.std.proofs.Common.{◌≡◌, ◌+◌, Ok, length, drop, map, sym, ap, ◌∙◌, subst, arith}
use Rattle.std.specs.List.{All}
use Rattle.std.specs.Vec.{with_items}
use Rattle.std.proofs.lemmas.List.{with_items_is}
use Rattle.complex_interval.specs.Rect.{rectangle_of}
use Rattle.plain_elimination.specs.Matrix.{Square}
use Rattle.middle_inverse.specs.Inverse.{bind}
use Rattle.middle_inverse.specs.Points.{rectangle_at}
use Rattle.middle_inverse.proofs.bench.MiddleInverse.invert.Goals as goal

pub invariant_of-self : goal.invariant_of-self
invariant_of-self g c =
    let inside = c.self.inside in
    let kept = c.self.invariant in
    let points = c.invert_points-inverted.new.points in
    let next = c.invert_points-inverted.new.next in
    let rows = c.copy_rows.new.rows in
    let size : inside.size ≡ c.args.self.now.size = ap (λ (m : Square). m.size) c.self.view_is in
    let same : inside.size ≡ c.args.matrix.now.size = size ∙ c.requires in
    let p : (with_items inside.points points).items ≡ points = with_items_is inside.points points (omega (arith, c.invert_points-inverted.auto.points, ap length c.as_mut_slice.ensures.value, inside.points.ok.0)) in
    let q : (with_items inside.next next).items ≡ next = with_items_is inside.next next (omega (arith, c.invert_points-inverted.auto.next, ap length c.as_mut_slice-2.ensures.value, inside.next.ok.0)) in
    let r : (with_items inside.rows rows).items ≡ rows = with_items_is inside.rows rows (omega (arith, c.copy_rows.auto.rows, ap length c.as_mut_slice-3.ensures.value, inside.rows.ok.0)) in
    record {
      few = kept.few;
      points_in = ap length p ∙ omega (arith, c.invert_points-inverted.auto.points, ap length c.as_mut_slice.ensures.value, kept.points_in);
      points_wide = subst (All (λ v. length v.items ≡ inside.size + inside.size)) (sym p) (subst (λ n. All (λ v. length v.items ≡ n + n) points) (sym same) c.invert_points-inverted.ensures.wide);
      next_in = ap length q ∙ omega (arith, c.invert_points-inverted.auto.next, ap length c.as_mut_slice-2.ensures.value, kept.next_in);
      rows_in = ap length r ∙ omega (arith, c.copy_rows.auto.rows, ap length c.as_mut_slice-3.ensures.value, kept.rows_in);
      rows_wide = subst (All (λ v. length v.items ≡ inside.size)) (sym r) c.copy_rows.ensures.wide;
    }

pub copy_rows-requires-clause-count : goal.copy_rows-requires-clause-count
copy_rows-requires-clause-count g c =
    let inside = c.self.inside in
    let points = c.invert_points-inverted.new.points in
    let p : (with_items inside.points points).items ≡ points = with_items_is inside.points points (omega (arith, c.invert_points-inverted.auto.points, ap length c.as_mut_slice.ensures.value, inside.points.ok.0)) in
    omega (arith, ap length p, ap length c.as_slice.ensures.value, c.invert_points-inverted.auto.points, ap length c.as_mut_slice.ensures.value, ap length c.as_mut_slice-3.ensures.value, c.self.invariant.points_in, c.self.invariant.rows_in)

pub copy_rows-requires-clause-wide : goal.copy_rows-requires-clause-wide
copy_rows-requires-clause-wide g c = subst (All (λ v. length v.items ≡ c.self.inside.size)) (sym c.as_mut_slice-3.ensures.value) c.self.invariant.rows_wide

pub copy_rows-requires-clause-twice : goal.copy_rows-requires-clause-twice
copy_rows-requires-clause-twice g c =
    let inside = c.self.inside in
    let points = c.invert_points-inverted.new.points in
    let same : inside.size ≡ c.args.matrix.now.size = ap (λ (m : Square). m.size) c.self.view_is ∙ c.requires in
    let p : (with_items inside.points points).items ≡ points = with_items_is inside.points points (omega (arith, c.invert_points-inverted.auto.points, ap length c.as_mut_slice.ensures.value, inside.points.ok.0)) in
    subst (All (λ v. length v.items ≡ inside.size + inside.size)) (sym (c.as_slice.ensures.value ∙ p)) (subst (λ n. All (λ v. length v.items ≡ n + n) points) (sym same) c.invert_points-inverted.ensures.wide)

pub returns-clause-value : goal.returns-clause-value
returns-clause-value g c =
    let rectangle = rectangle_of g.E.Enclosure.ends in
    let inside = c.self.inside in
    let points = c.invert_points-inverted.new.points in
    let rows = c.copy_rows.new.rows in
    let same : inside.size ≡ c.args.matrix.now.size = ap (λ (m : Square). m.size) c.self.view_is ∙ c.requires in
    let p : (with_items inside.points points).items ≡ points = with_items_is inside.points points (omega (arith, c.invert_points-inverted.auto.points, ap length c.as_mut_slice.ensures.value, inside.points.ok.0)) in
    let r : (with_items inside.rows rows).items ≡ rows = with_items_is inside.rows rows (omega (arith, c.copy_rows.auto.rows, ap length c.as_mut_slice-3.ensures.value, inside.rows.ok.0)) in
    ap (λ items. bind c.invert_points-inverted.result (λ _. Ok (map (λ v. map rectangle v.items) items))) r
    ∙ ap (λ list. bind c.invert_points-inverted.result (λ _. Ok list)) (c.copy_rows.ensures.value ∙ ap (λ items. map (λ row. drop inside.size row) (map (λ v. map rectangle_at v.items) items)) (c.as_slice.ensures.value ∙ p))
    ∙ ap (λ n. bind c.invert_points-inverted.result (λ _. Ok (map (λ row. drop n row) (map (λ v. map rectangle_at v.items) points)))) same
    ∙ c.invert_points-inverted.ensures.value
