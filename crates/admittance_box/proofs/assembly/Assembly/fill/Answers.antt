use Rattle.std.proofs.Common.{◌≡◌, ◌∙◌, ap, sym, length, map, subst, arith}
use Rattle.admittance_box.specs.Assembled.{Assembled}
use Rattle.admittance_box.specs.BoxMatrix.{with_addends, nought_rows}
use Rattle.admittance_box.specs.Filled.{FillsAs}
use Rattle.admittance_box.specs.Intervals.{addend_of}
use Rattle.net_branch.specs.Exact.{exact_network}
use Rattle.plain_elimination.specs.Matrix.{Square}
use Rattle.admittance_box.proofs.FilledMatrices.{fills_stated, fills_held}
use Rattle.admittance_box.proofs.PairPlaces.{branches_within, branches_count}
use Rattle.admittance_box.proofs.assembly.Assembly.fill.Goals as goal

pub add_branches-requires-clause-few : goal.add_branches-requires-clause-few
add_branches-requires-clause-few g c =
    let inside = c.self.inside in
    let kept = c.self.invariant in
    let count = branches_count g.E.Enclosure.SCALE inside.ordering.items g.E.Enclosure.ends (exact_network inside.low).branches (exact_network inside.high).branches inside.branches.items kept.same in
    rw c.as_slice.ensures.value (let few = kept.few_branches in omega arith)

pub add_branches-requires-clause-within : goal.add_branches-requires-clause-within
add_branches-requires-clause-within g c =
    let inside = c.self.inside in
    let kept = c.self.invariant in
    let size : c.clear.new.self.size ≡ length inside.ordering.items = ap (λ (m : Square). m.size) c.clear.ensures ∙ c.requires.size ∙ ap (λ (a : Assembled). length a.ordering) (sym c.self.view_is) in
    rw (c.as_slice.ensures.value, size) (branches_within g.E.Enclosure.SCALE inside.ordering.items g.E.Enclosure.ends (exact_network inside.low).branches (exact_network inside.high).branches inside.branches.items kept.same)

pub returns-clause-stated : goal.returns-clause-stated
returns-clause-stated g c =
    let inside = c.self.inside in
    let a : Assembled = record { low = exact_network inside.low; high = exact_network inside.high; driven = inside.driven; ordering = inside.ordering.items } in
    let size : c.args.matrix.now.size ≡ length inside.ordering.items = c.requires.size ∙ ap (λ (b : Assembled). length b.ordering) (sym c.self.view_is) in
    let zeros : c.clear.new.self.rows ≡ nought_rows (length inside.ordering.items) = ap (λ (m : Square). m.rows) c.clear.ensures ∙ ap nought_rows size in
    let branches = map (addend_of g.E.Enclosure.ends) in
    rw (← c.self.view_is)
    (fills_stated g.E.Enclosure.SCALE a (g.E.Enclosure.ends c.order_range-order.result) c.args.lo c.args.hi (branches inside.branches.items) c.clear.new.self.rows c.add_branches.new.matrix.rows c.add_branches.result c.self.invariant c.order_range-order.ensures.value zeros
    (subst (λ l. FillsAs c.add_branches.result c.add_branches.new.matrix.rows (with_addends g.E.Enclosure.SCALE (g.E.Enclosure.ends c.order_range-order.result) 0 (branches l) c.clear.new.self.rows)) c.as_slice.ensures.value c.add_branches.ensures.rows))

pub returns-clause-holds : goal.returns-clause-holds
returns-clause-holds g c =
    let inside = c.self.inside in
    let a : Assembled = record { low = exact_network inside.low; high = exact_network inside.high; driven = inside.driven; ordering = inside.ordering.items } in
    let size : c.args.matrix.now.size ≡ length inside.ordering.items = c.requires.size ∙ ap (λ (b : Assembled). length b.ordering) (sym c.self.view_is) in
    let zeros : c.clear.new.self.rows ≡ nought_rows (length inside.ordering.items) = ap (λ (m : Square). m.rows) c.clear.ensures ∙ ap nought_rows size in
    let branches = map (addend_of g.E.Enclosure.ends) in
    rw (← c.self.view_is)
    (fills_held g.E.Enclosure.SCALE a c.args.lo c.args.hi (map (addend_of g.E.Enclosure.ends) inside.branches.items) c.add_branches.new.matrix.rows c.add_branches.result c.self.invariant
    (fills_stated g.E.Enclosure.SCALE a (g.E.Enclosure.ends c.order_range-order.result) c.args.lo c.args.hi (branches inside.branches.items) c.clear.new.self.rows c.add_branches.new.matrix.rows c.add_branches.result c.self.invariant c.order_range-order.ensures.value zeros
    (subst (λ l. FillsAs c.add_branches.result c.add_branches.new.matrix.rows (with_addends g.E.Enclosure.SCALE (g.E.Enclosure.ends c.order_range-order.result) 0 (branches l) c.clear.new.self.rows)) c.as_slice.ensures.value c.add_branches.ensures.rows)))
