use Rattle.std.proofs.Common.{Some, None, map}
use Rattle.drop_bench.specs.Bounds.{bounds_of}
use Rattle.drop_bench.specs.Drops.{drop_ends}
use Rattle.drop_bench.proofs.Reaches.{reach_done}
use Rattle.drop_bench.proofs.sizes.write_reaches.Goals as goal

pub returns-in_err-add_products : goal.returns-in_err-add_products
returns-in_err-add_products g c =
    let none = reach_done g.E.Enclosure.SCALE (bounds_of c.args.sizes.now) (map (drop_ends g.E.Enclosure.ends) c.args.drops.now) c.args.numbers.now c.write_nodes.new.nodes c.write_edges.new.edges c.times_numbers.new.far None
    (rw (c.SCALE.ensures, c.as_slice.ensures.value) at c.in_ok-write_nodes.ensures) c.in_ok-write_edges.ensures
    (rw (c.SCALE-2.ensures, c.copy_from_slice.ensures.after, c.as_slice-2.ensures.value) at c.in_ok-times_numbers.ensures)
    (rw (c.SCALE-3.ensures, c.copy_from_slice-2.ensures.after, c.as_slice-3.ensures.value) at c.in_err-add_products.ensures) in
    rw c.from_residual-in_err-add_products.ensures none

pub returns : goal.returns
returns g c =
    reach_done g.E.Enclosure.SCALE (bounds_of c.args.sizes.now) (map (drop_ends g.E.Enclosure.ends) c.args.drops.now) c.args.numbers.now c.write_nodes.new.nodes c.write_edges.new.edges c.times_numbers.new.far (Some c.add_products.new.reached)
    (rw (c.SCALE.ensures, c.as_slice.ensures.value) at c.in_ok-write_nodes.ensures) c.in_ok-write_edges.ensures
    (rw (c.SCALE-2.ensures, c.copy_from_slice.ensures.after, c.as_slice-2.ensures.value) at c.in_ok-times_numbers.ensures)
    (rw (c.SCALE-3.ensures, c.copy_from_slice-2.ensures.after, c.as_slice-3.ensures.value) at c.in_ok-add_products.ensures)
