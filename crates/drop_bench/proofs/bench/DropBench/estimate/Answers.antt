use Rattle.std.proofs.Common.{◌≡◌, length, sym, ap, ◌∙◌, subst, arith}
use Rattle.std.specs.List.{All}
use Rattle.std.specs.Vec.{with_items}
use Rattle.std.proofs.lemmas.List.{with_items_is}
use Rattle.drop_bench.specs.Bench.{BenchSize}
use Rattle.drop_bench.specs.Bounds.{IsOfSize, HasRoom, HasLeftRoom}
use Rattle.drop_bench.proofs.bench.DropBench.estimate.Goals as goal

pub invariant_of-self : goal.invariant_of-self
invariant_of-self g c =
    let inside = c.self.inside in
    let new = c.near_of_drops.new in
    let auto = c.near_of_drops.auto in
    let kept = c.self.invariant in
    let count : length c.args.drops.now ≡ inside.drops = c.requires.count ∙ sym (ap (λ (b : BenchSize). b.drops) c.self.view_is) in
    let voltages : (with_items inside.voltages new.voltages).items ≡ new.voltages = with_items_is inside.voltages new.voltages (omega (arith, auto.voltages, ap length c.as_mut_slice.ensures.value, inside.voltages.ok.0)) in
    let column : (with_items inside.column new.column).items ≡ new.column = with_items_is inside.column new.column (omega (arith, auto.column, ap length c.as_mut_slice-2.ensures.value, inside.column.ok.0)) in
    let xs : (with_items inside.xs new.xs).items ≡ new.xs = with_items_is inside.xs new.xs (omega (arith, auto.xs, ap length c.as_mut_slice-3.ensures.value, inside.xs.ok.0)) in
    record {
      few = kept.few;
      matrix_in = c.near_of_drops.ensures.matrix_in ∙ kept.matrix_in;
      inverse_in = c.near_of_drops.ensures.inverse_in ∙ kept.inverse_in;
      voltages_in = ap length voltages ∙ omega (arith, auto.voltages, ap length c.as_mut_slice.ensures.value, kept.voltages_in);
      voltages_wide = subst (All (λ r. length r.items ≡ inside.drops)) (sym voltages) (subst (λ n. All (λ r. length r.items ≡ n) new.voltages) count c.near_of_drops.ensures.voltages_wide);
      column_in = ap length column ∙ omega (arith, auto.column, ap length c.as_mut_slice-2.ensures.value, kept.column_in);
      xs_in = ap length xs ∙ omega (arith, auto.xs, ap length c.as_mut_slice-3.ensures.value, kept.xs_in);
      left_in = subst (λ n. HasLeftRoom n new.left) kept.matrix_in c.near_of_drops.ensures.left_in;
      sizes_in = subst (λ d. IsOfSize inside.nodes d new.sizes) count (subst (λ n. IsOfSize n (length c.args.drops.now) new.sizes) kept.matrix_in c.near_of_drops.ensures.sizes_in);
      room_in = subst (λ d. HasRoom inside.nodes d new.room) count (subst (λ n. HasRoom n (length c.args.drops.now) new.room) kept.matrix_in c.near_of_drops.ensures.room_in);
    }
