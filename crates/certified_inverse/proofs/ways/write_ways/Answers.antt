use Rattle.std.proofs.Common.{◌≡◌, ◌≢◌, ⊎_elim, ◌+◌, ℕ, [], length, get_or, get_or-set_same, get_or-set_other, set, map, ap, ◌∙◌, sym, subst, arith, rules}
use Rattle.std.specs.Vec.{with_items}
use Rattle.std.proofs.lemmas.Bool.{cases_eq}
use Rattle.std.proofs.lemmas.List.{with_items_is, places, length-map, map-set}
use Rattle.std.proofs.lemmas.List.Elements.{All-get_or}
use Rattle.complex_interval.specs.Rect.{rectangle_of}
use Rattle.middle_inverse.specs.Leads.{LeadsOver}
use Rattle.middle_inverse.proofs.Wide.{wide_set}
use Rattle.certified_inverse.proofs.ways.write_ways.Goals as goal

pub write_way-requires-clause-size : goal.write_way-requires-clause-size
write_way-requires-clause-size g c =
    let size = c.args.matrix.now.size in
    let wide = All-get_or (λ r. length r.items ≡ size + 1) c.loop-i.ways c.loop-i.i c.index-ways-i.result (omega arith) c.loop-i.invariant.wide in
    omega (arith, wide, ap length c.as_mut_slice.ensures.value, c.row.ensures.width)

pub loop-i-preserved : goal.loop-i-preserved
loop-i-preserved g c =
    let rectangle = rectangle_of g.E.Enclosure.ends in
    let size = c.args.matrix.now.size in
    let rows = c.args.matrix.now.rows in
    let ways = c.loop-i.ways in
    let i = c.loop-i.i in
    let a = get_or ways i c.index-ways-i.result in
    let is : a ≡ get_or ways i a = subst (λ v. v ≡ get_or ways i v) c.index-ways-i.is c.index-ways-i.is in
    let d = with_items a c.write_way.new.next in
    let written = with_items_is a c.write_way.new.next (search (rules, places)) in
    let kept : length d.items ≡ length a.items = omega (arith, ap length written, c.write_way.auto.next, ap length c.as_mut_slice.ensures.value) in
    let new = map (λ r. r.items) (set ways i d) in
    let lists = map-set (λ r. r.items) ways i d in
    let here : get_or new i [] ≡ c.write_way.new.next = ap (λ xs. get_or xs i []) lists ∙ get_or-set_same (map (λ r. r.items) ways) i d.items [] (rw (length-map ways (λ r. r.items)) (omega arith)) ∙ written in
    let there : (k : ℕ) → k ≢ i → get_or new k [] ≡ get_or (map (λ r. r.items) ways) k [] = λ k e. ap (λ xs. get_or xs k []) lists ∙ get_or-set_other (map (λ r. r.items) ways) i k d.items [] e in
    let now : LeadsOver (get_or rows i []) (get_or new i []) = subst (LeadsOver (get_or rows i [])) (sym here) (subst (λ row. LeadsOver row c.write_way.new.next) c.row.ensures.value c.write_way.ensures) in
    record {
      ways = λ k l. ⊎_elim
          (λ (e : k ≡ i). subst (λ j. LeadsOver (get_or rows j []) (get_or new j [])) (sym e) now)
          (λ (e : k ≢ i). subst (LeadsOver (get_or rows k [])) (sym (there k e)) (c.loop-i.invariant.ways k (omega arith)))
          (cases_eq k i);
      wide = wide_set (λ r. length r.items) (size + 1) ways i a d (omega arith) is kept c.loop-i.invariant.wide;
    }

pub returns : goal.returns
returns g c = record { ways = λ k l. c.loop-i.invariant.ways k (omega (arith, c.size-i-end.ensures.rows)); wide = c.loop-i.invariant.wide }
