use Rattle.std.proofs.Common.{◌≡◌, ⊎_elim, inl, ◌<◌, ◌*◌, length, map, arith, ◌∙◌}
use Rattle.std.proofs.lemmas.List.{length-map}
use Rattle.complex_interval.specs.Rect.{rectangle_of}
use Rattle.sparse_rows.proofs.Loads.{all_loaded, one_more}
use Rattle.sparse_rows.proofs.load.load_listed.Goals as goal

pub load_row-requires-clause-outside : goal.load_row-requires-clause-outside
load_row-requires-clause-outside g c = λ q out. c.loop-k.invariant.0 q (c.requires.outside q out)

pub loop-k-init : goal.loop-k-init
loop-k-init g c = (λ q s. s, λ a b la lb side. absurd (⊎_elim (λ (l : a < 0). omega arith) (λ (l : b < 0). omega arith) side))

pub loop-k-preserved : goal.loop-k-preserved
loop-k-preserved g c =
    let rectangle = rectangle_of g.E.Enclosure.ends in
    let step = c.load_row.ensures in (
      λ q s. step.closer q (c.loop-k.invariant.0 q s),
      one_more (map rectangle c.args.source.now) (map rectangle c.loop-k.cells) (map rectangle c.load_row.new.cells) c.args.size c.loop-k.k c.loop-k-test.true step.closer c.loop-k.invariant.1 step.row step.column,
    )

pub returns : goal.returns
returns g c =
    let rectangle = rectangle_of g.E.Enclosure.ends in
    let new = c.loop-k.cells in
    let size : length (map rectangle new) ≡ c.args.size * c.args.size = length-map new rectangle ∙ omega arith in
    let sizes : length (map rectangle c.args.source.now) ≡ length (map rectangle new) = omega (arith, length-map new rectangle, length-map c.args.source.now rectangle) in
    all_loaded (map rectangle c.args.source.now) (map rectangle new) c.args.size size sizes (λ a b la lb. c.loop-k.invariant.1 a b la lb (inl (omega arith)))
