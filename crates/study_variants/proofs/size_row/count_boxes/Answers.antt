use Rattle.study_variants.proofs.CountedBoxes.{count_room}
use Rattle.study_variants.proofs.size_row.count_boxes.Goals as goal

pub with_kind-row-requires : goal.with_kind-row-requires
with_kind-row-requires g c = count_room c.boxes.row c.boxes.scan.left c.args.scan.now.left c.boxes.invariant.counted c.requires
