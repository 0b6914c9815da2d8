-- The boxes of a band cover it.
use Rattle.std.proofs.Common.{◌≡◌, ℕ, zero, suc, ◌+◌, ◌-◌, ◌<◌, ◌≤◌, List, [], ◌∷◌, ◌++◌, map, Option, Some, None, refl, subst, sym, arith}
use Rattle.network_theory.specs.Box.{Box, GoesOn, Covers}
use Rattle.band_subdivision.specs.Cover.{span_of}
use Rattle.band_subdivision.specs.Boxes.{BoxTest, Widths, middle, kind_of, settled, boxes_within, boxes_of}
use Rattle.band_subdivision.proofs.Levels.{kind_none}
use Rattle.scan_report.specs.declared.boxes.BoxRow.{BoxRow}
use Rattle.scan_report.specs.declared.boxes.Kind.{Kind}

goes_on_both : (xs ys : List BoxRow) (lo mid hi : ℕ) → GoesOn lo mid (map span_of xs) → GoesOn mid hi (map span_of ys) → GoesOn lo hi (map span_of (xs ++ ys))
goes_on_both [] ys lo mid hi h k = subst (λ (m : ℕ). GoesOn m hi (map span_of ys)) (sym h) k
goes_on_both (b ∷ xs) ys lo mid hi h k = (h.0, h.1, goes_on_both xs ys b.hi mid hi h.2 k)

settled_goes_on : (k : Option Kind) (lo hi : ℕ) (halves : List BoxRow) → lo < hi → (k ≡ None → GoesOn lo hi (map span_of halves)) → GoesOn lo hi (map span_of (settled k lo hi halves))
settled_goes_on None lo hi halves up r = r refl
settled_goes_on (Some k) lo hi halves up r = (refl, up, refl)

within_goes_on : (n : ℕ) (test : BoxTest) (widths : Widths) (lo hi : ℕ) → 1 ≤ widths.finest → lo < hi → hi ≤ lo + n → GoesOn lo hi (map span_of (boxes_within n test widths lo hi))
within_goes_on zero test widths lo hi fine up enough = absurd (omega arith)
within_goes_on (suc n) test widths lo hi fine up enough =
    settled_goes_on (kind_of test widths lo hi) lo hi _ up (λ (split : kind_of test widths lo hi ≡ None).
    let wide : widths.finest < hi - lo = kind_none test widths lo hi split in
    goes_on_both (boxes_within n test widths lo (middle lo hi)) (boxes_within n test widths (middle lo hi) hi) lo (middle lo hi) hi
    (within_goes_on n test widths lo (middle lo hi) fine (omega arith) (omega arith))
    (within_goes_on n test widths (middle lo hi) hi fine (omega arith) (omega arith)))

-- boxes that go on over a band of some width are some
some_cover : (boxes : List Box) (lo hi : ℕ) → lo < hi → GoesOn lo hi boxes → Covers lo hi boxes
some_cover [] lo hi up h = absurd (omega (arith, h))
some_cover (b ∷ boxes) lo hi up h = h

pub boxes_cover : (test : BoxTest) (widths : Widths) (lo hi : ℕ) → 1 ≤ widths.finest → lo < hi → Covers lo hi (map span_of (boxes_of test widths lo hi))
unfolding boxes_of
boxes_cover test widths lo hi fine up = some_cover _ lo hi up (within_goes_on (hi - lo) test widths lo hi fine up (omega arith))
