use Rattle.std.proofs.Common.{◌≡◌, ◌∙◌, ◌+◌, ◌<◌, ◌^◌, ℤ, length, get_or, unsigned_abs, subst, sym, ap, arith}
use Rattle.exact_fraction.specs.Fraction.{ratio_of}
use Rattle.element_parts.specs.PerUnit.{susceptance_of_rating}
use Rattle.band_subdivision.specs.Scan.{Scanning}
use Rattle.study_variants.proofs.FromScratch.{scratch_answered}
use Rattle.study_variants.proofs.SizeRows.{size_above, not_below, few_left, IsAnswered, answered, row_answered, safe_answered}
use Rattle.study_variants.proofs.candidates.Candidates.next_size.Goals as goal
use Rattle.study_variants.proofs.candidates.Candidates.next_size.Given.{Over}

pub restart-requires : goal.restart-requires
restart-requires g c =
    let size = c.index-as_slice-self.result in
    let is : size ≡ get_or c.self.inside.sizes c.self.inside.given size = rw c.as_slice.ensures at c.index-as_slice-self.is in
    let above = size_above c.self.inside.sizes c.self.inside.given size c.self.invariant.above (omega (arith, c.len.ensures, c.if-self-len.false)) is in
    let susceptance : ratio_of c.susceptance_of_rating.result ≡ susceptance_of_rating size c.self.inside.mva
    = c.susceptance_of_rating.ensures ∙ ap (λ (r : ℤ). susceptance_of_rating r c.self.inside.mva) c.power_in-rating.ensures in
    not_below size c.self.inside.mva c.susceptance_of_rating.result.num (unsigned_abs c.susceptance_of_rating.result.den) above susceptance

pub count_boxes-requires : goal.count_boxes-requires
count_boxes-requires g c =
    subst (λ (s : Scanning). length s.left + 1 < 2 ^ 32) (sym c.restart.ensures.anew) (few_left g.E.Enclosure.SCALE c.self.inside.scan (ratio_of c.susceptance_of_rating.result) c.self.invariant.spec)

-- the row that is answered
answer : (g : Over) (c : goal.After-count_boxes g) → IsAnswered g.E.Enclosure.SCALE c.self.inside.scan c.self.inside.sizes c.self.inside.given c.index-as_slice-self.result c.count_boxes.result
answer g c =
    let size = c.index-as_slice-self.result in
    let is : size ≡ get_or c.self.inside.sizes c.self.inside.given size = rw c.as_slice.ensures at c.index-as_slice-self.is in
    let susceptance : ratio_of c.susceptance_of_rating.result ≡ susceptance_of_rating size c.self.inside.mva
    = c.susceptance_of_rating.ensures ∙ ap (λ (r : ℤ). susceptance_of_rating r c.self.inside.mva) c.power_in-rating.ensures in
    answered g.E.Enclosure.SCALE c.self.inside.scan c.self.inside.mva c.self.inside.sizes c.self.inside.given size (ratio_of c.susceptance_of_rating.result) c.restart.new.self c.count_boxes.result
    c.self.invariant (omega (arith, c.len.ensures, c.if-self-len.false)) is susceptance c.restart.ensures.anew c.count_boxes.ensures.row

pub returns-clause-row : goal.returns-clause-row
returns-clause-row g c =
    row_answered g.E.Enclosure.SCALE c.self.inside.scan c.self.inside.sizes c.self.inside.given c.index-as_slice-self.result c.count_boxes.result c.args.self.now c.self.view_is (answer g c)

pub returns-clause-safe : goal.returns-clause-safe
returns-clause-safe g c peaks undecided =
    safe_answered g.E.Enclosure.SCALE c.self.inside.scan c.self.inside.mva c.self.inside.sizes c.self.inside.given c.index-as_slice-self.result c.count_boxes.result c.args.self.now c.self.view_is
    c.self.invariant (answer g c) peaks undecided

pub returns-clause-scratch : goal.returns-clause-scratch
returns-clause-scratch g c none =
    scratch_answered g.E.Enclosure.SCALE c.self.inside.scan c.self.inside.mva c.self.inside.sizes c.self.inside.given c.index-as_slice-self.result c.count_boxes.result c.args.self.now g.met.E.Enclosure.small_scale
    c.self.view_is c.self.invariant (answer g c) none
