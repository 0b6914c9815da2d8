-- Arrays that are filled place by place.
use Rattle.std.proofs.Common.{◌≡◌, ◌∙◌, ℕ, ◌+◌, ◌<◌, List, ◌∷◌, ◌++◌, length, take, drop, refl, arith, ap, sym, append_assoc, add-one, drop-cons, slice_set, slice_index_or}
use Rattle.std.proofs.lemmas.List.{take_more_set}
use Rattle.study_model.specs.declared.curve.CurvePoint.{CurvePoint}
use Rattle.study_reader.specs.Curves.{points_of}

-- one more element before the rest
filled : {A : Type 0} (read : List A) (i : ℕ) (v : A) (rest whole : List A) → i < length read → take i read ++ v ∷ rest ≡ whole → take (i + 1) (slice_set read i v) ++ rest ≡ whole
filled {A} read i v rest whole within e = rw (take_more_set read i v within, append_assoc) e

pub read_step : (read : List ℕ) (i n v : ℕ) (rest whole : List ℕ) → n ≡ i → n < length read → take i read ++ v ∷ rest ≡ whole → take (i + 1) (slice_set read n v) ++ rest ≡ whole
read_step read i n v rest whole same within e = rw same (filled read i v rest whole (omega arith) e)

-- one more point
pub points_step : (orders ohms : List ℕ) (points whole : List CurvePoint) (i : ℕ) → i < length points → i < length orders → length ohms ≡ length orders
    → take i points ++ points_of (drop i orders) (drop i ohms) ≡ whole
    → take (i + 1) (slice_set points i (record { at = slice_index_or orders i 0; ohms = slice_index_or ohms i 0 })) ++ points_of (drop (i + 1) orders) (drop (i + 1) ohms) ≡ whole
points_step orders ohms points whole i within more same e =
    let also : i < length ohms = omega (arith, same, more) in
    let p : CurvePoint = record { at = slice_index_or orders i 0; ohms = slice_index_or ohms i 0 } in
    let next : points_of (drop i orders) (drop i ohms) ≡ p ∷ points_of (drop (i + 1) orders) (drop (i + 1) ohms) = rw (drop-cons orders i 0 more, drop-cons ohms i 0 also, add-one) refl in
    filled points i p (points_of (drop (i + 1) orders) (drop (i + 1) ohms)) whole within (ap (λ (ps : List CurvePoint). take i points ++ ps) (sym next) ∙ e)
