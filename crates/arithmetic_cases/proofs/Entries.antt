-- Entries of a matrix that is filled place by place.
use Rattle.std.proofs.Common.{◌≡◌, ℕ, zero, suc, ◌+◌, ◌<◌, List, [], ◌∷◌, length, get_or, take, replicate, set, Some, refl, sym, ap, ◌∙◌, arith}
use Rattle.std.proofs.lemmas.List.{take-take, length-take-le, get_or-take}
use Rattle.std.proofs.lemmas.List.Elements.{All-take, All-get_or, All-same}
use Rattle.std.specs.Prelude.{slice_get}
use Rattle.complex_interval.specs.Rectangles.{Rectangle}
use Rattle.plain_elimination.specs.declared.pattern.Spot.{Spot}
use Rattle.plain_elimination.specs.Matrix.{entry, set_entry, nought_rectangle}
use Rattle.plain_elimination.specs.Pattern.{IsNoPlace}

got_other : (row : List Rectangle) (c j : ℕ) (x : Rectangle) → (j ≡ c → ⊥) → slice_get (set row c x) j ≡ slice_get row j
got_other [] c j x other = refl
got_other (y ∷ row) zero zero x other = absurd (other refl)
got_other (y ∷ row) zero (suc j) x other = refl
got_other (y ∷ row) (suc c) zero x other = refl
got_other (y ∷ row) (suc c) (suc j) x other = got_other row c j x (λ e. other (ap suc e))

pub entry_other : (rows : List (List Rectangle)) (r c i j : ℕ) (x : Rectangle) → (i ≡ r → j ≡ c → ⊥) → entry (set_entry rows r c x) i j ≡ entry rows i j
entry_other [] r c i j x other = refl
entry_other (row ∷ rows) zero c zero j x other = got_other row c j x (λ e. other refl e)
entry_other (row ∷ rows) zero c (suc i) j x other = refl
entry_other (row ∷ rows) (suc r) c zero j x other = refl
entry_other (row ∷ rows) (suc r) c (suc i) j x other = entry_other rows r c i j x (λ e f. other (ap suc e) f)

got_nought : (w j : ℕ) → j < w → slice_get (replicate w nought_rectangle) j ≡ Some nought_rectangle
got_nought zero j l = absurd (omega arith)
got_nought (suc w) zero l = refl
got_nought (suc w) (suc j) l = got_nought w j (omega arith)

pub entry_nought : (n w i j : ℕ) → i < n → j < w → entry (replicate n (replicate w nought_rectangle)) i j ≡ Some nought_rectangle
entry_nought zero w i j li lj = absurd (omega arith)
entry_nought (suc n) w zero j li lj = got_nought w j lj
entry_nought (suc n) w (suc i) j li lj = entry_nought n w i j (omega arith) lj

-- a place that is none of one more is none of them, and not that one
pub not_before : (places : List Spot) (i r k : ℕ) → IsNoPlace (take (i + 1) places) r k → IsNoPlace (take i places) r k
not_before places i r k none =
    All-same (λ s. s.row ≡ r → s.column ≡ k → ⊥) (take i places) (take i (take (i + 1) places)) (sym (take-take i (i + 1) places (omega arith))) (All-take (λ s. s.row ≡ r → s.column ≡ k → ⊥) i (take (i + 1) places) none)

pub not_here : (places : List Spot) (i r k : ℕ) (d : Spot) → i < length places → IsNoPlace (take (i + 1) places) r k → r ≡ (get_or places i d).row → k ≡ (get_or places i d).column → ⊥
not_here places i r k d l none er ek =
    let same : get_or (take (i + 1) places) i d ≡ get_or places i d = get_or-take (i + 1) places i d (omega arith) in
    let size : length (take (i + 1) places) ≡ i + 1 = length-take-le (i + 1) places (omega arith) in
    let here = All-get_or (λ s. s.row ≡ r → s.column ≡ k → ⊥) (take (i + 1) places) i d (omega arith) none in
    here (ap (λ (s : Spot). s.row) same ∙ sym er) (ap (λ (s : Spot). s.column) same ∙ sym ek)
