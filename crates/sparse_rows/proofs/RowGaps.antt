-- The gaps of a row of marks: of each marked place the way to the next marked place or to the end, and 0 at all others.
use Rattle.std.proofs.Common.{◌≡◌, ℕ, zero, suc, ◌+◌, ◌<◌, ◌≤◌, List, [], ◌∷◌, length, get_or, Bool, true, false, refl, sym, subst, ap, ◌∙◌, arith}
use Rattle.std.proofs.Common.{◌*◌, ◌-◌, take, drop, set, below_more}
use Rattle.std.proofs.lemmas.List.{drop_all, length-drop, drop-take}
use Rattle.std.proofs.lemmas.Slice.{between-put_mid, take-put_mid_below}
use borrow.Rule.Slice.PartMut.{put_mid}
use Rattle.plain_elimination.proofs.Layouts.{row_fits}
use Rattle.sparse_rows.specs.Gaps.{lead, gaps_of}
use Rattle.sparse_rows.specs.Marks.{HasGaps}

pub lead_some : (marks : List Bool) → 1 ≤ lead marks
lead_some [] = omega arith
lead_some (true ∷ marks) = omega arith
lead_some (false ∷ marks) = omega arith

lead_within : (marks : List Bool) → lead marks ≤ suc (length marks)
lead_within [] = omega arith
lead_within (true ∷ marks) = omega arith
lead_within (false ∷ marks) = omega (arith, lead_within marks)

pub listed : (marks : List Bool) (i : ℕ) → get_or marks i false ≡ true → 1 ≤ get_or (gaps_of marks) i 0
listed [] i e = absurd cc
listed (true ∷ marks) zero e = lead_some marks
listed (false ∷ marks) zero e = absurd cc
listed (true ∷ marks) (suc i) e = listed marks i e
listed (false ∷ marks) (suc i) e = listed marks i e

pub not_listed : (marks : List Bool) (i : ℕ) → get_or marks i true ≡ false → get_or (gaps_of marks) i 1 ≡ 0
not_listed [] i e = absurd cc
not_listed (true ∷ marks) zero e = absurd cc
not_listed (false ∷ marks) zero e = refl
not_listed (true ∷ marks) (suc i) e = not_listed marks i e
not_listed (false ∷ marks) (suc i) e = not_listed marks i e

pub within : (marks : List Bool) (i : ℕ) → i < length marks → i + get_or (gaps_of marks) i 0 ≤ length marks
within [] i l = absurd (omega arith)
within (true ∷ marks) zero l = omega (arith, lead_within marks)
within (false ∷ marks) zero l = omega arith
within (true ∷ marks) (suc i) l = omega (arith, within marks i (omega arith))
within (false ∷ marks) (suc i) l = omega (arith, within marks i (omega arith))

lead_between : (marks : List Bool) (j : ℕ) → suc j < lead marks → get_or marks j true ≡ false
lead_between [] j l = absurd (omega arith)
lead_between (true ∷ marks) j l = absurd (omega arith)
lead_between (false ∷ marks) zero l = refl
lead_between (false ∷ marks) (suc j) l = lead_between marks j (omega arith)

pub between : (marks : List Bool) (i j : ℕ) → i < j → j < i + get_or (gaps_of marks) i 0 → get_or marks j true ≡ false
between [] i j l m = absurd (omega arith)
between (mark ∷ marks) i zero l m = absurd (omega arith)
between (true ∷ marks) zero (suc j) l m = lead_between marks j (omega arith)
between (false ∷ marks) zero (suc j) l m = absurd (omega arith)
between (true ∷ marks) (suc i) (suc j) l m = between marks i j (omega arith) (omega arith)
between (false ∷ marks) (suc i) (suc j) l m = between marks i j (omega arith) (omega arith)

lead_next : (marks : List Bool) (j : ℕ) → lead marks ≡ suc j → j < length marks → get_or marks j false ≡ true
lead_next [] j e l = absurd (omega arith)
lead_next (true ∷ marks) zero e l = refl
lead_next (true ∷ marks) (suc j) e l = absurd (omega arith)
lead_next (false ∷ marks) zero e l = absurd (omega (arith, lead_some marks))
lead_next (false ∷ marks) (suc j) e l = lead_next marks j (omega arith) (omega arith)

-- the place that a gap leads to
pub next : (marks : List Bool) (i j : ℕ) → 1 ≤ get_or (gaps_of marks) i 0 → j ≡ i + get_or (gaps_of marks) i 0 → j < length marks → get_or marks j false ≡ true
next [] i j a e l = absurd (omega arith)
next (true ∷ marks) zero zero a e l = absurd (omega arith)
next (true ∷ marks) zero (suc j) a e l = lead_next marks j (omega arith) (omega arith)
next (false ∷ marks) zero j a e l = absurd (omega arith)
next (mark ∷ marks) (suc i) zero a e l = absurd (omega arith)
next (true ∷ marks) (suc i) (suc j) a e l = next marks i j a (omega arith) (omega arith)
next (false ∷ marks) (suc i) (suc j) a e l = next marks i j a (omega arith) (omega arith)

-- the gaps from a place on, of the marks from there on
pub record FilledFrom (marks : List Bool) (gaps : List ℕ) (gap j : ℕ) : Type 0 where
  pub inside : j ≤ length marks
  pub ahead : gap ≡ lead (drop j marks)
  pub done : drop j gaps ≡ gaps_of (drop j marks)

pub filled_none : (marks : List Bool) (gaps : List ℕ) → length gaps ≡ length marks → FilledFrom marks gaps 1 (length gaps)
filled_none marks gaps e =
    let none : drop (length gaps) marks ≡ [] = drop_all (length gaps) marks (omega arith) in
    record { inside = omega arith; ahead = rw none refl; done = rw (none, drop_all (length gaps) gaps (omega arith)) refl }

marked : (marks : List Bool) (j : ℕ) (b : Bool) → j < length marks → get_or marks j b ≡ b → drop j marks ≡ b ∷ drop (suc j) marks
marked [] j b l e = absurd (omega arith)
marked (m ∷ marks) zero b l e = ap (λ x. x ∷ marks) e
marked (m ∷ marks) (suc j) b l e = marked marks j b (omega arith) e

written : (gaps : List ℕ) (j x : ℕ) → j < length gaps → drop j (set gaps j x) ≡ x ∷ drop (suc j) gaps
written [] j x l = absurd (omega arith)
written (g ∷ gaps) zero x l = refl
written (g ∷ gaps) (suc j) x l = written gaps j x (omega arith)

lead_most : (marks : List Bool) → lead marks ≤ suc (length marks)
lead_most marks = lead_within marks

pub filled_marked : (marks : List Bool) (gaps : List ℕ) (gap j i : ℕ) → j ≡ suc i → length gaps ≡ length marks → get_or marks i true ≡ true → FilledFrom marks gaps gap j → FilledFrom marks (set gaps i gap) 1 i
filled_marked marks gaps gap j i ej e m k =
    let l : i < length marks = omega (arith, k.inside) in
    let apart : drop i marks ≡ true ∷ drop (suc i) marks = marked marks i true l m in
    let ahead : gap ≡ lead (drop (suc i) marks) = subst (λ n. gap ≡ lead (drop n marks)) ej k.ahead in
    let done : drop (suc i) gaps ≡ gaps_of (drop (suc i) marks) = subst (λ n. drop n gaps ≡ gaps_of (drop n marks)) ej k.done in
    record { inside = omega arith; ahead = rw apart refl; done = written gaps i gap (omega arith) ∙ ap (λ xs. gap ∷ xs) done ∙ ap (λ x. x ∷ gaps_of (drop (suc i) marks)) ahead ∙ ap gaps_of (sym apart) }

pub filled_unmarked : (marks : List Bool) (gaps : List ℕ) (gap j i : ℕ) → j ≡ suc i → length gaps ≡ length marks → get_or marks i false ≡ false → FilledFrom marks gaps gap j → FilledFrom marks (set gaps i 0) (gap + 1) i
filled_unmarked marks gaps gap j i ej e m k =
    let l : i < length marks = omega (arith, k.inside) in
    let apart : drop i marks ≡ false ∷ drop (suc i) marks = marked marks i false l m in
    let ahead : gap ≡ lead (drop (suc i) marks) = subst (λ n. gap ≡ lead (drop n marks)) ej k.ahead in
    let done : drop (suc i) gaps ≡ gaps_of (drop (suc i) marks) = subst (λ n. drop n gaps ≡ gaps_of (drop n marks)) ej k.done in
    record { inside = omega arith; ahead = rw apart (omega arith); done = written gaps i 0 (omega arith) ∙ ap (λ xs. 0 ∷ xs) done ∙ ap gaps_of (sym apart) }

pub gap_most : (marks : List Bool) (gaps : List ℕ) (gap j : ℕ) → FilledFrom marks gaps gap j → gap ≤ suc (length marks)
gap_most marks gaps gap j k = omega (arith, k.ahead, lead_within (drop j marks), length-drop j marks)

-- ---- the rows of a square
-- a row in its place
row_is : {X : Type 0} (size r : ℕ) (xs ys : List X) → take (r * size + size) xs ≡ take (r * size + size) ys → take size (drop (r * size) xs) ≡ take size (drop (r * size) ys)
row_is size r xs ys e = sym (drop-take (r * size) size xs) ∙ ap (drop (r * size)) e ∙ drop-take (r * size) size ys

-- the gaps of one row more
pub row_more : (size k : ℕ) (marks : List Bool) (gaps row : List ℕ) → k * size + size ≤ length gaps → length row ≡ size → row ≡ gaps_of (take (k * size + size - k * size) (drop (k * size) marks))
    → HasGaps k size marks gaps → HasGaps (k + 1) size marks (put_mid (k * size) (k * size + size - k * size) gaps row)
row_more size k marks gaps row fits l e has =
    let new = put_mid (k * size) (k * size + size - k * size) gaps row in
    let same : k * size + size - k * size ≡ size = omega arith in
    let here : take (k * size + size - k * size) (drop (k * size) new) ≡ row = between-put_mid (k * size) (k * size + size - k * size) gaps row (k * size + size) (omega arith) (omega arith) in
    below_more (λ r. take size (drop (r * size) new) ≡ gaps_of (take size (drop (r * size) marks))) k
    (λ r m.
    let fit = row_fits r k size m in
    row_is size r new gaps (take-put_mid_below (k * size) (k * size + size - k * size) gaps row (r * size + size) fit (omega arith)) ∙ has r m)
    (ap (λ m. take m (drop (k * size) new)) (sym same) ∙ here ∙ e ∙ ap (λ m. gaps_of (take m (drop (k * size) marks))) same)
