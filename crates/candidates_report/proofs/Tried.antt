-- Sizes that are tried one after another.
use Rattle.std.proofs.Common.{◌≡◌, ◌∙◌, ℕ, ℤ, ◌+◌, ◌-◌, ◌<◌, ◌≤◌, List, [], ◌∷◌, ◌++◌, map, drop, length, append_assoc, append-nil, refl, sym, ap, arith}
use Rattle.std.specs.Prelude.{Option, Some, None, slice_get}
use Rattle.std.specs.Option.{option_map}
use Rattle.std.proofs.lemmas.List.{drop_more, drop_all}
use Rattle.std.proofs.lemmas.Option.{slice_get_within, get_or_from_slice_get}
use Rattle.study_variants.specs.Sizes.{Sizing, size_row}
use Rattle.study_variants.specs.declared.size_row.SizeRow.{SizeRow}
use Rattle.study_variants.proofs.SizeRows.{row_at_any_time}

unwrapped : (x y : SizeRow) → Some x ≡ Some y → x ≡ y
unwrapped x y e = cc

-- a size that is answered is there
there : (f : ℤ → SizeRow) (sizes : List ℤ) (given : ℕ) (row : SizeRow) → Some row ≡ option_map f (slice_get sizes given) → given < length sizes
there f sizes given row answered = go (slice_get sizes given) refl answered
  where
    go : (o : Option ℤ) → slice_get sizes given ≡ o → Some row ≡ option_map f o → given < length sizes
    go None at e = absurd cc
    go (Some q) at e = slice_get_within sizes given q at

-- one more, by a function that says the same of each size
next_tried : (f g : ℤ → SizeRow) (sizes : List ℤ) (given : ℕ) (rows : List SizeRow) (row : SizeRow) → ((q : ℤ) → g q ≡ f q) → Some row ≡ option_map g (slice_get sizes given)
    → rows ++ map f (drop given sizes) ≡ map f sizes → (rows ++ row ∷ []) ++ map f (drop (given + 1) sizes) ≡ map f sizes
next_tried f g sizes given rows row same answered before = go (slice_get sizes given) refl answered
  where
    go : (o : Option ℤ) → slice_get sizes given ≡ o → Some row ≡ option_map g o → (rows ++ row ∷ []) ++ map f (drop (given + 1) sizes) ≡ map f sizes
    go None at e = absurd cc
    go (Some q) at e =
        let is : row ≡ f q = unwrapped row (g q) e ∙ same q in
        let rest : drop given sizes ≡ q ∷ drop (given + 1) sizes
        = drop_more sizes given q (slice_get_within sizes given q at) ∙ ap (λ (x : ℤ). x ∷ drop (given + 1) sizes) (get_or_from_slice_get sizes given q q at) in
        append_assoc rows (row ∷ []) (map f (drop (given + 1) sizes))
        ∙ ap (λ (r : SizeRow). rows ++ r ∷ map f (drop (given + 1) sizes)) is
        ∙ sym (ap (λ (l : List ℤ). rows ++ map f l) rest)
        ∙ before

-- ---- what is kept meanwhile
-- some sizes have been tried, and the others are still to be
pub record AreTried (scale : ℕ) (first now : Sizing) (rows : List SizeRow) : Type 0 where
  pub same : now ≡ record first { given = now.given }
  pub tried : rows ++ map (size_row scale first) (drop now.given first.sizes) ≡ map (size_row scale first) first.sizes

same_sizes : (first now : Sizing) → now ≡ record first { given = now.given } → now.sizes ≡ first.sizes
same_sizes first now same = ap (λ (c : Sizing). c.sizes) same

-- whatever has been given, a size has the same row
same_row : (scale : ℕ) (first now : Sizing) → now ≡ record first { given = now.given } → (q : ℤ) → size_row scale now q ≡ size_row scale first q
same_row scale first now same q = ap (λ (c : Sizing). size_row scale c q) same ∙ row_at_any_time scale first now.given q

pub one_more : (scale : ℕ) (first now next : Sizing) (rows : List SizeRow) (row : SizeRow) → Some row ≡ option_map (size_row scale now) (slice_get now.sizes now.given)
    → next ≡ record now { given = now.given + 1 } → AreTried scale first now rows → AreTried scale first next (rows ++ row ∷ [])
one_more scale first now next rows row answered step h =
    let given : next.given ≡ now.given + 1 = ap (λ (c : Sizing). c.given) step in
    let there : Some row ≡ option_map (size_row scale now) (slice_get first.sizes now.given)
    = answered ∙ ap (λ (l : List ℤ). option_map (size_row scale now) (slice_get l now.given)) (same_sizes first now h.same) in
    record {
      same = step ∙ ap (λ (c : Sizing). record c { given = now.given + 1 }) h.same ∙ ap (λ (n : ℕ). record first { given = n }) (sym given);
      tried = ap (λ (n : ℕ). (rows ++ row ∷ []) ++ map (size_row scale first) (drop n first.sizes)) given
          ∙ next_tried (size_row scale first) (size_row scale now) first.sizes now.given rows row (same_row scale first now h.same) there h.tried;
    }

pub fewer : (scale : ℕ) (now next : Sizing) (row : SizeRow) → Some row ≡ option_map (size_row scale now) (slice_get now.sizes now.given) → next ≡ record now { given = now.given + 1 }
    → length next.sizes - next.given < length now.sizes - now.given
fewer scale now next row answered step =
    let inside : now.given < length now.sizes = there (size_row scale now) now.sizes now.given row answered in
    let given : next.given ≡ now.given + 1 = ap (λ (c : Sizing). c.given) step in
    let sizes : length next.sizes ≡ length now.sizes = ap (λ (c : Sizing). length c.sizes) step in
    omega (arith, inside, given, sizes)

-- and at the end all are
pub all_tried : (scale : ℕ) (first now : Sizing) (rows : List SizeRow) → now.given ≡ length now.sizes → AreTried scale first now rows → rows ≡ map (size_row scale first) first.sizes
all_tried scale first now rows last h =
    let past : length first.sizes ≤ now.given = let same = ap length (same_sizes first now h.same) in omega (arith, last, same) in
    sym (append-nil rows) ∙ sym (ap (λ (l : List ℤ). rows ++ map (size_row scale first) l) (drop_all now.given first.sizes past)) ∙ h.tried
