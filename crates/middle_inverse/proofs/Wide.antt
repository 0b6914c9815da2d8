-- Rows that keep their sizes.
use Rattle.std.proofs.Common.{◌≡◌, ℕ, zero, suc, ◌<◌, List, [], ◌∷◌, ◌++◌, length, get_or, set, take, drop, map, replicate, sym, ap, ◌∙◌, subst, arith}
use Rattle.std.specs.List.{All, swap}
use Rattle.std.proofs.lemmas.List.Elements.{All-nil, All-cons, All-set, All-get_or, All-append, All-take, All-drop, All-same}
use Rattle.std.proofs.lemmas.List.{length-replicate}
use Rattle.std.proofs.lemmas.List.Edits.{swap_is}

module _ {R : Type 0} (size : R → ℕ) (w : ℕ) where
  abbrev pub Wide : List R → Type 0
  Wide rows = All (λ r. size r ≡ w) rows

  pub wide_set : (rows : List R) (i : ℕ) (a d : R) → i < length rows → a ≡ get_or rows i a → size d ≡ size a → Wide rows → Wide (set rows i d)
  wide_set rows i a d l is same all = All-set (λ r. size r ≡ w) rows i d (same ∙ ap size is ∙ All-get_or (λ r. size r ≡ w) rows i a l all) all

  pub wide_swap : (rows swapped : List R) (i j : ℕ) → i < length rows → j < length rows → swapped ≡ swap rows i j → Wide rows → Wide swapped
  wide_swap [] swapped i j li lj e all = absurd (omega arith)
  wide_swap (x ∷ rows) swapped i j li lj e all =
      let P = λ (r : R). size r ≡ w in
      let at_i = All-get_or P (x ∷ rows) i x li all in
      let at_j = All-get_or P (x ∷ rows) j x lj all in
      let both = All-set P (set (x ∷ rows) i (get_or (x ∷ rows) j x)) j (get_or (x ∷ rows) i x) at_i (All-set P (x ∷ rows) i (get_or (x ∷ rows) j x) at_j all) in
      All-same P swapped (swap (x ∷ rows) i j) e (subst (All P) (swap_is (x ∷ rows) i j x li lj) both)

  -- the parts of rows, and the whole of parts
  pub wide_front : (rows front : List R) (k : ℕ) → front ≡ take k rows → Wide rows → Wide front
  wide_front rows front k e all = All-same (λ r. size r ≡ w) front (take k rows) e (All-take (λ r. size r ≡ w) k rows all)

  pub wide_back : (rows back : List R) (k : ℕ) → back ≡ drop k rows → Wide rows → Wide back
  wide_back rows back k e all = All-same (λ r. size r ≡ w) back (drop k rows) e (All-drop (λ r. size r ≡ w) k rows all)

  pub wide_both : (front back : List R) → Wide front → Wide back → Wide (front ++ back)
  wide_both front back f b = All-append (λ r. size r ≡ w) front back f b

-- rows that are all of this width
pub wide_noughts : {R Y : Type 0} (size : R → ℕ) (h : R → List Y) (w n : ℕ) (x : Y) (rows : List R) → ((r : R) → length (h r) ≡ size r) → map h rows ≡ replicate n (replicate w x) → All (λ r. size r ≡ w) rows
wide_noughts size h w n x [] same e = All-nil (λ r. size r ≡ w)
wide_noughts size h w zero x (r ∷ rows) same e = absurd cc
wide_noughts size h w (suc n) x (r ∷ rows) same e =
    let first : h r ≡ replicate w x = cc in
    let rest : map h rows ≡ replicate n (replicate w x) = cc in
    All-cons (λ r. size r ≡ w) r rows (sym (same r) ∙ ap length first ∙ length-replicate w x) (wide_noughts size h w n x rows same rest)
