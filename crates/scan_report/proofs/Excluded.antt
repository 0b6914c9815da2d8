-- A report has no bad line.
use Rattle.std.proofs.Common.{◌≡◌, ◌∙◌, ap, sym, ℕ, suc, ◌+◌, List, [], ◌∷◌, ◌++◌, length, refl, subst, arith, length-append, append_assoc}
use Rattle.std.proofs.lemmas.List.{append_cancel_left}
use Rattle.scan_report.specs.declared.rows.Row.{Row}
use Rattle.scan_report.specs.Rows.{row_text}
use Rattle.scan_report.specs.Loose.{row_of}
use Rattle.scan_report.specs.Reading.{Stage, ended, MayStand, IsRow, IsInOrder, no_row, one_more, text_of, stage_after, IsReport, IsBadAt, NoReportIsBad}
use Rattle.scan_report.specs.Stands.{BeginsWithNone}
use Rattle.scan_report.proofs.Back.{row_back, row_some}

-- what a list of rows in order begins with
record Head (s t : Stage) (r : Row) (rs : List Row) : Type 0 where
  pub may : MayStand s r
  pub is : IsRow r
  pub rest : IsInOrder (stage_after r) rs t

head_of : {s t : Stage} (r : Row) (rs : List Row) → IsInOrder s (r ∷ rs) t → Head s t r rs
head_of _ _ (one_more s t r rs may is rest) = record { may = may; is = is; rest = rest }

none_left : {s t : Stage} {rows : List Row} → IsInOrder s rows t → rows ≡ [] → s ≡ t
none_left (no_row s) e = refl
none_left (one_more s t q qs may is rest) e = cc

-- texts that are equal begin with the same row
same_row : (s : Stage) (r q : Row) (x y : List ℕ) → MayStand s r → MayStand s q → IsRow r → IsRow q → row_text r ++ x ≡ row_text q ++ y → r ≡ q
same_row s r q x y may might h k e = sym (row_back s r x may h) ∙ ap row_of e ∙ row_back s q y might k

some_text : (q : Row) (x : List ℕ) → ¬ ([] ≡ row_text q ++ x)
some_text q x e = absurd (omega (arith, ap length e, length-append (row_text q) x, row_some q))

apart : {s stage : Stage} {before : List Row} → IsInOrder s before stage → (rows : List Row) (rest : List ℕ) → IsInOrder s rows ended
    → text_of rows ≡ text_of before ++ rest → ¬ ((stage ≡ ended) × (rest ≡ [])) → BeginsWithNone stage rest → ⊥
apart (no_row s) [] rest whole e open_yet none = open_yet (none_left whole refl, sym e)
apart (no_row s) (r ∷ rs) rest whole e open_yet none =
    let head = head_of r rs whole in
    none r (text_of rs) head.may head.is (sym e)
apart (one_more s t q qs may is order) [] rest whole e open_yet none = some_text q (text_of qs ++ rest) (e ∙ append_assoc (row_text q) (text_of qs) rest)
apart (one_more s t q qs may is order) (r ∷ rs) rest whole e open_yet none =
    let head = head_of r rs whole in
    let joined : row_text r ++ text_of rs ≡ row_text q ++ (text_of qs ++ rest) = e ∙ append_assoc (row_text q) (text_of qs) rest in
    let same : r ≡ q = same_row s r q (text_of rs) (text_of qs ++ rest) head.may may head.is is joined in
    let tails : text_of rs ≡ text_of qs ++ rest = append_cancel_left (row_text q) (text_of rs) (text_of qs ++ rest) (subst (λ x. row_text x ++ text_of rs ≡ row_text q ++ (text_of qs ++ rest)) same joined) in
    apart order rs rest (subst (λ x. IsInOrder (stage_after x) rs ended) same head.rest) tails open_yet none

pub no_report_is_bad : NoReportIsBad
no_report_is_bad bytes rows line report bad = apart bad.order rows bad.rest report.order (sym report.text ∙ bad.text) bad.unfinished bad.none

-- ---- bytes are one report at most, and have one first bad line at most
same_rows : {s : Stage} (a b : List Row) → IsInOrder s a ended → IsInOrder s b ended → text_of a ≡ text_of b → a ≡ b
same_rows [] [] h k e = refl
same_rows [] (q ∷ qs) h k e = absurd (some_text q (text_of qs) e)
same_rows (r ∷ rs) [] h k e = absurd (some_text r (text_of rs) (sym e))
same_rows {s} (r ∷ rs) (q ∷ qs) h k e =
    let f = head_of r rs h in
    let g = head_of q qs k in
    let same : r ≡ q = same_row s r q (text_of rs) (text_of qs) f.may g.may f.is g.is e in
    let tails : text_of rs ≡ text_of qs = append_cancel_left (row_text q) (text_of rs) (text_of qs) (subst (λ x. row_text x ++ text_of rs ≡ row_text q ++ text_of qs) same e) in
    ap (λ (x : Row). x ∷ rs) same ∙ ap (λ (l : List Row). q ∷ l) (same_rows rs qs (subst (λ x. IsInOrder (stage_after x) rs ended) same f.rest) g.rest tails)

pub one_report : (bytes : List ℕ) (a b : List Row) → IsReport bytes a → IsReport bytes b → a ≡ b
one_report bytes a b h k = same_rows a b h.order k.order (sym h.text ∙ k.text)

-- rows before a first bad line are as many as those before another
same_count : {s u v : Stage} (a b : List Row) (x y : List ℕ) → IsInOrder s a u → IsInOrder s b v → text_of a ++ x ≡ text_of b ++ y → BeginsWithNone u x → BeginsWithNone v y → length a ≡ length b
same_count [] [] x y h k e none none' = refl
same_count [] (q ∷ qs) x y h k e none none' =
    let g = head_of q qs k in
    absurd (subst (λ t. BeginsWithNone t x) (sym (none_left h refl)) none q (text_of qs ++ y) g.may g.is (e ∙ append_assoc (row_text q) (text_of qs) y))
same_count (r ∷ rs) [] x y h k e none none' =
    let f = head_of r rs h in
    absurd (subst (λ t. BeginsWithNone t y) (sym (none_left k refl)) none' r (text_of rs ++ x) f.may f.is (sym e ∙ append_assoc (row_text r) (text_of rs) x))
same_count {s} {u} (r ∷ rs) (q ∷ qs) x y h k e none none' =
    let f = head_of r rs h in
    let g = head_of q qs k in
    let joined : row_text r ++ (text_of rs ++ x) ≡ row_text q ++ (text_of qs ++ y) = sym (append_assoc (row_text r) (text_of rs) x) ∙ e ∙ append_assoc (row_text q) (text_of qs) y in
    let same : r ≡ q = same_row s r q (text_of rs ++ x) (text_of qs ++ y) f.may g.may f.is g.is joined in
    let tails : text_of rs ++ x ≡ text_of qs ++ y = append_cancel_left (row_text q) (text_of rs ++ x) (text_of qs ++ y) (subst (λ z. row_text z ++ (text_of rs ++ x) ≡ row_text q ++ (text_of qs ++ y)) same joined) in
    ap suc (same_count rs qs x y (subst (λ z. IsInOrder (stage_after z) rs u) same f.rest) g.rest tails none none')

pub one_bad_line : (bytes : List ℕ) (m n : ℕ) → IsBadAt bytes m → IsBadAt bytes n → m ≡ n
one_bad_line bytes m n h k = h.number ∙ ap (λ (c : ℕ). c + 1) (same_count h.rows k.rows h.rest k.rest h.order k.order (sym h.text ∙ k.text) h.none k.none) ∙ sym k.number
