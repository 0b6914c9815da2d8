-- The records of a text, one by one.
use Rattle.std.proofs.Common.{◌≡◌, ◌∙◌, ap, sym, refl, arith, ℕ, zero, suc, ◌+◌, ◌-◌, ◌<◌, ◌≤◌, ◌⊎◌, inl, inr, List, [], ◌∷◌, length, Option, Some, None, IsSome, Bool, true, false, Bor}
use Rattle.csv.specs.Machine.{Read, next_record, step, is_end, ends_at_end, fields_after, field_after}
use Rattle.csv.specs.Reading.{ReadRecord, Reached, default_config, is_bom, records_from, records_next, source_of, strip_bom, took_first}
use Rattle.csv.specs.declared.parser.Config.{Config}
use Rattle.csv.specs.declared.parser.State.{State}
use Rattle.csv.specs.declared.reader.Reader.{Reader}
use Rattle.csv.proofs.ReadFacts.{rows-end, rows-more}
use Rattle.csv.specs.declared.parser.State.TheVariants as st
use Rattle.std.proofs.lemmas.Bool.{cases_Bool}
use Rattle.spectrum_reader.specs.Rows.{after_header, is_header}
use Rattle.spectrum_reader.specs.Records.{Fields, IsReading, ReadsFirst, left_of, records_after, records_of}

-- a read leaves less than it found, or was at the end of the text
abbrev Shortens : List ℕ → Read → Type 0
Shortens xs p = (length p.2 < length xs) ⊎ ((xs ≡ []) × (p.2 ≡ []) × (p.1 ≡ st.StartRecord))

shortens : (cfg : Config) (s : State) (fields : List (List ℕ)) (field xs : List ℕ) (p : Read) → next_record cfg s fields field xs ≡ Some p → Shortens xs p
unfolding next_record
shortens cfg s fields field [] p e = elim (cases_Bool (ends_at_end s)) [
  | inl is ↦ let h = rw is at e in inr (refl, cc h, cc h)
  | inr isn ↦ let h = rw isn at e in absurd (cc h)
]
shortens cfg s fields field (c ∷ rest) p e = elim (cases_Bool (is_end (step cfg s c).1)) [
  | inl is ↦ let h = rw is at e in let same : p.2 ≡ rest = cc h in inl (omega (arith, ap length same))
  | inr isn ↦ elim (shortens cfg (step cfg s c).0 (fields_after (step cfg s c).1 fields field) (field_after (step cfg s c).1 c field) rest p (rw isn at e)) [
    | inl less ↦ inl (omega (arith, less))
    | inr end ↦ inl (omega (arith, ap length end.1))
  ]
]

at_end : (n : ℕ) → records_from default_config n st.StartRecord [] ≡ []
unfolding records_from next_record
at_end zero = refl
at_end (suc n) = refl

next_more : (m : ℕ) (s : State) (xs : List ℕ) (o : Option Read) → length xs < suc m → next_record default_config s [] [] xs ≡ o
    → ((t : State) (ys : List ℕ) → length ys < m → records_from default_config (suc m) t ys ≡ records_from default_config m t ys)
    → records_next (records_from default_config (suc m)) o ≡ records_next (records_from default_config m) o
next_more m s xs None less e below = refl
next_more m s xs (Some p) less e below = elim (shortens default_config s [] [] xs p e) [
  | inl shorter ↦ ap (λ rows. p.0 ∷ rows) (below p.1 p.2 (omega (arith, shorter, less)))
  | inr end ↦ ap (λ rows. p.0 ∷ rows) (rw (end.1, end.2) (at_end (suc m) ∙ sym (at_end m)))
]

-- one more turn finds no more records, where there are enough for the text
one_more : (n : ℕ) (s : State) (xs : List ℕ) → length xs < n → records_from default_config (suc n) s xs ≡ records_from default_config n s xs
unfolding records_from
one_more zero s xs less = absurd (omega (arith, less))
one_more (suc m) s xs less = next_more m s xs (next_record default_config s [] [] xs) less refl (one_more m)

-- nor do several
more : (k n : ℕ) (s : State) (xs : List ℕ) → length xs < n → records_from default_config (k + n) s xs ≡ records_from default_config n s xs
more zero n s xs less = let same : 0 + n ≡ n = omega arith in ap (λ m. records_from default_config m s xs) same
more (suc k) n s xs less =
    let same : suc k + n ≡ suc (k + n) = omega arith in
    ap (λ m. records_from default_config m s xs) same ∙ one_more (k + n) s xs (omega (arith, less)) ∙ more k n s xs less

enough : (n : ℕ) (s : State) (xs : List ℕ) → length xs < n → records_from default_config n s xs ≡ records_after s xs
unfolding records_after
enough n s xs less =
    let same : n ≡ (n - (length xs + 1)) + (length xs + 1) = omega (arith, less) in
    ap (λ m. records_from default_config m s xs) same ∙ more (n - (length xs + 1)) (length xs + 1) s xs (omega arith)

turn : (s : State) (xs : List ℕ) → records_after s xs ≡ records_next (records_from default_config (length xs)) (next_record default_config s [] [] xs)
unfolding records_after records_from
turn s xs = let same : length xs + 1 ≡ suc (length xs) = omega arith in ap (λ m. records_from default_config m s xs) same

-- the first record of a text, and those after it
pub after_some : (s : State) (xs : List ℕ) (p : Read) → next_record default_config s [] [] xs ≡ Some p → records_after s xs ≡ p.0 ∷ records_after p.1 p.2
unfolding records_after records_from next_record
after_some s xs p e = elim (shortens default_config s [] [] xs p e) [
  | inl shorter ↦ turn s xs ∙ ap (records_next (records_from default_config (length xs))) e ∙ ap (λ rows. p.0 ∷ rows) (enough (length xs) p.1 p.2 shorter)
  | inr end ↦ turn s xs ∙ ap (records_next (records_from default_config (length xs))) e ∙ ap (λ rows. p.0 ∷ rows) (rw (end.1, end.2) (at_end (length xs)))
]

pub after_none : (s : State) (xs : List ℕ) → next_record default_config s [] [] xs ≡ None → records_after s xs ≡ []
after_none s xs e = turn s xs ∙ ap (records_next (records_from default_config (length xs))) e

-- what a reader has left, where its text is known
known : (state : State) (source : Option (List ℕ)) → IsSome source → (text : List ℕ) × (source ≡ Some text)
known state None none = absurd (cc none)
known state (Some text) some = (text, refl)

-- what a read of a reader answers
pub first_read : (a b : Reader (Bor (List ℕ))) (found : Bool) (fields : Fields) → IsReading a → took_first b ≡ true
    → ReadRecord (λ s. Some s.now) a b found fields → ReadsFirst a b fields found
unfolding Reached left_of
first_read a b true fields g took r =
    let (text, at_text) = known a.state (source_of (λ s. Some s.now) a) g.source in
    let m = rows-more (λ (s : Bor (List ℕ)). Some s.now) a b fields default_config a.state text text [] g.config at_text (refl, refl) r in
    let (p, next, is, on) = m.2 in (
      record { config = r.2 ∙ g.config; trim = r.3 ∙ g.trim; ready = inl took; source = rw m.1 refl },
      rw (at_text, m.1) (after_some a.state text p next ∙ ap (λ f. f ∷ records_after p.1 p.2) (sym is) ∙ ap (λ t. fields ∷ records_after t p.2) on.0 ∙ ap (λ t. fields ∷ records_after b.state t) on.1),
    )
first_read a b false fields g took r =
    let (text, at_text) = known a.state (source_of (λ s. Some s.now) a) g.source in
    rw at_text (after_none a.state text (rows-end (λ (s : Bor (List ℕ)). Some s.now) a b fields default_config text g.config at_text r))

-- a text has at most one record more than it has bytes
few_next : (n : ℕ) (o : Option Read) → ((s : State) (xs : List ℕ) → length (records_from default_config n s xs) ≤ n) → length (records_next (records_from default_config n) o) ≤ suc n
few_next n None few = omega arith
few_next n (Some p) few = omega (arith, few p.1 p.2)

few_from : (n : ℕ) (s : State) (xs : List ℕ) → length (records_from default_config n s xs) ≤ n
unfolding records_from
few_from zero s xs = omega arith
few_from (suc n) s xs = few_next n (next_record default_config s [] [] xs) (few_from n)

stripped : (xs : List ℕ) → length (strip_bom xs) ≤ length xs
unfolding strip_bom
stripped [] = omega arith
stripped (a ∷ []) = omega arith
stripped (a ∷ b ∷ []) = omega arith
stripped (a ∷ b ∷ c ∷ rest) = elim (cases_Bool (is_bom a b c)) [
  | inl is ↦ rw is (omega arith)
  | inr isn ↦ rw isn (omega arith)
]

pub few_records : (bytes : List ℕ) → length (records_of bytes) ≤ length bytes + 1
unfolding records_of
few_records bytes = omega (arith, few_from (length (strip_bom bytes) + 1) st.StartRecord (strip_bom bytes), stripped bytes)

-- the header is one of the records
pub fewer_after : (names : List (List ℕ)) (rows rest : List Fields) → after_header names rows ≡ Some rest → length rest + 1 ≤ length rows
fewer_after names [] rest e = absurd (cc e)
fewer_after names (first ∷ rows) rest e = elim (cases_Bool (is_header names first)) [
  | inl is ↦ let same : rows ≡ rest = (let h = rw is at e in cc h) in omega (arith, ap length same)
  | inr isn ↦ let h = rw isn at e in absurd (cc h)
]
