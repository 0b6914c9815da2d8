-- Readings of files, one after another: what they ask for, how they end, and that what is told of the files decides what is read.
use Rattle.std.proofs.Common.{◌≡◌, ◌⊎◌, inl, inr, ℕ, ◌+◌, ◌<◌, ◌≤◌, List, [], ◌∷◌, ◌++◌, length, take, Option, Some, None, IfSome, Result, Ok, Err, refl, ap, sym, subst, ◌∙◌, arith, append-nil, append_assoc, length-append}
use Rattle.std.proofs.Math.Seq.{take-append-add}
use Rattle.std.proofs.lemmas.List.{take-append-le}
use Rattle.harm_io.specs.Causes.{Rose}
use Rattle.harm_io.specs.Shelves.{ShelfState, asked_too}
use Rattle.harmscan_core.specs.Files.{longest_file, IsReadAs, Reads, TellsFile, Gives, Then, ends, goes_on}
use Rattle.harmscan_core.specs.Outcome.{status_at}
use Rattle.harmscan_core.specs.declared.files.File.{File}
use Rattle.harmscan_core.specs.declared.files.Refusal.{Refusal}
use Rattle.harmscan_core.specs.declared.outcome.Outcome.{Outcome}
use Rattle.harmscan_core.specs.declared.outcome.Outcome.TheVariants.{WordsRefused, ReadFailed, TooLarge, Refused, WriteFailed, NoMemory, Written}

-- an outcome at which a run ends at its files
abbrev pub IsEnd : Outcome → Type 0
IsEnd (ReadFailed f) = Unit {0}
IsEnd (TooLarge f) = Unit {0}
IsEnd (Refused r) = Unit {0}
IsEnd NoMemory = Unit {0}
IsEnd _ = ⊥

-- all names were asked for, and nothing else changed
pub record AsksAll (names : List (List ℕ)) (s t : ShelfState) : Type 0 where
  pub file : t.file ≡ s.file
  pub asked : t.asked ≡ s.asked ++ names
  pub calm : t.faults ≡ s.faults

-- the first so many names were asked for, and the run ends
pub record EndsAfter (names : List (List ℕ)) (s t : ShelfState) (o : Outcome) : Type 0 where
  pub file : t.file ≡ s.file
  pub count : ℕ
  pub within : count ≤ length names
  pub asked : t.asked ≡ s.asked ++ take count names
  pub end : IsEnd o
  pub rose : s.faults < t.faults → status_at o ≡ 5

-- what each reading of files by these names does
pub record IsReading {A : Type 0} (names : List (List ℕ)) (R : ShelfState → ShelfState → Result A Outcome → Type 0) : Type 0 where
  pub ok : (s t : ShelfState) (a : A) → R s t (Ok a) → AsksAll names s t
  pub err : (s t : ShelfState) (o : Outcome) → R s t (Err o) → EndsAfter names s t o

-- ---- one file
asked_all : (name : List ℕ) (s t : ShelfState) → t ≡ asked_too s name → AsksAll (name ∷ []) s t
asked_all name s t e = record {
  file = ap (λ (x : ShelfState). x.file) e;
  asked = ap (λ (x : ShelfState). x.asked) e;
  calm = ap (λ (x : ShelfState). x.faults) e;
}

ends_asked : (name : List ℕ) (s t : ShelfState) (o : Outcome) → IsEnd o → t ≡ asked_too s name → EndsAfter (name ∷ []) s t o
ends_asked name s t o end e = record {
  file = ap (λ (x : ShelfState). x.file) e;
  count = 1;
  within = omega arith;
  asked = ap (λ (x : ShelfState). x.asked) e;
  end = end;
  rose = λ h. let same : t.faults ≡ s.faults = ap (λ (x : ShelfState). x.faults) e in absurd (omega arith);
}

ends_unasked : (name : List ℕ) (s t : ShelfState) (o : Outcome) → IsEnd o → t ≡ s → EndsAfter (name ∷ []) s t o
ends_unasked name s t o end e = record {
  file = ap (λ (x : ShelfState). x.file) e;
  count = 0;
  within = omega arith;
  asked = ap (λ (x : ShelfState). x.asked) e ∙ sym (append-nil s.asked);
  end = end;
  rose = λ h. let same : t.faults ≡ s.faults = ap (λ (x : ShelfState). x.faults) e in absurd (omega arith);
}

file_ends : (A : Type 0) (file : File) (Is : List ℕ → A → Type 0) (Refuses : List ℕ → Refusal → Type 0) (name : List ℕ) (s t : ShelfState) (o : Outcome)
    → Reads A file Is Refuses name s t (Err o) → EndsAfter (name ∷ []) s t o
file_ends A file Is Refuses name s t (ReadFailed f) h =
    record { file = h.1.file; count = 1; within = omega arith; asked = h.1.asked; end = tt; rose = λ _. refl }
file_ends A file Is Refuses name s t (TooLarge f) h = ends_asked name s t (TooLarge f) tt h.0
file_ends A file Is Refuses name s t (Refused r) h = ends_asked name s t (Refused r) tt h.0
file_ends A file Is Refuses name s t NoMemory (inl h) = ends_unasked name s t NoMemory tt h
file_ends A file Is Refuses name s t NoMemory (inr h) = ends_asked name s t NoMemory tt h
file_ends A file Is Refuses name s t WordsRefused h = absurd h
file_ends A file Is Refuses name s t WriteFailed h = absurd h
file_ends A file Is Refuses name s t (Written x) h = absurd h

pub file_is : (A : Type 0) (file : File) (Is : List ℕ → A → Type 0) (Refuses : List ℕ → Refusal → Type 0) (name : List ℕ) → IsReading (name ∷ []) (Reads A file Is Refuses name)
file_is A file Is Refuses name = record { ok = λ s t a h. asked_all name s t h.0; err = λ s t o h. file_ends A file Is Refuses name s t o h }

-- ---- no file
pub gives_is : (A : Type 0) (a : A) → IsReading [] (Gives a)
gives_is A a = record {
  ok = λ s t b h. record {
    file = ap (λ (x : ShelfState). x.file) h.stays;
    asked = ap (λ (x : ShelfState). x.asked) h.stays ∙ sym (append-nil s.asked);
    calm = ap (λ (x : ShelfState). x.faults) h.stays;
  };
  err = λ s t o h. let e = h.answer in absurd (cc);
}

-- ---- one reading after another
both_asked : (names more : List (List ℕ)) (s m t : ShelfState) → AsksAll names s m → AsksAll more m t → AsksAll (names ++ more) s t
both_asked names more s m t f n = record {
  file = n.file ∙ f.file;
  asked = n.asked ∙ ap (λ (l : List (List ℕ)). l ++ more) f.asked ∙ append_assoc s.asked names more;
  calm = n.calm ∙ f.calm;
}

ends_first : (names more : List (List ℕ)) (s t : ShelfState) (o : Outcome) → EndsAfter names s t o → EndsAfter (names ++ more) s t o
ends_first names more s t o h = record {
  file = h.file;
  count = h.count;
  within = omega (arith, length-append names more, h.within);
  asked = h.asked ∙ ap (λ (l : List (List ℕ)). s.asked ++ l) (sym (take-append-le h.count names more h.within));
  end = h.end;
  rose = h.rose;
}

ends_second : (names more : List (List ℕ)) (s m t : ShelfState) (o : Outcome) → AsksAll names s m → EndsAfter more m t o → EndsAfter (names ++ more) s t o
ends_second names more s m t o f n = record {
  file = n.file ∙ f.file;
  count = length names + n.count;
  within = omega (arith, length-append names more, n.within);
  asked = n.asked ∙ ap (λ (l : List (List ℕ)). l ++ take n.count more) f.asked ∙ append_assoc s.asked names (take n.count more)
      ∙ ap (λ (l : List (List ℕ)). s.asked ++ l) (sym (take-append-add names more n.count));
  end = n.end;
  rose = λ h. let same : m.faults ≡ s.faults = f.calm in n.rose (omega arith);
}

then_ok : (A B : Type 0) (names more : List (List ℕ)) (First : ShelfState → ShelfState → Result A Outcome → Type 0) (Next : A → ShelfState → ShelfState → Result B Outcome → Type 0)
    → IsReading names First → ((a : A) → IsReading more (Next a)) → (s t : ShelfState) (b : B) → Then First Next s t (Ok b) → AsksAll (names ++ more) s t
then_ok A B names more First Next f n s t b (ends o h e) = absurd (cc)
then_ok A B names more First Next f n s t b (goes_on a m h k) = both_asked names more s m t (f.ok s m a h) ((n a).ok m t b k)

then_err : (A B : Type 0) (names more : List (List ℕ)) (First : ShelfState → ShelfState → Result A Outcome → Type 0) (Next : A → ShelfState → ShelfState → Result B Outcome → Type 0)
    → IsReading names First → ((a : A) → IsReading more (Next a)) → (s t : ShelfState) (o : Outcome) → Then First Next s t (Err o) → EndsAfter (names ++ more) s t o
then_err A B names more First Next f n s t o (ends p h e) =
    let same : p ≡ o = cc in subst (EndsAfter (names ++ more) s t) same (ends_first names more s t p (f.err s t p h))
then_err A B names more First Next f n s t o (goes_on a m h k) = ends_second names more s m t o (f.ok s m a h) ((n a).err m t o k)

pub then_is : (A B : Type 0) (names more : List (List ℕ)) (First : ShelfState → ShelfState → Result A Outcome → Type 0) (Next : A → ShelfState → ShelfState → Result B Outcome → Type 0)
    → IsReading names First → ((a : A) → IsReading more (Next a)) → IsReading (names ++ more) (Then First Next)
then_is A B names more First Next f n = record {
  ok = λ s t b h. then_ok A B names more First Next f n s t b h;
  err = λ s t o h. then_err A B names more First Next f n s t o h;
}

-- ---- what is told decides what is read
-- bytes are one value at most, or are refused for one refusal at most, and not both
pub record IsDecided {A : Type 0} (Is : List ℕ → A → Type 0) (Refuses : List ℕ → Refusal → Type 0) : Type 0 where
  pub one : (bytes : List ℕ) (a b : A) → Is bytes a → Is bytes b → a ≡ b
  pub not_both : (bytes : List ℕ) (a : A) (r : Refusal) → Is bytes a → Refuses bytes r → ⊥
  pub one_refusal : (bytes : List ℕ) (q r : Refusal) → Refuses bytes q → Refuses bytes r → q ≡ r

-- Where a reading is told, it answers what is told, or memory is wanting, unless a fault is counted.
pub record IsForetold {A : Type 0} (T R : ShelfState → ShelfState → Result A Outcome → Type 0) : Type 0 where
  pub stays : (s s' : ShelfState) (w : Result A Outcome) → T s s' w → s' ≡ s
  pub status : (s s' : ShelfState) (o : Outcome) → T s s' (Err o) → status_at o ≡ 2
  pub agree : (s s' u t : ShelfState) (w r : Result A Outcome) → u.file ≡ s.file → T s s' w → R u t r
      → ((o : Outcome) → r ≡ Err o → Rose u.faults t.faults → ⊥) → (r ≡ w) ⊎ (r ≡ Err NoMemory)

told : (bytes b : List ℕ) (file : Option (List ℕ)) → file ≡ Some bytes → IfSome file (λ c. b ≡ c) → b ≡ bytes
told bytes b None e h = absurd (cc)
told bytes b (Some c) e h = let same : c ≡ bytes = cc in h ∙ same

longer : (bytes : List ℕ) (file : Option (List ℕ)) (n : ℕ) → file ≡ Some bytes → IfSome file (λ c. n < length c) → n < length bytes
longer bytes None n e h = absurd (cc)
longer bytes (Some c) n e h = let same : c ≡ bytes = cc in subst (λ (x : List ℕ). n < length x) same h

-- a reading of bytes that are told
reads_told : (A : Type 0) (file : File) (Is : List ℕ → A → Type 0) (Refuses : List ℕ → Refusal → Type 0) (name bytes : List ℕ) (u t : ShelfState) (r : Result A Outcome)
    → u.file name ≡ Some bytes → Reads A file Is Refuses name u t r → ((o : Outcome) → r ≡ Err o → Rose u.faults t.faults → ⊥)
    → IsReadAs A file Is Refuses bytes r ⊎ (r ≡ Err NoMemory)
reads_told A file Is Refuses name bytes u t (Ok a) e h calm =
    inl (subst (λ (b : List ℕ). IsReadAs A file Is Refuses b (Ok a)) (told bytes h.1.bytes (u.file name) e h.1.given) h.1.holds)
reads_told A file Is Refuses name bytes u t (Err (Refused q)) e h calm =
    inl (subst (λ (b : List ℕ). IsReadAs A file Is Refuses b (Err (Refused q))) (told bytes h.1.bytes (u.file name) e h.1.given) h.1.holds)
reads_told A file Is Refuses name bytes u t (Err (TooLarge f)) e h calm = inl (h.1, longer bytes (u.file name) longest_file e h.2)
reads_told A file Is Refuses name bytes u t (Err (ReadFailed f)) e h calm = absurd (calm (ReadFailed f) refl h.1.cause.rose)
reads_told A file Is Refuses name bytes u t (Err NoMemory) e h calm = inr refl
reads_told A file Is Refuses name bytes u t (Err WordsRefused) e h calm = absurd h
reads_told A file Is Refuses name bytes u t (Err WriteFailed) e h calm = absurd h
reads_told A file Is Refuses name bytes u t (Err (Written x)) e h calm = absurd h

-- bytes that are a value are read as it alone
as_value : (A : Type 0) (file : File) (Is : List ℕ → A → Type 0) (Refuses : List ℕ → Refusal → Type 0) (bytes : List ℕ) (a : A) (r : Result A Outcome) → IsDecided Is Refuses
    → length bytes ≤ longest_file → Is bytes a → IsReadAs A file Is Refuses bytes r → r ≡ Ok a
as_value A file Is Refuses bytes a (Ok b) d fits i h = ap Ok (d.one bytes b a h.1 i)
as_value A file Is Refuses bytes a (Err (Refused q)) d fits i h = absurd (d.not_both bytes a q i h.1)
as_value A file Is Refuses bytes a (Err (TooLarge f)) d fits i h = let large = h.1 in absurd (omega arith)
as_value A file Is Refuses bytes a (Err (ReadFailed f)) d fits i h = absurd h
as_value A file Is Refuses bytes a (Err NoMemory) d fits i h = absurd h
as_value A file Is Refuses bytes a (Err WordsRefused) d fits i h = absurd h
as_value A file Is Refuses bytes a (Err WriteFailed) d fits i h = absurd h
as_value A file Is Refuses bytes a (Err (Written x)) d fits i h = absurd h

-- bytes that are refused are read as that alone
as_refusal : (A : Type 0) (file : File) (Is : List ℕ → A → Type 0) (Refuses : List ℕ → Refusal → Type 0) (bytes : List ℕ) (p : Refusal) (r : Result A Outcome) → IsDecided Is Refuses
    → length bytes ≤ longest_file → Refuses bytes p → IsReadAs A file Is Refuses bytes r → r ≡ Err (Refused p)
as_refusal A file Is Refuses bytes p (Ok b) d fits i h = absurd (d.not_both bytes b p h.1 i)
as_refusal A file Is Refuses bytes p (Err (Refused q)) d fits i h = ap (λ (x : Refusal). Err (Refused x)) (d.one_refusal bytes q p h.1 i)
as_refusal A file Is Refuses bytes p (Err (TooLarge f)) d fits i h = let large = h.1 in absurd (omega arith)
as_refusal A file Is Refuses bytes p (Err (ReadFailed f)) d fits i h = absurd h
as_refusal A file Is Refuses bytes p (Err NoMemory) d fits i h = absurd h
as_refusal A file Is Refuses bytes p (Err WordsRefused) d fits i h = absurd h
as_refusal A file Is Refuses bytes p (Err WriteFailed) d fits i h = absurd h
as_refusal A file Is Refuses bytes p (Err (Written x)) d fits i h = absurd h

-- bytes that are too many are read as that alone
as_excess : (A : Type 0) (file : File) (Is : List ℕ → A → Type 0) (Refuses : List ℕ → Refusal → Type 0) (bytes : List ℕ) (f : File) (r : Result A Outcome)
    → f ≡ file → longest_file < length bytes → IsReadAs A file Is Refuses bytes r → r ≡ Err (TooLarge f)
as_excess A file Is Refuses bytes f (Ok b) e large h = let fits = h.0 in absurd (omega arith)
as_excess A file Is Refuses bytes f (Err (Refused q)) e large h = let fits = h.0 in absurd (omega arith)
as_excess A file Is Refuses bytes f (Err (TooLarge g)) e large h = ap (λ (x : File). Err (TooLarge x)) (h.0 ∙ sym e)
as_excess A file Is Refuses bytes f (Err (ReadFailed g)) e large h = absurd h
as_excess A file Is Refuses bytes f (Err NoMemory) e large h = absurd h
as_excess A file Is Refuses bytes f (Err WordsRefused) e large h = absurd h
as_excess A file Is Refuses bytes f (Err WriteFailed) e large h = absurd h
as_excess A file Is Refuses bytes f (Err (Written x)) e large h = absurd h

same_reading : (A : Type 0) (file : File) (Is : List ℕ → A → Type 0) (Refuses : List ℕ → Refusal → Type 0) (bytes : List ℕ) (w r : Result A Outcome) → IsDecided Is Refuses
    → IsReadAs A file Is Refuses bytes w → IsReadAs A file Is Refuses bytes r → r ≡ w
same_reading A file Is Refuses bytes (Ok a) r d h k = as_value A file Is Refuses bytes a r d h.0 h.1 k
same_reading A file Is Refuses bytes (Err (Refused p)) r d h k = as_refusal A file Is Refuses bytes p r d h.0 h.1 k
same_reading A file Is Refuses bytes (Err (TooLarge f)) r d h k = as_excess A file Is Refuses bytes f r h.0 h.1 k
same_reading A file Is Refuses bytes (Err (ReadFailed f)) r d h k = absurd h
same_reading A file Is Refuses bytes (Err NoMemory) r d h k = absurd h
same_reading A file Is Refuses bytes (Err WordsRefused) r d h k = absurd h
same_reading A file Is Refuses bytes (Err WriteFailed) r d h k = absurd h
same_reading A file Is Refuses bytes (Err (Written x)) r d h k = absurd h

told_status : (A : Type 0) (file : File) (Is : List ℕ → A → Type 0) (Refuses : List ℕ → Refusal → Type 0) (bytes : List ℕ) (o : Outcome) → IsReadAs A file Is Refuses bytes (Err o) → status_at o ≡ 2
told_status A file Is Refuses bytes (Refused p) h = refl
told_status A file Is Refuses bytes (TooLarge f) h = refl
told_status A file Is Refuses bytes (ReadFailed f) h = absurd h
told_status A file Is Refuses bytes NoMemory h = absurd h
told_status A file Is Refuses bytes WordsRefused h = absurd h
told_status A file Is Refuses bytes WriteFailed h = absurd h
told_status A file Is Refuses bytes (Written x) h = absurd h

file_agrees : (A : Type 0) (file : File) (Is : List ℕ → A → Type 0) (Refuses : List ℕ → Refusal → Type 0) (name bytes : List ℕ) (u t : ShelfState) (w r : Result A Outcome) → IsDecided Is Refuses
    → u.file name ≡ Some bytes → IsReadAs A file Is Refuses bytes w → Reads A file Is Refuses name u t r → ((o : Outcome) → r ≡ Err o → Rose u.faults t.faults → ⊥) → (r ≡ w) ⊎ (r ≡ Err NoMemory)
file_agrees A file Is Refuses name bytes u t w r d e h k calm =
    elim (reads_told A file Is Refuses name bytes u t r e k calm) [
      | inl is ↦ inl (same_reading A file Is Refuses bytes w r d h is)
      | inr lacks ↦ inr lacks
    ]

pub file_foretold : (A : Type 0) (file : File) (Is : List ℕ → A → Type 0) (Refuses : List ℕ → Refusal → Type 0) (name : List ℕ) → IsDecided Is Refuses
    → IsForetold (TellsFile A file Is Refuses name) (Reads A file Is Refuses name)
file_foretold A file Is Refuses name d = record {
  stays = λ s s' w h. h.0;
  status = λ s s' o h. told_status A file Is Refuses h.1.bytes o h.1.holds;
  agree = λ s s' u t w r e h k calm. file_agrees A file Is Refuses name h.1.bytes u t w r d (ap (λ (f : List ℕ → Option (List ℕ)). f name) e ∙ h.1.is) h.1.holds k calm;
}

pub gives_foretold : (A : Type 0) (a : A) → IsForetold (Gives a) (Gives a)
gives_foretold A a = record {
  stays = λ s s' w h. h.stays;
  status = λ s s' o h. let e = h.answer in absurd (cc);
  agree = λ s s' u t w r e h k calm. inl (k.answer ∙ sym h.answer);
}

then_stays : (A B : Type 0) (T R : ShelfState → ShelfState → Result A Outcome → Type 0) (T' R' : A → ShelfState → ShelfState → Result B Outcome → Type 0)
    → IsForetold T R → ((a : A) → IsForetold (T' a) (R' a)) → (s s' : ShelfState) (w : Result B Outcome) → Then T T' s s' w → s' ≡ s
then_stays A B T R T' R' f n s s' w (ends o h e) = f.stays s s' (Err o) h
then_stays A B T R T' R' f n s s' w (goes_on a m h k) = (n a).stays m s' w k ∙ f.stays s m (Ok a) h

then_status : (A B : Type 0) (T R : ShelfState → ShelfState → Result A Outcome → Type 0) (T' R' : A → ShelfState → ShelfState → Result B Outcome → Type 0)
    → IsForetold T R → ((a : A) → IsForetold (T' a) (R' a)) → (s s' : ShelfState) (o : Outcome) → Then T T' s s' (Err o) → status_at o ≡ 2
then_status A B T R T' R' f n s s' o (ends p h e) = let same : p ≡ o = cc in ap status_at (sym same) ∙ f.status s s' p h
then_status A B T R T' R' f n s s' o (goes_on a m h k) = (n a).status m s' o k

then_agrees : (A B : Type 0) (names : List (List ℕ)) (T R : ShelfState → ShelfState → Result A Outcome → Type 0) (T' R' : A → ShelfState → ShelfState → Result B Outcome → Type 0)
    → IsReading names R → IsForetold T R → ((a : A) → IsForetold (T' a) (R' a)) → (s s' u t : ShelfState) (w r : Result B Outcome) → u.file ≡ s.file → Then T T' s s' w → Then R R' u t r
    → ((o : Outcome) → r ≡ Err o → Rose u.faults t.faults → ⊥) → (r ≡ w) ⊎ (r ≡ Err NoMemory)
then_agrees A B names T R T' R' reading f n s s' u t w r e (ends o h x) (ends p k y) calm =
    elim (f.agree s s' u t (Err o) (Err p) e h k (λ q same. calm p y)) [
      | inl same ↦ inl (cc)
      | inr lacks ↦ inr (cc)
    ]
then_agrees A B names T R T' R' reading f n s s' u t w r e (ends o h x) (goes_on a m k l) calm =
    elim (f.agree s s' u m (Err o) (Ok a) e h k (λ q same. absurd (cc))) [
      | inl same ↦ absurd (cc)
      | inr lacks ↦ absurd (cc)
    ]
then_agrees A B names T R T' R' reading f n s s' u t w r e (goes_on a m h k) (ends p l y) calm =
    elim (f.agree s m u t (Ok a) (Err p) e h l (λ q same. calm p y)) [
      | inl same ↦ absurd (cc)
      | inr lacks ↦ inr (cc)
    ]
then_agrees A B names T R T' R' reading f n s s' u t w r e (goes_on a m h k) (goes_on b v l j) calm =
    elim (f.agree s m u v (Ok a) (Ok b) e h l (λ q same. absurd (cc))) [
      | inl same ↦
          let asked = reading.ok u v b l in
          let one : b ≡ a = cc in
          let files : v.file ≡ m.file = asked.file ∙ e ∙ ap (λ (x : ShelfState). x.file) (sym (f.stays s m (Ok a) h)) in
          (n a).agree m s' v t w r files k (subst (λ (x : A). R' x v t r) one j) (λ q is rose. calm q is (subst (λ (x : ℕ). Rose x t.faults) asked.calm rose))
      | inr lacks ↦ absurd (cc)
    ]

pub then_foretold : (A B : Type 0) (names : List (List ℕ)) (T R : ShelfState → ShelfState → Result A Outcome → Type 0) (T' R' : A → ShelfState → ShelfState → Result B Outcome → Type 0)
    → IsReading names R → IsForetold T R → ((a : A) → IsForetold (T' a) (R' a)) → IsForetold (Then T T') (Then R R')
then_foretold A B names T R T' R' reading f n = record {
  stays = λ s s' w h. then_stays A B T R T' R' f n s s' w h;
  status = λ s s' o h. then_status A B T R T' R' f n s s' o h;
  agree = λ s s' u t w r e h k calm. then_agrees A B names T R T' R' reading f n s s' u t w r e h k calm;
}
