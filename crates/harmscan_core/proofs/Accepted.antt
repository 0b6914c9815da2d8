-- Bytes are one accepted study at most, or are refused for one fault at most, and not both; and how a reading ends that meets a fault.
use Rattle.std.proofs.Common.{◌≡◌, ◌≢◌, ◌≤◌, ◌∙◌, inr, ℕ, List, length, IfSome, Err, refl, ap, sym, subst}
use Rattle.harm_io.specs.Shelves.{ShelfState, asked_too, Fetches}
use Rattle.harm_io.specs.declared.shelf.FetchFault.{FetchFault}
use Rattle.harm_io.specs.declared.shelf.FetchFault.TheVariants as fetch
use Rattle.study_model.specs.declared.fault.StudyFault.{StudyFault}
use Rattle.study_model.specs.declared.fault.StudyFault.TheVariants as fault
use Rattle.study_model.specs.declared.records.Study.{Study}
use Rattle.study_reader.specs.StudyOf.{IsStudy, Refused as Unread}
use Rattle.study_reader.proofs.Refusals.{same_study, not_refused as not_unread, same_refusal as same_unread}
use Rattle.study_networks.specs.Networks.{IsNetworksRefusal}
use Rattle.study_networks.proofs.Refusals.{same_networks_refusal, no_networks_refusal}
use Rattle.harmscan_core.specs.Accepted.{IsAccepted, IsRefused, unread, network, RefusedFor, RefusesStudy}
use Rattle.harmscan_core.specs.Files.{longest_file, Reads}
use Rattle.harmscan_core.specs.Outcome.{RefusesNetworks, EndsAt, outcome_of_fetch}
use Rattle.harmscan_core.specs.Subject.{StudyBy}
use Rattle.harmscan_core.specs.declared.files.File.{File}
use Rattle.harmscan_core.specs.declared.files.File.TheVariants as file
use Rattle.harmscan_core.specs.declared.files.Refusal.{Refusal}
use Rattle.harmscan_core.specs.declared.files.Refusal.TheVariants as refusal
use Rattle.harmscan_core.specs.declared.outcome.Outcome.{Outcome}
use Rattle.harmscan_core.specs.declared.outcome.Outcome.TheVariants.{WordsRefused, ReadFailed, TooLarge, Refused, WriteFailed, NoMemory, Written}
use Rattle.harmscan_core.proofs.Chains.{IsDecided}

same_accepted : (bytes : List ℕ) (s t : Study) → IsAccepted bytes s → IsAccepted bytes t → s ≡ t
same_accepted bytes s t a b = same_study bytes s t a.read b.read

not_refused : (bytes : List ℕ) (study : Study) (f : StudyFault) → IsAccepted bytes study → IsRefused bytes f → ⊥
not_refused bytes study f a (unread r) = not_unread bytes study f a.read r
not_refused bytes study f a (network s i l) = no_networks_refusal study a.live f (subst (λ (x : Study). IsNetworksRefusal x f) (same_study bytes s study i a.read) l)

same_refusal : (bytes : List ℕ) (f g : StudyFault) → IsRefused bytes f → IsRefused bytes g → f ≡ g
same_refusal bytes f g (unread r) (unread q) = same_unread bytes f g r q
same_refusal bytes f g (unread r) (network s i l) = absurd (not_unread bytes s f i r)
same_refusal bytes f g (network s i l) (unread q) = absurd (not_unread bytes s g i q)
same_refusal bytes f g (network s i l) (network t j m) = same_networks_refusal t f g (subst (λ (x : Study). IsNetworksRefusal x f) (same_study bytes s t i j) l) m

-- ---- what a file is, and for what it is refused
-- one value at most, or one fault at most, and not both
pub decided : {A F : Type 0} (Is : List ℕ → A → Type 0) (no_memory : F) (refused : F → Refusal) (Fails : List ℕ → F → Type 0) → ((bytes : List ℕ) (a b : A) → Is bytes a → Is bytes b → a ≡ b)
    → ((bytes : List ℕ) (a : A) (f : F) → Is bytes a → Fails bytes f → ⊥) → ((bytes : List ℕ) (f g : F) → Fails bytes f → Fails bytes g → f ≡ g)
    → IsDecided Is (λ bytes. RefusedFor no_memory refused (Fails bytes))
decided Is no_memory refused Fails one apart same = record {
  one = one;
  not_both = λ bytes a r is no. apart bytes a no.fault is no.fails;
  one_refusal = λ bytes q r h k. h.is ∙ ap refused (same bytes h.fault k.fault h.fails k.fails) ∙ sym k.is;
}

pub study_decided : IsDecided IsAccepted RefusesStudy
study_decided = decided IsAccepted fault.NoMemory refusal.Study IsRefused same_accepted not_refused same_refusal

-- ---- how a reading ends
-- at a fetch that gave no file
pub unfetched : (A : Type 0) (file : File) (Is : List ℕ → A → Type 0) (Refuses : List ℕ → Refusal → Type 0) (name : List ℕ) (before now : ShelfState) (f : FetchFault) (o : Outcome)
    → Fetches name longest_file before now (Err f) → o ≡ outcome_of_fetch file f → Reads A file Is Refuses name before now (Err o)
unfetched A file Is Refuses name before now fetch.Failed o h e = subst (λ (x : Outcome). Reads A file Is Refuses name before now (Err x)) (sym e) (refl, h)
unfetched A file Is Refuses name before now (fetch.TooLarge taken) o h e = subst (λ (x : Outcome). Reads A file Is Refuses name before now (Err x)) (sym e) (h.2, refl, h.1)
unfetched A file Is Refuses name before now fetch.NoMemory o h e = subst (λ (x : Outcome). Reads A file Is Refuses name before now (Err x)) (sym e) h

-- at a refusal of bytes that were given
refuses : (A : Type 0) (file : File) (Is : List ℕ → A → Type 0) (Refuses : List ℕ → Refusal → Type 0) (name bytes : List ℕ) (before now : ShelfState) (r : Refusal)
    → now ≡ asked_too before name → IfSome (before.file name) (λ b. bytes ≡ b) → length bytes ≤ longest_file → Refuses bytes r → Reads A file Is Refuses name before now (Err (Refused r))
refuses A file Is Refuses name bytes before now r e given fits is = (e, record { bytes = bytes; given = given; holds = (fits, is) })

-- at a fault of bytes that were given
pub faulty : (A : Type 0) (file : File) (Is : List ℕ → A → Type 0) (Refuses : List ℕ → Refusal → Type 0) (name bytes : List ℕ) (before now : ShelfState) (F : Type 0) (no_memory : F) (refused : F → Refusal) (f : F) (o : Outcome)
    → now ≡ asked_too before name → IfSome (before.file name) (λ b. bytes ≡ b) → length bytes ≤ longest_file → (f ≢ no_memory → Refuses bytes (refused f)) → EndsAt no_memory refused f o
    → Reads A file Is Refuses name before now (Err o)
faulty A file Is Refuses name bytes before now F no_memory refused f NoMemory e given fits is h = inr e
faulty A file Is Refuses name bytes before now F no_memory refused f (Refused r) e given fits is h =
    refuses A file Is Refuses name bytes before now r e given fits (subst (Refuses bytes) (sym h.1) (is h.0))
faulty A file Is Refuses name bytes before now F no_memory refused f WordsRefused e given fits is h = absurd h
faulty A file Is Refuses name bytes before now F no_memory refused f (ReadFailed g) e given fits is h = absurd h
faulty A file Is Refuses name bytes before now F no_memory refused f (TooLarge g) e given fits is h = absurd h
faulty A file Is Refuses name bytes before now F no_memory refused f WriteFailed e given fits is h = absurd h
faulty A file Is Refuses name bytes before now F no_memory refused f (Written s) e given fits is h = absurd h

-- ---- of a study
pub study_unfetched : (name : List ℕ) (before now : ShelfState) (f : FetchFault) (o : Outcome) → Fetches name longest_file before now (Err f) → o ≡ outcome_of_fetch file.Study f → StudyBy Reads name before now (Err o)
study_unfetched name before now f o = unfetched Study file.Study IsAccepted RefusesStudy name before now f o

-- bytes that were given for a file are a study whose networks are refused
pub networks_refused : (name bytes : List ℕ) (before now : ShelfState) (study : Study) (o : Outcome) → now ≡ asked_too before name → IfSome (before.file name) (λ b. bytes ≡ b) → length bytes ≤ longest_file
    → IsStudy bytes study → RefusesNetworks study o → StudyBy Reads name before now (Err o)
networks_refused name bytes before now study NoMemory e given fits i r = inr e
networks_refused name bytes before now study (Refused q) e given fits i r =
    refuses Study file.Study IsAccepted RefusesStudy name bytes before now q e given fits (record { fault = r.fault; no_lack = r.no_lack; fails = network study i r.fails; is = r.is })
networks_refused name bytes before now study WordsRefused e given fits i r = absurd r
networks_refused name bytes before now study (ReadFailed f) e given fits i r = absurd r
networks_refused name bytes before now study (TooLarge f) e given fits i r = absurd r
networks_refused name bytes before now study WriteFailed e given fits i r = absurd r
networks_refused name bytes before now study (Written s) e given fits i r = absurd r

-- bytes that were given for a file are no study
pub unread_refused : (name bytes : List ℕ) (before now : ShelfState) (f : StudyFault) (o : Outcome) → now ≡ asked_too before name → IfSome (before.file name) (λ b. bytes ≡ b) → length bytes ≤ longest_file
    → (f ≢ fault.NoMemory → Unread bytes f) → EndsAt fault.NoMemory refusal.Study f o → StudyBy Reads name before now (Err o)
unread_refused name bytes before now f o e given fits r h =
    faulty Study file.Study IsAccepted RefusesStudy name bytes before now StudyFault fault.NoMemory refusal.Study f o e given fits (λ n. record { fault = f; no_lack = n; fails = unread (r n); is = refl }) h

pub networks_end : (study : Study) (f : StudyFault) (o : Outcome) → (f ≢ fault.NoMemory → IsNetworksRefusal study f) → EndsAt fault.NoMemory refusal.Study f o → RefusesNetworks study o
networks_end study f NoMemory r h = tt
networks_end study f (Refused q) r h = record { fault = f; no_lack = h.0; fails = r h.0; is = h.1 }
networks_end study f WordsRefused r h = absurd h
networks_end study f (ReadFailed g) r h = absurd h
networks_end study f (TooLarge g) r h = absurd h
networks_end study f WriteFailed r h = absurd h
networks_end study f (Written s) r h = absurd h
