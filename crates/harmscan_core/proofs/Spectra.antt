-- Bytes are one spectrum at most beside a study, or are refused for one fault at most, and not both; and so for planning levels.
use Rattle.std.proofs.Common.{◌≡◌, ◌≢◌, ◌⊎◌, inl, inr, ◌≤◌, ◌<◌, ℕ, zero, suc, ◌+◌, List, [], ◌∷◌, length, Option, Some, None, IfSome, Ok, Err, ap, refl, subst, arith}
use Rattle.std.specs.Prelude.{All, IsSomeAnd, slice_get}
use Rattle.harm_io.specs.Shelves.{ShelfState, asked_too, Fetches}
use Rattle.harm_io.specs.declared.shelf.FetchFault.{FetchFault}
use Rattle.study_model.specs.declared.records.Study.{Study}
use Rattle.spectrum_reader.specs.SpectrumOf.{spectrum_of}
use Rattle.spectrum_reader.specs.LevelsOf.{levels_of}
use Rattle.spectrum_reader.specs.declared.injection.Injection.{Injection}
use Rattle.spectrum_reader.specs.declared.level.Level.{Level}
use Rattle.spectrum_reader.specs.declared.fault.SpectrumFault.{SpectrumFault}
use Rattle.spectrum_reader.specs.declared.fault.SpectrumFault.TheVariants as spectrum_fault
use Rattle.spectrum_reader.specs.declared.fault.LevelsFault.{LevelsFault}
use Rattle.spectrum_reader.specs.declared.fault.LevelsFault.TheVariants as levels_fault
use Rattle.harmonic_injection.specs.Paths.{HasPath, IsNoPath, no_path as pathless, HavePaths, IsPathless}
use Rattle.harmonic_injection.proofs.Models.{paths_of}
use Rattle.harmscan_core.specs.Accepted.{IsSpectrum, IsRefusedSpectrum, unread, no_path, RefusesSpectrum, AreLevels, RefusesLevels}
use Rattle.harmscan_core.specs.Files.{longest_file, Reads}
use Rattle.harmscan_core.specs.Outcome.{EndsAt, outcome_of_fetch}
use Rattle.harmscan_core.specs.Subject.{SpectrumBy}
use Rattle.harmscan_core.specs.declared.files.File.TheVariants as file
use Rattle.harmscan_core.specs.declared.files.Refusal.{Refusal}
use Rattle.harmscan_core.specs.declared.files.Refusal.TheVariants as refusal
use Rattle.harmscan_core.specs.declared.outcome.Outcome.{Outcome}
use Rattle.harmscan_core.proofs.Chains.{IsDecided}
use Rattle.harmscan_core.proofs.Accepted.{decided, unfetched, faulty}

-- ---- paths
-- a row that hasn't what all have
not_all : {A : Type 0} (P : A → Type 0) (xs : List A) (n : ℕ) → All P xs → IsSomeAnd (slice_get xs n) (λ x. ¬ P x) → ⊥
not_all P [] n all h = h
not_all P (x ∷ xs) zero all h = h (all 0 x (omega arith))
not_all P (x ∷ xs) (suc n) all h = not_all P xs n (λ k d l. all (suc k) d (omega arith)) h

each_has : (study : Study) (rows : List Injection) (f : SpectrumFault) → All (HasPath study) rows → IsNoPath study rows f → ⊥
each_has study rows _ all (pathless n fails before) = not_all (HasPath study) rows n all fails

both : {A : Type 0} (P : A → Type 0) (o : Option A) → IsSomeAnd o (λ x. ¬ P x) → IsSomeAnd o P → ⊥
both P None fails holds = fails
both P (Some x) fails holds = fails holds

order : (a b : ℕ) → (a < b) ⊎ (a ≡ b) ⊎ (b < a)
order a b = grind arith

same_row : (study : Study) (rows : List Injection) (f g : SpectrumFault) → IsNoPath study rows f → IsNoPath study rows g → f ≡ g
same_row study rows _ _ (pathless n fails before) (pathless m fails' before') = go (order n m)
  where
    go : (n < m) ⊎ (n ≡ m) ⊎ (m < n) → spectrum_fault.NoPath (n + 1) ≡ spectrum_fault.NoPath (m + 1)
    go (inl less) = absurd (both (HasPath study) (slice_get rows n) fails (before' n less))
    go (inr (inl same)) = ap (λ (k : ℕ). spectrum_fault.NoPath (k + 1)) same
    go (inr (inr less)) = absurd (both (HasPath study) (slice_get rows m) fails' (before m less))

-- ---- a spectrum
same_rows : (study : Study) (bytes : List ℕ) (a b : List Injection) → spectrum_of study bytes ≡ Ok a → spectrum_of study bytes ≡ Ok b → a ≡ b
same_rows study bytes a b h k = cc

one_spectrum : (study : Study) (bytes : List ℕ) (a b : List Injection) → IsSpectrum study bytes a → IsSpectrum study bytes b → a ≡ b
one_spectrum study bytes a b h k = same_rows study bytes a b h.read k.read

not_spectrum : (study : Study) (bytes : List ℕ) (rows : List Injection) (f : SpectrumFault) → IsSpectrum study bytes rows → IsRefusedSpectrum study bytes f → ⊥
not_spectrum study bytes rows f h (unread e) = let read = h.read in cc
not_spectrum study bytes rows f h (no_path others e n) =
    each_has study others f (paths_of study others n.model (subst (HavePaths study) (same_rows study bytes rows others h.read e) h.paths)) n.first

same_spectrum_fault : (study : Study) (bytes : List ℕ) (f g : SpectrumFault) → IsRefusedSpectrum study bytes f → IsRefusedSpectrum study bytes g → f ≡ g
same_spectrum_fault study bytes f g (unread e) (unread d) = cc
same_spectrum_fault study bytes f g (unread e) (no_path rows d n) = absurd (cc)
same_spectrum_fault study bytes f g (no_path rows e n) (unread d) = absurd (cc)
same_spectrum_fault study bytes f g (no_path rows e n) (no_path others d m) =
    same_row study others f g (subst (λ (x : List Injection). IsNoPath study x f) (same_rows study bytes rows others e d) n.first) m.first

pub spectrum_decided : (study : Study) → IsDecided (IsSpectrum study) (RefusesSpectrum study)
spectrum_decided study = decided (IsSpectrum study) spectrum_fault.NoMemory refusal.Spectrum (IsRefusedSpectrum study) (one_spectrum study) (not_spectrum study) (same_spectrum_fault study)

pub spectrum_unfetched : (study : Study) (name : List ℕ) (before now : ShelfState) (f : FetchFault) (o : Outcome) → Fetches name longest_file before now (Err f) → o ≡ outcome_of_fetch file.Spectrum f
    → SpectrumBy Reads study name before now (Err o)
spectrum_unfetched study name before now f o = unfetched (List Injection) file.Spectrum (IsSpectrum study) (RefusesSpectrum study) name before now f o

-- bytes that were given for a file are no spectrum
pub unread_refused : (study : Study) (name bytes : List ℕ) (before now : ShelfState) (f : SpectrumFault) (o : Outcome) → now ≡ asked_too before name → IfSome (before.file name) (λ b. bytes ≡ b)
    → length bytes ≤ longest_file → (f ≢ spectrum_fault.NoMemory → spectrum_of study bytes ≡ Err f) → EndsAt spectrum_fault.NoMemory refusal.Spectrum f o → SpectrumBy Reads study name before now (Err o)
unread_refused study name bytes before now f o e given fits r h =
    faulty (List Injection) file.Spectrum (IsSpectrum study) (RefusesSpectrum study) name bytes before now SpectrumFault spectrum_fault.NoMemory refusal.Spectrum f o e given fits (λ n. record { fault = f; no_lack = n; fails = unread (r n); is = refl }) h

-- they are one of which a current has no path
pub pathless_refused : (study : Study) (name bytes : List ℕ) (rows : List Injection) (before now : ShelfState) (f : SpectrumFault) (o : Outcome) → now ≡ asked_too before name
    → IfSome (before.file name) (λ b. bytes ≡ b) → length bytes ≤ longest_file → spectrum_of study bytes ≡ Ok rows → (f ≢ spectrum_fault.NoMemory → IsPathless study rows f)
    → EndsAt spectrum_fault.NoMemory refusal.Spectrum f o → SpectrumBy Reads study name before now (Err o)
pathless_refused study name bytes rows before now f o e given fits read r h =
    faulty (List Injection) file.Spectrum (IsSpectrum study) (RefusesSpectrum study) name bytes before now SpectrumFault spectrum_fault.NoMemory refusal.Spectrum f o e given fits (λ n. record { fault = f; no_lack = n; fails = no_path rows read (r n); is = refl }) h

-- ---- planning levels
one_levels : (study : Study) (bytes : List ℕ) (a b : List Level) → AreLevels study bytes a → AreLevels study bytes b → a ≡ b
one_levels study bytes a b h k = cc

not_levels : (study : Study) (bytes : List ℕ) (rows : List Level) (f : LevelsFault) → AreLevels study bytes rows → levels_of study bytes ≡ Err f → ⊥
not_levels study bytes rows f h k = cc

same_levels_fault : (study : Study) (bytes : List ℕ) (f g : LevelsFault) → levels_of study bytes ≡ Err f → levels_of study bytes ≡ Err g → f ≡ g
same_levels_fault study bytes f g h k = cc

pub levels_decided : (study : Study) → IsDecided (AreLevels study) (RefusesLevels study)
levels_decided study = decided (AreLevels study) levels_fault.NoMemory refusal.Levels (λ bytes f. levels_of study bytes ≡ Err f) (one_levels study) (not_levels study) (same_levels_fault study)

pub levels_unfetched : (study : Study) (name : List ℕ) (before now : ShelfState) (f : FetchFault) (o : Outcome) → Fetches name longest_file before now (Err f) → o ≡ outcome_of_fetch file.Levels f
    → Reads (List Level) file.Levels (AreLevels study) (RefusesLevels study) name before now (Err o)
levels_unfetched study name before now f o = unfetched (List Level) file.Levels (AreLevels study) (RefusesLevels study) name before now f o

-- bytes that were given for a file are no planning levels
pub levels_refused : (study : Study) (name bytes : List ℕ) (before now : ShelfState) (f : LevelsFault) (o : Outcome) → now ≡ asked_too before name → IfSome (before.file name) (λ b. bytes ≡ b)
    → length bytes ≤ longest_file → (f ≢ levels_fault.NoMemory → levels_of study bytes ≡ Err f) → EndsAt levels_fault.NoMemory refusal.Levels f o
    → Reads (List Level) file.Levels (AreLevels study) (RefusesLevels study) name before now (Err o)
levels_refused study name bytes before now f o e given fits r h =
    faulty (List Level) file.Levels (AreLevels study) (RefusesLevels study) name bytes before now LevelsFault levels_fault.NoMemory refusal.Levels f o e given fits (λ n. record { fault = f; no_lack = n; fails = r n; is = refl }) h
