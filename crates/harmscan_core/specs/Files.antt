-- What the reading of files answers and leaves, one after another.
use Rattle.std.specs.Prelude.{◌≡◌, ◌⊎◌, ℕ, ◌<◌, ◌≤◌, List, length, Option, Some, IfSome, Result, Ok, Err}
use Rattle.harm_io.specs.Shelves.{ShelfState, asked_too, FailsToFetch}
use Rattle.harmscan_core.specs.declared.limits.TheConstants.{LONGEST_FILE}
use Rattle.harmscan_core.specs.declared.files.File.{File}
use Rattle.harmscan_core.specs.declared.files.Refusal.{Refusal}
use Rattle.harmscan_core.specs.declared.outcome.Outcome.{Outcome}
use Rattle.harmscan_core.specs.declared.outcome.Outcome.TheVariants as outcome

-- the longest file that is read, in bytes
abbrev pub longest_file : ℕ
longest_file = LONGEST_FILE

-- What bytes of a file are read as, by what they may be and for what they may be refused: a value, a refusal that ends the run, or that they are too many.
abbrev pub IsReadAs : (A : Type 0) → File → (List ℕ → A → Type 0) → (List ℕ → Refusal → Type 0) → List ℕ → Result A Outcome → Type 0
IsReadAs A file Is Refuses bytes (Ok value) = (length bytes ≤ longest_file) × Is bytes value
IsReadAs A file Is Refuses bytes (Err (outcome.Refused r)) = (length bytes ≤ longest_file) × Refuses bytes r
IsReadAs A file Is Refuses bytes (Err (outcome.TooLarge f)) = (f ≡ file) × (longest_file < length bytes)
IsReadAs A file Is Refuses bytes (Err _) = ⊥

-- the bytes that were given for a file, and those that the shelf tells, have this property
pub record Given (told : Option (List ℕ)) (P : List ℕ → Type 0) : Type 0 where
  pub bytes : List ℕ
  pub given : IfSome told (λ b. bytes ≡ b)
  pub holds : P bytes

-- What the reading of a file answers and leaves: what its bytes are read as, or how the run ends without them.
abbrev pub Reads : (A : Type 0) → File → (List ℕ → A → Type 0) → (List ℕ → Refusal → Type 0) → List ℕ → ShelfState → ShelfState → Result A Outcome → Type 0
Reads A file Is Refuses name before now (Ok value) = (now ≡ asked_too before name) × Given (before.file name) (λ bytes. IsReadAs A file Is Refuses bytes (Ok value))
Reads A file Is Refuses name before now (Err (outcome.Refused r)) = (now ≡ asked_too before name) × Given (before.file name) (λ bytes. IsReadAs A file Is Refuses bytes (Err (outcome.Refused r)))
Reads A file Is Refuses name before now (Err (outcome.TooLarge f)) = (now ≡ asked_too before name) × (f ≡ file) × IfSome (before.file name) (λ b. longest_file < length b)
Reads A file Is Refuses name before now (Err (outcome.ReadFailed f)) = (f ≡ file) × FailsToFetch name before now
Reads A file Is Refuses name before now (Err outcome.NoMemory) = (now ≡ before) ⊎ (now ≡ asked_too before name)
Reads A file Is Refuses name before now (Err _) = ⊥

-- the shelf tells a file whose bytes have this property
pub record Told (told : Option (List ℕ)) (P : List ℕ → Type 0) : Type 0 where
  pub bytes : List ℕ
  pub is : told ≡ Some bytes
  pub holds : P bytes

-- what a file is read as that the shelf tells
abbrev pub TellsFile : (A : Type 0) → File → (List ℕ → A → Type 0) → (List ℕ → Refusal → Type 0) → List ℕ → ShelfState → ShelfState → Result A Outcome → Type 0
TellsFile A file Is Refuses name before now r = (now ≡ before) × Told (before.file name) (λ bytes. IsReadAs A file Is Refuses bytes r)

-- nothing is read, and this is the answer
pub record Gives {A : Type 0} (value : A) (before now : ShelfState) (r : Result A Outcome) : Type 0 where
  pub stays : now ≡ before
  pub answer : r ≡ Ok value

-- one reading, and then another by what the first answered; where the first ends the run, there is no other
pub data Then {A B : Type 0} (First : ShelfState → ShelfState → Result A Outcome → Type 0) (Next : A → ShelfState → ShelfState → Result B Outcome → Type 0)
    (before now : ShelfState) (r : Result B Outcome) : Type 0 where
  ends : (o : Outcome) → First before now (Err o) → r ≡ Err o → Then First Next before now r
  goes_on : (value : A) (middle : ShelfState) → First before middle (Ok value) → Next value middle now r → Then First Next before now r
