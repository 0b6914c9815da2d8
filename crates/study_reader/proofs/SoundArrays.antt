-- The arrays of sections whose checks find no fault.
use Rattle.std.proofs.Common.{◌≡◌, ◌≤◌, ℕ, true, false, nat_le, [], ◌∷◌, Option, Some, None, length, refl, arith}
use Rattle.std.proofs.lemmas.Bool.Decides.{nat_tests}
use Rattle.toml.specs.Data.{Data, Items, no_items, item, string, integer, float, boolean, datetime, array, table}
use Rattle.study_model.specs.declared.fault.Key.TheVariants as key
use Rattle.study_model.specs.declared.fault.StudyFault.TheVariants.{MissingKey, TooMany}
use Rattle.study_reader.specs.Checks.{unless, place_of}
use Rattle.study_reader.specs.Sections.{count_items, array_fault, items_in, entries_of}
use Rattle.study_reader.specs.declared.arrays.Occurrence.{Occurrence}
use Rattle.study_reader.proofs.Sound.{no_fault, passed}

-- what a test of two numbers tells
pub few_of : (m n : ℕ) → nat_le m n ≡ true → m ≤ n
few_of m n e = grind (arith, nat_tests)

-- an array that is there has as many items as it may have
pub array_sound : (o : Occurrence) (v : Option Data) → array_fault o v ≡ None → (count_items (items_in v) ≤ o.most) × (o.optional ≡ false → o.least ≤ count_items (items_in v))
array_sound o None e =
    let optional = passed o.optional (MissingKey (place_of o.section 0 key.Nothing)) e in (omega arith, λ needed. absurd (cc (optional, needed)))
array_sound o (Some (array ds)) e =
    let place = place_of o.section 0 key.Nothing in
    let n = count_items ds in
    let checks = no_fault (unless (nat_le o.least n) (MissingKey place) ∷ unless (nat_le n o.most) (TooMany place) ∷ []) e in
    (few_of n o.most (passed (nat_le n o.most) (TooMany place) (checks 1)), λ needed. few_of o.least n (passed (nat_le o.least n) (MissingKey place) (checks 0)))
array_sound o (Some (string text)) e = absurd (cc)
array_sound o (Some (integer n)) e = absurd (cc)
array_sound o (Some (float x)) e = absurd (cc)
array_sound o (Some (boolean b)) e = absurd (cc)
array_sound o (Some (datetime t)) e = absurd (cc)
array_sound o (Some (table ms)) e = absurd (cc)

-- there are as many records as items
pub items_counted : {A : Type 0} (value : Data → A) (items : Items) → length (entries_of value items) ≡ count_items items
items_counted value no_items = refl
items_counted value (item d ds) = omega (arith, items_counted value ds)
