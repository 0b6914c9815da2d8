-- A row of a levels file, in the order in which its faults are judged.
use Rattle.std.specs.Prelude.{ℕ, ℤ, pos, ◌+◌, ◌/◌, ◌%◌, ◌&&◌, Bool, nat_eq, int_le, unsigned_abs, if◌then◌else◌, List, [], ◌∷◌, codes, length, Option, Some, None, option_map, Result, Ok, Err}
use Rattle.std.specs.List.{list_any, find}
use Rattle.std.specs.Str.{bytes_eq}
use Rattle.study_model.specs.declared.records.Study.{Study}
use Rattle.spectrum_reader.specs.declared.level.Level.{Level}
use Rattle.spectrum_reader.specs.declared.level.TheConstants.{MIN_LEVEL, MAX_LEVEL, PLACES}
use Rattle.spectrum_reader.specs.declared.fault.LevelsFault.{LevelsFault}
use Rattle.spectrum_reader.specs.declared.fault.LevelsFault.TheVariants.{BadRow, BadOrder, UnknownBus, BadPercent, Repeated}
use Rattle.spectrum_reader.specs.Records.{Fields}
use Rattle.spectrum_reader.specs.Rows.{required}
use Rattle.spectrum_reader.specs.Fields.{order_of, bus_named, decimal_in}

-- the names of the fields, which the header has
abbrev pub level_names : List (List ℕ)
level_names = codes "bus" ∷ codes "order" ∷ codes "percent" ∷ []

-- The texts of a row, by their names.
pub record LevelTexts : Type 0 where
  pub bus : List ℕ
  pub order : List ℕ
  pub percent : List ℕ

-- the texts of a record that has as many fields as the header
unfoldable pub level_texts : Fields → Option LevelTexts
level_texts (bus ∷ order ∷ percent ∷ []) = Some (record { bus = bus; order = order; percent = percent })
level_texts _ = None

-- an order, or 0 for the total distortion
unfoldable pub level_order_of : List ℕ → Option ℕ
level_order_of text = if bytes_eq text (codes "thd") then Some 0 else order_of text

-- millionths from 0.0001 to 100, in whole ten-thousandths
abbrev pub is_percent : ℤ → Bool
is_percent millionths = int_le (pos MIN_LEVEL) millionths && (int_le millionths (pos MAX_LEVEL) && nat_eq (unsigned_abs millionths % PLACES) 0)

-- the percent that millionths are, in ten-thousandths
abbrev pub percent_of : Option ℤ → Option ℕ
percent_of None = None
percent_of (Some millionths) = if is_percent millionths then Some (unsigned_abs millionths / PLACES) else None

-- the percent that a text writes
unfoldable pub percent_in : List ℕ → Option ℕ
percent_in text = percent_of (decimal_in text)

-- a row is of this bus and order
abbrev pub is_level : ℕ → ℕ → Level → Bool
is_level bus order row = nat_eq row.bus bus && nat_eq row.order order

-- The level that the texts of the row of a number write, beside the rows before it, or the row's first fault.
unfoldable pub level_in : Study → List Level → ℕ → LevelTexts → Result Level LevelsFault
level_in study earlier number texts =
    required (level_order_of texts.order) (BadOrder number) (λ order.
    required (bus_named study.buses texts.bus) (UnknownBus number) (λ bus.
    required (percent_in texts.percent) (BadPercent number) (λ percent.
    if list_any (is_level bus order) earlier then Err (Repeated number)
    else Ok (record { bus = bus; order = order; percent = percent }))))

-- The level of a record, whose number is one more than there are rows before it.
unfoldable pub level_row : Study → List Level → Fields → Result Level LevelsFault
level_row study earlier fields = let number = length earlier + 1 in
    required (level_texts fields) (BadRow number) (λ texts. level_in study earlier number texts)

-- the level of the first row of a bus and an order
unfoldable pub level_of : List Level → ℕ → ℕ → Option ℕ
level_of rows bus order = option_map (λ row. row.percent) (find (is_level bus order) rows)
