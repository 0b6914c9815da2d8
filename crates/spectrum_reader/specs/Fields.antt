-- The fields that the rows of a spectrum and of a levels file share.
use Rattle.std.specs.Prelude.{ℕ, ℤ, ◌&&◌, Bool, not, nat_le, if◌then◌else◌, List, length, Option, Some, None}
use Rattle.std.specs.List.{list_all, position_from}
use Rattle.std.specs.Char.{is_ascii_digit}
use Rattle.std.specs.Str.{bytes_eq}
use Rattle.std.specs.Result.{result_ok}
use Rattle.fixed_decimal.specs.Parsed.{number, begins_with, decimal_of}
use Rattle.study_model.specs.declared.records.Bus.{Bus}
use Rattle.spectrum_reader.specs.declared.fields.TheConstants.{MIN_ORDER, MAX_ORDER}

-- one or two digits without a leading zero, from 2 to 50
abbrev pub is_order : List ℕ → Bool
is_order text = list_all is_ascii_digit text && nat_le (length text) 2 && not (begins_with 48 text)
    && nat_le MIN_ORDER (number text) && nat_le (number text) MAX_ORDER

-- the order that a text writes
unfoldable pub order_of : List ℕ → Option ℕ
order_of text = if is_order text then Some (number text) else None

-- the number of the bus of a name, from 0
unfoldable pub bus_named : List Bus → List ℕ → Option ℕ
bus_named buses name = position_from (λ bus. bytes_eq bus.name name) 0 buses

-- the decimal that a text writes, in millionths
unfoldable pub decimal_in : List ℕ → Option ℤ
decimal_in text = result_ok (decimal_of text)
