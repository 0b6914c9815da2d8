-- What contracts see of the parts of a text.
use Rattle.fixed_decimal.specs.Parsed.{Parts}
use Rattle.fixed_decimal.specs.declared.parse.Parts.{Parts as Lent}

-- the parts that slices lend
abbrev pub parts_seen : Lent → Parts
parts_seen lent = record { negative = lent.negative; whole = lent.whole.now; pointed = lent.pointed; places = lent.places.now; rest = lent.rest.now }
