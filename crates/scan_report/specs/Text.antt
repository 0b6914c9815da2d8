-- The text of numbers in a row.
use Rattle.std.specs.Prelude.{ℕ, ◌+◌, ◌/◌, ◌%◌, List, [], ◌∷◌, ◌++◌}
use Rattle.std.specs.Fmt.{decimal}

-- the last six digits of a number
abbrev pub six_digits : ℕ → List ℕ
six_digits n = (48 + n / 100000 % 10) ∷ (48 + n / 10000 % 10) ∷ (48 + n / 1000 % 10) ∷ (48 + n / 100 % 10) ∷ (48 + n / 10 % 10) ∷ (48 + n % 10) ∷ []

-- millionths, with six places after the point
abbrev pub places : ℕ → List ℕ
places n = decimal (n / 1000000) ++ 46 ∷ six_digits (n % 1000000)

-- the last four digits of a number
abbrev pub four_digits : ℕ → List ℕ
four_digits n = (48 + n / 1000 % 10) ∷ (48 + n / 100 % 10) ∷ (48 + n / 10 % 10) ∷ (48 + n % 10) ∷ []

-- ten-thousandths, with four places after the point
abbrev pub four_places : ℕ → List ℕ
four_places n = decimal (n / 10000) ++ 46 ∷ four_digits (n % 10000)
