-- The limit that is in force where a planning level may stand in the place of the standard's.
use Rattle.std.specs.Prelude.{ℕ, Option, unwrap_or}

-- the level where there is one, else the standard's limit
abbrev pub in_force : ℕ → Option ℕ → ℕ
in_force standard level = unwrap_or level standard
