-- The limits of harmonic voltages, in ten-thousandths of a percent of the nominal voltage.
use Rattle.std.specs.Prelude.{ℕ, ◌+◌, ◌*◌, ℤ, pos, int_le, if◌then◌else◌}
use Rattle.ieee519_limits.specs.declared.voltage.VoltageLimit.{VoltageLimit}

-- a percentage by its whole percents and hundredths of a percent
abbrev pub percent : ℕ → ℕ → ℕ
percent whole hundredths = whole * 10000 + hundredths * 100

-- by the nominal voltage in millionths of a kV: up to 1 kV, up to 69 kV, up to 161 kV, and above
abbrev pub voltage_limit : ℤ → VoltageLimit
voltage_limit kv =
    if int_le kv (pos 1000000) then record { each = percent 5 0; total = percent 8 0 } else
    if int_le kv (pos 69000000) then record { each = percent 3 0; total = percent 5 0 } else
    if int_le kv (pos 161000000) then record { each = percent 1 50; total = percent 2 50 } else
    record { each = percent 1 0; total = percent 1 50 }
