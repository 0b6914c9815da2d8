-- The limits of harmonic currents at a point of common coupling, in ten-thousandths of a percent of the demand current.
use Rattle.std.specs.Prelude.{ℕ, ◌/◌, ℤ, pos, ◌*ℤ◌, Bool, int_le, nat_le, nat_eq, ◌||◌, if◌then◌else◌}
use Rattle.ieee519_limits.specs.declared.current.Figures.{Figures}
use Rattle.ieee519_limits.specs.VoltageLimits.{percent}

-- the short-circuit current is at least so many times the demand current
abbrev pub reaches : ℤ → ℤ → ℕ → Bool
reaches isc il times = int_le (pos times *ℤ il) isc

-- up to 69 kV: the figures of orders 2 to 10, 11 to 16, 17 to 22, 23 to 34 and 35 to 50, and of the total demand distortion
abbrev pub figures_up_to_69 : ℤ → ℤ → Figures
figures_up_to_69 isc il =
    if reaches isc il 1000 then record { to_10 = percent 15 0; to_16 = percent 7 0; to_22 = percent 6 0; to_34 = percent 2 50; to_50 = percent 1 40; total = percent 20 0 } else
    if reaches isc il 100 then record { to_10 = percent 12 0; to_16 = percent 5 50; to_22 = percent 5 0; to_34 = percent 2 0; to_50 = percent 1 0; total = percent 15 0 } else
    if reaches isc il 50 then record { to_10 = percent 10 0; to_16 = percent 4 50; to_22 = percent 4 0; to_34 = percent 1 50; to_50 = percent 0 70; total = percent 12 0 } else
    if reaches isc il 20 then record { to_10 = percent 7 0; to_16 = percent 3 50; to_22 = percent 2 50; to_34 = percent 1 0; to_50 = percent 0 50; total = percent 8 0 } else
    record { to_10 = percent 4 0; to_16 = percent 2 0; to_22 = percent 1 50; to_34 = percent 0 60; to_50 = percent 0 30; total = percent 5 0 }

-- above 69 kV up to 161 kV: half of each
abbrev pub halved : Figures → Figures
halved f = record { to_10 = f.to_10 / 2; to_16 = f.to_16 / 2; to_22 = f.to_22 / 2; to_34 = f.to_34 / 2; to_50 = f.to_50 / 2; total = f.total / 2 }

-- above 161 kV
abbrev pub figures_above_161 : ℤ → ℤ → Figures
figures_above_161 isc il =
    if reaches isc il 50 then record { to_10 = percent 3 0; to_16 = percent 1 50; to_22 = percent 1 15; to_34 = percent 0 45; to_50 = percent 0 22; total = percent 3 75 } else
    if reaches isc il 25 then record { to_10 = percent 2 0; to_16 = percent 1 0; to_22 = percent 0 75; to_34 = percent 0 30; to_50 = percent 0 15; total = percent 2 50 } else
    record { to_10 = percent 1 0; to_16 = percent 0 50; to_22 = percent 0 38; to_34 = percent 0 15; to_50 = percent 0 10; total = percent 1 50 }

-- the figures of a nominal voltage in millionths of a kV, and of the two currents
abbrev pub figures_of : ℤ → ℤ → ℤ → Figures
figures_of kv isc il =
    if int_le kv (pos 69000000) then figures_up_to_69 isc il else
    if int_le kv (pos 161000000) then halved (figures_up_to_69 isc il) else
    figures_above_161 isc il

-- the figure of an order; orders 2, 4 and 6 have half of the first one
abbrev pub figure_of_order : Figures → ℕ → ℕ
figure_of_order f order =
    if nat_eq order 2 || nat_eq order 4 || nat_eq order 6 then f.to_10 / 2 else
    if nat_le order 10 then f.to_10 else
    if nat_le order 16 then f.to_16 else
    if nat_le order 22 then f.to_22 else
    if nat_le order 34 then f.to_34 else
    f.to_50
