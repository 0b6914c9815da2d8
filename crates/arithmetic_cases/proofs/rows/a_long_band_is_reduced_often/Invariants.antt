use Rattle.std.proofs.Common.{◌≡◌, ◌<◌}
use Rattle.arithmetic_cases.proofs.rows.a_long_band_is_reduced_often.Given as goal

abbrev pub invariant-loop-time : goal.invariant-loop-time
invariant-loop-time g l = record { kept : l.bench ≡ l.initial.bench; few : l.alike < l._time }
