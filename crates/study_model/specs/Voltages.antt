-- Nominal voltages.
use Rattle.std.specs.Prelude.{ℕ, ℤ, pos, List, slice_get, option_map, unwrap_or}
use Rattle.study_model.specs.declared.records.Bus.{Bus}

-- the nominal voltage of the bus of a number, from 0, in kV; 0 where there is none
abbrev pub kv_of : List Bus → ℕ → ℤ
kv_of buses number = unwrap_or (option_map (λ (bus : Bus). bus.kv) (slice_get buses number)) (pos 0)
