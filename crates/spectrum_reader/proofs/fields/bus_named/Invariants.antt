use Rattle.std.proofs.Common.{◌≡◌, drop}
use Rattle.std.specs.List.{position_from}
use Rattle.std.specs.Str.{bytes_eq}
use Rattle.spectrum_reader.proofs.fields.bus_named.Given as goal

abbrev pub invariant-loop-bus : goal.invariant-loop-bus
invariant-loop-bus l = record {
  place : l.place ≡ l.bus-index;
  found : position_from (λ bus. bytes_eq bus.name l.name) l.place (drop l.bus-index l.buses) ≡ position_from (λ bus. bytes_eq bus.name l.name) 0 l.buses;
}
