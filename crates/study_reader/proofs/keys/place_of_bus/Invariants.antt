use Rattle.std.proofs.Common.{◌≡◌, drop}
use Rattle.study_reader.specs.Checks.{bus_at}
use Rattle.study_reader.proofs.keys.place_of_bus.Given as goal

abbrev pub invariant-loop-bus : goal.invariant-loop-bus
invariant-loop-bus l = record {
  place : l.place ≡ l.bus-index;
  found : bus_at l.place (drop l.bus-index l.buses) l.text ≡ bus_at 0 l.buses l.text;
}
