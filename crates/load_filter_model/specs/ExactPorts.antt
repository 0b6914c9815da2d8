-- A port that is built, as the port that it is.
use Rattle.std.specs.Prelude.{map, option_map}
use Rattle.net_branch.specs.Exact.{exact_law}
use Rattle.load_filter_model.specs.Ports.{Port as ExactPort}
use Rattle.load_filter_model.specs.declared.port.Port.{Port}

abbrev pub exact_port : Port → ExactPort
exact_port port = record { capacitor = option_map exact_law port.capacitor; laws = map exact_law port.laws }
