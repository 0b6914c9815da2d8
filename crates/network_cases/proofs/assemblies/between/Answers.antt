use Rattle.std.proofs.Common.{refl}
use Rattle.network_cases.proofs.Pairs.{pair_of_coils}
use Rattle.network_cases.proofs.assemblies.between.Goals as goal

pub between-requires-clause-pair : goal.between-requires-clause-pair
between-requires-clause-pair c =
    pair_of_coils 1 1 0 1 c.args.taps.now _ _ c.args.low _ _ c.args.high c.law_of_coil.result c.law_of_coil-2.result c.in_ok-first.first c.in_ok-second.second c.law_of_coil.ensures c.law_of_coil-2.ensures refl refl
    c.in_ok-first.ensures.value c.in_ok-second.ensures.value (c.if-at_most.ensures.0 refl) c.in_ok-first.ensures.whole.exact
