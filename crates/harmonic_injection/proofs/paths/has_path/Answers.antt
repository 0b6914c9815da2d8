use Rattle.std.proofs.Common.{arith, subst, sym, get_or, false}
use Rattle.std.proofs.lemmas.Bool.{both_ways}
use Rattle.network_theory.specs.Network.{Network}
use Rattle.network_theory.specs.Live.{Live}
use Rattle.study_model.specs.declared.words.Sequence.{Sequence}
use Rattle.study_model.specs.declared.words.Sequence.TheVariants.{Zero}
use Rattle.net_branch.specs.Exact.{exact_network}
use Rattle.sequence_network.specs.Networks.{network_of}
use Rattle.sequence_network.proofs.Liveness.{buses_within}
use Rattle.harmonic_injection.proofs.paths.has_path.Goals as goal

pub bounds-live-row : goal.bounds-live-row
bounds-live-row c =
    let zero = exact_network c.args.zero.now in
    let within = buses_within c.args.study.now Zero zero c.requires.zero.exact c.requires.zero.whole.exact.buses in
    omega (arith, within, c.requires.live.count, c.requires.bus)

pub returns-in-Zero-clause-dead : goal.returns-in-Zero-clause-dead
returns-in-Zero-clause-dead c none path =
    let zero = exact_network c.args.zero.now in
    let bus = c.args.row.now.bus in
    let within = buses_within c.args.study.now Zero zero c.requires.zero.exact c.requires.zero.whole.exact.buses in
    let seen : Live (network_of c.args.study.now Zero) bus = subst (λ (s : Sequence). Live (network_of c.args.study.now s) bus) (sym c.in-Zero.ensures) path in
    let live : Live zero bus = subst (λ (n : Network). Live n bus) (sym c.requires.zero.exact) seen in
    both_ways (get_or c.args.live.now bus false) none ((c.requires.live.each bus (omega (arith, within, c.requires.bus))).1 live)
