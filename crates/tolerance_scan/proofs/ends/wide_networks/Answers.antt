use Rattle.std.proofs.Common.{List, sym, subst}
use Rattle.net_branch.specs.Exact.{exact_network}
use Rattle.study_model.specs.declared.records.Tolerance.{Tolerance}
use Rattle.study_model.specs.declared.words.Sequence.TheVariants.{Positive, Zero}
use Rattle.study_networks.specs.Networks.{AreNetworksOf}
use Rattle.study_networks.specs.declared.networks.StudyNetworks.{StudyNetworks}
use Rattle.tolerance_scan.specs.Small.{AreWidenable}
use Rattle.tolerance_scan.proofs.Within.{sequence_widenable, phases_widenable}
use Rattle.tolerance_scan.proofs.ends.wide_networks.Goals as goal

pub widen_by-requires-clause-widenable : goal.widen_by-requires-clause-widenable
widen_by-requires-clause-widenable c =
    subst (λ (ts : List Tolerance). AreWidenable ts (exact_network c.in-Phases.network)) (sym c.as_slice-tolerances.ensures)
    (phases_widenable c.args.study.now c.in-Phases.network c.requires.study (subst (λ (n : StudyNetworks). AreNetworksOf c.args.study.now n) c.in-Phases.is c.requires.networks))

pub wide_sequences-requires-clause-whole_positive : goal.wide_sequences-requires-clause-whole_positive
wide_sequences-requires-clause-whole_positive c = let are = subst (λ (n : StudyNetworks). AreNetworksOf c.args.study.now n) c.in-Sequences.is c.requires.networks in (are.1 Positive).whole

pub wide_sequences-requires-clause-whole_zero : goal.wide_sequences-requires-clause-whole_zero
wide_sequences-requires-clause-whole_zero c = let are = subst (λ (n : StudyNetworks). AreNetworksOf c.args.study.now n) c.in-Sequences.is c.requires.networks in (are.1 Zero).whole

pub wide_sequences-requires-clause-positive : goal.wide_sequences-requires-clause-positive
wide_sequences-requires-clause-positive c =
    subst (λ (ts : List Tolerance). AreWidenable ts (exact_network c.in-Sequences.networks.positive)) (sym c.as_slice-tolerances.ensures)
    (sequence_widenable c.args.study.now c.in-Sequences.networks Positive c.requires.study (subst (λ (n : StudyNetworks). AreNetworksOf c.args.study.now n) c.in-Sequences.is c.requires.networks))

pub wide_sequences-requires-clause-zero : goal.wide_sequences-requires-clause-zero
wide_sequences-requires-clause-zero c =
    subst (λ (ts : List Tolerance). AreWidenable ts (exact_network c.in-Sequences.networks.zero)) (sym c.as_slice-tolerances.ensures)
    (sequence_widenable c.args.study.now c.in-Sequences.networks Zero c.requires.study (subst (λ (n : StudyNetworks). AreNetworksOf c.args.study.now n) c.in-Sequences.is c.requires.networks))
