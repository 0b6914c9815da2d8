use Rattle.std.proofs.Common.{subst}
use Rattle.study_networks.specs.Networks.{AreNetworksOf}
use Rattle.study_networks.specs.declared.networks.StudyNetworks.{StudyNetworks}
use Rattle.limits_report.proofs.Models.{seen_in_phases, seen_positive, seen_zero}
use Rattle.limits_report.proofs.table.network_at.Goals as goal

pub returns-in-Phases-clause-exact : goal.returns-in-Phases-clause-exact
returns-in-Phases-clause-exact c =
    (seen_in_phases c.args.study.now c.in-Phases.network c.args.order (subst (λ (n : StudyNetworks). AreNetworksOf c.args.study.now n) c.in-Phases.is c.requires.networks)).exact

pub returns-in-Positive-clause-exact : goal.returns-in-Positive-clause-exact
returns-in-Positive-clause-exact c =
    (seen_positive c.args.study.now c.in-Sequences.networks c.args.order (subst (λ (n : StudyNetworks). AreNetworksOf c.args.study.now n) c.in-Sequences.is c.requires.networks) c.in-Positive.ensures).exact

pub returns-in-Positive-clause-whole : goal.returns-in-Positive-clause-whole
returns-in-Positive-clause-whole c =
    (seen_positive c.args.study.now c.in-Sequences.networks c.args.order (subst (λ (n : StudyNetworks). AreNetworksOf c.args.study.now n) c.in-Sequences.is c.requires.networks) c.in-Positive.ensures).whole

pub returns-in-Zero-clause-exact : goal.returns-in-Zero-clause-exact
returns-in-Zero-clause-exact c =
    (seen_zero c.args.study.now c.in-Sequences.networks c.args.order (subst (λ (n : StudyNetworks). AreNetworksOf c.args.study.now n) c.in-Sequences.is c.requires.networks) c.in-Zero.ensures).exact

pub returns-in-Zero-clause-whole : goal.returns-in-Zero-clause-whole
returns-in-Zero-clause-whole c =
    (seen_zero c.args.study.now c.in-Sequences.networks c.args.order (subst (λ (n : StudyNetworks). AreNetworksOf c.args.study.now n) c.in-Sequences.is c.requires.networks) c.in-Zero.ensures).whole
