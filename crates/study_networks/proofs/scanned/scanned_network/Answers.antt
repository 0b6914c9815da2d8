use Rattle.std.proofs.Common.{subst}
use Rattle.study_networks.specs.Networks.{AreNetworksOf}
use Rattle.study_networks.specs.declared.networks.StudyNetworks.{StudyNetworks}
use Rattle.study_networks.proofs.Models.{phases_scanned, positive_scanned, zero_scanned}
use Rattle.study_networks.proofs.scanned.scanned_network.Goals as goal

pub returns-in-Phases-clause-exact : goal.returns-in-Phases-clause-exact
returns-in-Phases-clause-exact c =
    (phases_scanned c.args.study.now c.in-Phases.network c.args.scan.now (subst (λ (n : StudyNetworks). AreNetworksOf c.args.study.now n) c.in-Phases.is c.requires.networks) c.requires.scan).exact

pub returns-in-Positive-clause-exact : goal.returns-in-Positive-clause-exact
returns-in-Positive-clause-exact c =
    (positive_scanned c.args.study.now c.in-Sequences.networks c.args.scan.now (subst (λ (n : StudyNetworks). AreNetworksOf c.args.study.now n) c.in-Sequences.is c.requires.networks) c.requires.scan c.in-Positive.is).exact

pub returns-in-Positive-clause-whole : goal.returns-in-Positive-clause-whole
returns-in-Positive-clause-whole c =
    (positive_scanned c.args.study.now c.in-Sequences.networks c.args.scan.now (subst (λ (n : StudyNetworks). AreNetworksOf c.args.study.now n) c.in-Sequences.is c.requires.networks) c.requires.scan c.in-Positive.is).whole

pub returns-in-Positive-clause-inside : goal.returns-in-Positive-clause-inside
returns-in-Positive-clause-inside c =
    (positive_scanned c.args.study.now c.in-Sequences.networks c.args.scan.now (subst (λ (n : StudyNetworks). AreNetworksOf c.args.study.now n) c.in-Sequences.is c.requires.networks) c.requires.scan c.in-Positive.is).inside

pub returns-in-Zero-clause-exact : goal.returns-in-Zero-clause-exact
returns-in-Zero-clause-exact c =
    (zero_scanned c.args.study.now c.in-Sequences.networks c.args.scan.now (subst (λ (n : StudyNetworks). AreNetworksOf c.args.study.now n) c.in-Sequences.is c.requires.networks) c.requires.scan c.in-Zero.is).exact

pub returns-in-Zero-clause-whole : goal.returns-in-Zero-clause-whole
returns-in-Zero-clause-whole c =
    (zero_scanned c.args.study.now c.in-Sequences.networks c.args.scan.now (subst (λ (n : StudyNetworks). AreNetworksOf c.args.study.now n) c.in-Sequences.is c.requires.networks) c.requires.scan c.in-Zero.is).whole

pub returns-in-Zero-clause-inside : goal.returns-in-Zero-clause-inside
returns-in-Zero-clause-inside c =
    (zero_scanned c.args.study.now c.in-Sequences.networks c.args.scan.now (subst (λ (n : StudyNetworks). AreNetworksOf c.args.study.now n) c.in-Sequences.is c.requires.networks) c.requires.scan c.in-Zero.is).inside
