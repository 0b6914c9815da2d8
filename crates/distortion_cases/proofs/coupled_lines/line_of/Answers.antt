use Rattle.std.proofs.Common.{◌≢◌, ap, subst, sym, ◌∙◌, arith}
use Rattle.std.specs.List.{AllByRecursion}
use Rattle.network_theory.proofs.Couplings.{coupling_same}
use Rattle.net_branch.specs.Exact.{exact_law}
use Rattle.distortion_cases.proofs.coupled_lines.line_of.Goals as goal

pub push_group-requires-clause-three : goal.push_group-requires-clause-three
push_group-requires-clause-three c =
    let a = c.in_ok-a.ensures in
    let b = c.in_ok-b.ensures in
    let last = c.in_ok-c.ensures in
    record {
      first = record { values = _; law = ap exact_law a.law };
      second = record { values = _; law = ap exact_law b.law };
      third = record { values = _; law = ap exact_law last.law };
      equal_second = coupling_same _;
      equal_third = coupling_same _;
      number = λ e. omega (arith, e, a.group);
      same_second = b.group ∙ sym a.group;
      same_third = last.group ∙ sym a.group;
      owner_second = b.owner ∙ sym a.owner;
      owner_third = last.owner ∙ sym a.owner;
    }

pub push_group-requires-clause-apart : goal.push_group-requires-clause-apart
push_group-requires-clause-apart c =
    subst (λ n. AllByRecursion (λ o. o.group ≢ c.in_ok-a.a.group) n.branches) (sym c.in_ok-network.ensures.made) tt
