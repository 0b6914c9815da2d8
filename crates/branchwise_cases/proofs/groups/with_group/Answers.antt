use Rattle.std.proofs.Common.{ap, sym, ◌∙◌, arith}
use Rattle.network_theory.proofs.Couplings.{coupling_same}
use Rattle.net_branch.specs.Exact.{exact_law}
use Rattle.branchwise_cases.proofs.groups.with_group.Goals as goal

pub push_group-requires-clause-three : goal.push_group-requires-clause-three
push_group-requires-clause-three g =
    let a = g.in_ok-a.ensures in
    let b = g.in_ok-b.ensures in
    let c = g.in_ok-c.ensures in
    record {
      first = record { values = _; law = ap exact_law a.law };
      second = record { values = _; law = ap exact_law b.law };
      third = record { values = _; law = ap exact_law c.law };
      equal_second = coupling_same _;
      equal_third = coupling_same _;
      number = λ e. omega (arith, e, a.group);
      same_second = b.group ∙ sym a.group;
      same_third = c.group ∙ sym a.group;
      owner_second = b.owner ∙ sym a.owner;
      owner_third = c.owner ∙ sym a.owner;
    }
