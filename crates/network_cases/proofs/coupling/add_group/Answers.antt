use Rattle.std.proofs.Common.{◌≡◌, ◌≢◌, refl, ap, sym, ◌∙◌, arith}
use Rattle.network_theory.proofs.Couplings.{coupling_same}
use Rattle.net_branch.specs.Exact.{exact_law}
use Rattle.net_branch.proofs.Wholes.{each_weaker}
use Rattle.network_cases.proofs.Equal.{same_but_self}
use Rattle.network_cases.proofs.coupling.add_group.Goals as goal

pub push_group-requires-clause-three : goal.push_group-requires-clause-three
push_group-requires-clause-three c =
    let a = c.in_ok-a.ensures in
    let b = c.in_ok-b.ensures in
    let last = c.in_ok-c.ensures in
    let equal = c.if-not-is_equal.ensures refl in
    record {
      first = record { values = _; law = ap exact_law a.law };
      second = record { values = _; law = ap exact_law b.law };
      third = record { values = _; law = ap exact_law last.law };
      equal_second = coupling_same _;
      equal_third = same_but_self _ _ equal.0 equal.1;
      number = λ e. omega (arith, e, a.group);
      same_second = b.group ∙ sym a.group;
      same_third = last.group ∙ sym a.group;
      owner_second = b.owner ∙ sym a.owner;
      owner_third = last.owner ∙ sym a.owner;
    }

pub push_group-requires-clause-apart : goal.push_group-requires-clause-apart
push_group-requires-clause-apart c =
    let number = c.in_ok-a.ensures.group in
    each_weaker (λ o. o.group ≡ 0) (λ o. o.group ≢ c.in_ok-a.a.group) (λ o alone same. omega (arith, number, alone, same)) c.args.network.now.branches c.requires.alone
