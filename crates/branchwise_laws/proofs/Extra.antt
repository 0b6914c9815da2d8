-- One more shunt at the driven node.
use Rattle.std.proofs.Common.{[], ◌∷◌, ◌++◌, ap, sym, ◌∙◌}
use Rattle.network_theory.specs.Extra.{shunt_at}
use Rattle.network_theory.proofs.Extra as E
use Rattle.branchwise_laws.specs.Extra.{ShuntAdmitted}

pub shunt_admitted : ShuntAdmitted
shunt_admitted network h parts order k e a o l = record {
  admitted = record {
    all = ap (λ bs. bs ++ shunt_at k e ∷ []) a.all ∙ sym (E.flatten-more network k e h parts);
    each = E.each-more network k e h l parts a.each;
  };
  listed = record {
    distinct = o.distinct;
    live = λ n. (λ m. (o.live n).0 (E.live_down network k e l n m), λ c. E.live_up network k e n ((o.live n).1 c));
  };
  live = λ n. (E.live_up network k e n, E.live_down network k e l n);
}
