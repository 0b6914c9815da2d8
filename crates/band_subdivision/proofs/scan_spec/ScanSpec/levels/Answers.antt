use Rattle.std.proofs.Common.{ap, arith}
use Rattle.std.proofs.lemmas.Int.{ints}
use Rattle.band_subdivision.proofs.Curves.{begins_by}
use Rattle.band_subdivision.proofs.scan_spec.ScanSpec.levels.Goals as goal

pub least_over-requires-clause-from : goal.least_over-requires-clause-from
least_over-requires-clause-from c = begins_by _ _ c.args.lo c.requires.levels.spans.first c.requires.orders.begins

pub returns-clause-value : goal.returns-clause-value
returns-clause-value c =
    ap (λ t. record { threshold = t; kv = c.args.self.now.kv; mva = c.args.self.now.mva }) c.least_over.ensures.value

pub returns-clause-in_range : goal.returns-clause-in_range
returns-clause-in_range c = record {
  levels = record { some = c.least_over.ensures.level.least; kv = c.requires.levels.kv; mva = c.requires.levels.mva };
  most = let most = c.least_over.ensures.level.most in omega (arith, ints, most);
  parts = c.least_over.ensures.level.den;
}
