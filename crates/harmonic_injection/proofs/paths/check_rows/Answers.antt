use Rattle.std.proofs.Common.{◌≡◌, ◌+◌, ℕ, sym, subst, arith}
use borrow.Author.Count.{below_more}
use Rattle.spectrum_reader.specs.declared.fault.SpectrumFault.TheVariants.{NoPath}
use Rattle.sequence_network.proofs.Liveness.{some_at, all_at}
use Rattle.harmonic_injection.specs.Paths.{HasPath, IsNoPath}
use Rattle.harmonic_injection.specs.Paths.IsNoPath.{no_path}
use Rattle.harmonic_injection.proofs.paths.check_rows.Goals as goal

pub returns-then-not-has_path-clause-refused : goal.returns-then-not-has_path-clause-refused
returns-then-not-has_path-clause-refused c =
    let rows = c.args.rows.now in
    let study = c.args.study.now in
    let i = c.loop-row.row-index in
    let dead = some_at (λ row. ¬ HasPath study row) rows i c.row-item.result (omega arith) c.row-item.is (c.has_path.ensures.dead c.if-not-has_path.true) in
    let number : i + 1 ≡ c.loop-row.number = sym c.loop-row.invariant.number in
    subst (λ (n : ℕ). IsNoPath study rows (NoPath n)) number (no_path i dead c.loop-row.invariant.paths)

pub loop-row-preserved : goal.loop-row-preserved
loop-row-preserved c = record {
  number = omega (arith, c.loop-row.invariant.number);
  paths = below_more _ _ c.loop-row.invariant.paths
      (some_at (HasPath c.args.study.now) c.args.rows.now c.loop-row.row-index c.row-item.result (omega arith) c.row-item.is (c.has_path.ensures.live c.if-not-has_path.false));
}

pub returns-clause-ok : goal.returns-clause-ok
returns-clause-ok c = all_at (HasPath c.args.study.now) c.args.rows.now (λ k l. c.loop-row.invariant.paths k (omega arith))
