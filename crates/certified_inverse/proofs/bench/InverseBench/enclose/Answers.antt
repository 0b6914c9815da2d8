use Rattle.std.proofs.Common.{◌≡◌, rules}
use Rattle.certified_inverse.specs.Certificate.{enclosure}
use Rattle.certified_inverse.proofs.Law.{held_by}
use Rattle.certified_inverse.proofs.bench.InverseBench.enclose.Goals as goal

pub returns-in-Ok-clause-held : goal.returns-in-Ok-clause-held
returns-in-Ok-clause-held g c =
    let s = g.E.Enclosure.SCALE in
    let stated : c.certify.result ≡ enclosure s c.args.column c.args.matrix.now.rows = search rules in
    held_by s c.args.matrix.now.size c.args.column c.args.matrix.now.rows c.certify.result c.requires.column_in stated
