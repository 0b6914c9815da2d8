-- The scan of the worked studies is lawful beside any buses.
use Rattle.std.proofs.Common.{◌<◌, pos, refl, List, length, arith}
use Rattle.std.proofs.lemmas.Int.{ints}
use Rattle.study_model.specs.Lawful.{IsLawfulScan}
use Rattle.study_model.specs.Worked.{worked_scan}
use Rattle.study_model.specs.declared.records.Bus.{Bus}
use Rattle.study_model.specs.declared.words.StudyModel.TheVariants as study_model
use Rattle.study_model.proofs.Curves.{flat_lawful, flat_spans}

pub scan_lawful : (buses : List Bus) → 0 < length buses → IsLawfulScan 1 study_model.Sequence buses (worked_scan (pos 10000000))
scan_lawful buses some = record {
  name = (refl, λ e. absurd (cc));
  bus = some;
  network_phase = tt;
  from = (omega (arith, ints), omega (arith, ints));
  to = ((omega (arith, ints), omega (arith, ints)), omega (arith, ints));
  threshold = (refl, (omega (arith, ints), omega (arith, ints)), refl);
  curve = (
    flat_lawful 20000000 (omega (arith, ints), omega (arith, ints)),
    flat_spans 20000000 (pos 1000000) (pos 10000000) (omega (arith, ints), omega (arith, ints)) (omega (arith, ints), omega (arith, ints)),
  );
  finest = ((omega (arith, ints), omega (arith, ints)), omega (arith, ints));
  locate = ((omega (arith, ints), omega (arith, ints)), omega (arith, ints));
}
