use Rattle.std.proofs.Common.{refl}
use Rattle.harmscan_core.specs.Files.{ends, goes_on}
use Rattle.harmscan_core.proofs.inputs.inputs_from.Goals as goal

pub returns-in-Err-clause-read : goal.returns-in-Err-clause-read
returns-in-Err-clause-read g c = ends c.in-Err.outcome c.in-Err.ensures.read refl

pub returns-in-Err-spectrum_from-clause-read : goal.returns-in-Err-spectrum_from-clause-read
returns-in-Err-spectrum_from-clause-read g c =
    goes_on c.in-Ok.accepted.study (g.F.Shelf.state c.study_from.new.shelf) c.in-Ok.ensures.read
    (ends c.in-Err-spectrum_from.outcome c.in-Err-spectrum_from.ensures.read refl)

pub returns-in-Ok-levels_from-clause-read : goal.returns-in-Ok-levels_from-clause-read
returns-in-Ok-levels_from-clause-read g c =
    goes_on c.in-Ok.accepted.study (g.F.Shelf.state c.study_from.new.shelf) c.in-Ok.ensures.read
    (goes_on c.in-Ok-spectrum_from.spectrum.rows (g.F.Shelf.state c.spectrum_from.new.shelf) c.in-Ok-spectrum_from.ensures.read
    (goes_on c.in-Ok-levels_from.levels.rows (g.F.Shelf.state c.levels_from.new.shelf) c.in-Ok-levels_from.ensures (record { stays = refl; answer = refl })))

pub returns-in-Err-levels_from-clause-read : goal.returns-in-Err-levels_from-clause-read
returns-in-Err-levels_from-clause-read g c =
    goes_on c.in-Ok.accepted.study (g.F.Shelf.state c.study_from.new.shelf) c.in-Ok.ensures.read
    (goes_on c.in-Ok-spectrum_from.spectrum.rows (g.F.Shelf.state c.spectrum_from.new.shelf) c.in-Ok-spectrum_from.ensures.read
    (ends c.in-Err-levels_from.outcome c.in-Err-levels_from.ensures refl))
