-- What contracts see of the texts of a row.
use Rattle.std.specs.Prelude.{option_map}
use Rattle.spectrum_reader.specs.SpectrumRows.{SpectrumTexts}
use Rattle.spectrum_reader.specs.LevelRows.{LevelTexts}
use Rattle.spectrum_reader.specs.declared.injection.SpectrumTexts.{SpectrumTexts as LentSpectrum}
use Rattle.spectrum_reader.specs.declared.level.LevelTexts.{LevelTexts as LentLevel}

-- the texts of a spectrum's row that slices lend
abbrev pub spectrum_seen : LentSpectrum → SpectrumTexts
spectrum_seen lent = record { order = lent.order.now; bus = lent.bus.now; phase = option_map (λ text. text.now) lent.phase; re = lent.re.now; im = lent.im.now }

-- and those of a level's
abbrev pub level_seen : LentLevel → LevelTexts
level_seen lent = record { bus = lent.bus.now; order = lent.order.now; percent = lent.percent.now }
