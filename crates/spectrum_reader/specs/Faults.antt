-- What is printed of a fault of a spectrum or of a levels file.
use Rattle.std.specs.Prelude.{ℕ, List, codes, Option, Some, None}
use Rattle.spectrum_reader.specs.declared.fault.SpectrumFault.{SpectrumFault}
use Rattle.spectrum_reader.specs.declared.fault.SpectrumFault.TheVariants as spectrum
use Rattle.spectrum_reader.specs.declared.fault.LevelsFault.{LevelsFault}
use Rattle.spectrum_reader.specs.declared.fault.LevelsFault.TheVariants as levels

-- A fault's number, which the want of memory lacks, its name and the number of its row.
pub record PrintedFault : Type 0 where
  pub number : Option ℕ
  pub name : List ℕ
  pub row : Option ℕ

-- what is printed of a fault with a number
abbrev pub printed : ℕ → List ℕ → Option ℕ → PrintedFault
printed number name row = record { number = Some number; name = name; row = row }

-- and of the want of memory
abbrev pub printed_memory : PrintedFault
printed_memory = record { number = None; name = codes "NoMemory"; row = None }

-- each fault of a spectrum
abbrev pub spectrum_printed : SpectrumFault → PrintedFault
spectrum_printed spectrum.BadHeader = printed 1 (codes "BadHeader") None
spectrum_printed (spectrum.BadRow row) = printed 2 (codes "BadRow") (Some row)
spectrum_printed (spectrum.BadOrder row) = printed 3 (codes "BadOrder") (Some row)
spectrum_printed (spectrum.UnknownBus row) = printed 4 (codes "UnknownBus") (Some row)
spectrum_printed (spectrum.BadDecimal row) = printed 5 (codes "BadDecimal") (Some row)
spectrum_printed (spectrum.Repeated row) = printed 6 (codes "Repeated") (Some row)
spectrum_printed (spectrum.BadPhase row) = printed 7 (codes "BadPhase") (Some row)
spectrum_printed (spectrum.NoPath row) = printed 8 (codes "NoPath") (Some row)
spectrum_printed spectrum.NoMemory = printed_memory

-- each fault of a levels file
abbrev pub levels_printed : LevelsFault → PrintedFault
levels_printed levels.BadHeader = printed 1 (codes "BadHeader") None
levels_printed (levels.BadRow row) = printed 2 (codes "BadRow") (Some row)
levels_printed (levels.BadOrder row) = printed 3 (codes "BadOrder") (Some row)
levels_printed (levels.UnknownBus row) = printed 4 (codes "UnknownBus") (Some row)
levels_printed (levels.BadPercent row) = printed 5 (codes "BadPercent") (Some row)
levels_printed (levels.Repeated row) = printed 6 (codes "Repeated") (Some row)
levels_printed levels.NoMemory = printed_memory
