-- The name of an entry is the one at its key.
use Rattle.std.specs.Prelude.{◌≡◌, refl}
use Rattle.toml.specs.Data.{Data}
use Rattle.study_reader.specs.Checks.{name_value}
use Rattle.study_reader.specs.Entries.{bus_entry, source_entry, bank_entry, filter_entry, scan_entry}
use Rattle.study_reader.specs.Branches.{line_entry, transformer_entry}
use Rattle.study_reader.specs.Loads.{load_entry}
use Rattle.study_reader.specs.Points.{point_entry}
use Rattle.study_reader.specs.declared.context.Context.{Context}

pub bus_named : (context : Context) (d : Data) → (bus_entry context d).name ≡ name_value d
unfolding bus_entry
bus_named context d = refl

pub source_named : (context : Context) (d : Data) → (source_entry context d).name ≡ name_value d
unfolding source_entry
source_named context d = refl

pub line_named : (context : Context) (d : Data) → (line_entry context d).name ≡ name_value d
unfolding line_entry
line_named context d = refl

pub transformer_named : (context : Context) (d : Data) → (transformer_entry context d).name ≡ name_value d
unfolding transformer_entry
transformer_named context d = refl

pub load_named : (context : Context) (d : Data) → (load_entry context d).name ≡ name_value d
unfolding load_entry
load_named context d = refl

pub bank_named : (context : Context) (d : Data) → (bank_entry context d).name ≡ name_value d
unfolding bank_entry
bank_named context d = refl

pub filter_named : (context : Context) (d : Data) → (filter_entry context d).name ≡ name_value d
unfolding filter_entry
filter_named context d = refl

pub scan_named : (context : Context) (d : Data) → (scan_entry context d).name ≡ name_value d
unfolding scan_entry
scan_named context d = refl

pub point_named : (context : Context) (d : Data) → (point_entry context d).name ≡ name_value d
unfolding point_entry
point_named context d = refl
