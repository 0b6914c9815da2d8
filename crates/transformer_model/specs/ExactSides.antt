-- A side that is built, as the side that it is.
use Rattle.transformer_model.specs.Windings.{Side as ExactSide}
use Rattle.transformer_model.specs.NeutralLaws.{laws_of}
use Rattle.transformer_model.specs.declared.winding.Side.{Side}

abbrev pub exact_side : Side → ExactSide
exact_side side = record { inner = side.inner; end = side.end; laws = laws_of side.law }
