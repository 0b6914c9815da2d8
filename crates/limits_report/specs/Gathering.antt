-- What a list is after squares are put at its end.
use Rattle.std.specs.Prelude.{◌≡◌, ◌++◌, Bool, IsTrue, IsFalse, List, Option, Some, None}
use Rattle.distortion_bounds.specs.declared.squares.Squares.{Squares}

-- all of them, where there are some, and else not the whole
abbrev pub Gathers : Option (List Squares) → List Squares → List Squares → Bool → Type 0
Gathers None old new whole = IsFalse whole
Gathers (Some list) old new whole = IsTrue whole × (new ≡ old ++ list)
