-- The gaps of a row of marks: of each marked place the way to the next marked place or to the end, and 0 at all others.
use Rattle.std.specs.Prelude.{ℕ, suc, List, [], ◌∷◌, Bool, true, false}

-- the way from before the first place to the first marked place or to the end
abbrev pub lead : List Bool → ℕ
lead [] = 1
lead (true ∷ marks) = 1
lead (false ∷ marks) = suc (lead marks)

abbrev pub gaps_of : List Bool → List ℕ
gaps_of [] = []
gaps_of (true ∷ marks) = lead marks ∷ gaps_of marks
gaps_of (false ∷ marks) = 0 ∷ gaps_of marks
