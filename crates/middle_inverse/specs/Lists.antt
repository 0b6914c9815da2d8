-- Lists of values that may be absent, and the first greatest of a list.
use Rattle.std.specs.Prelude.{◌≡◌, ℕ, suc, List, [], ◌∷◌, length, Option, Some, None, max, nat_le, if◌then◌else◌}
use Rattle.std.specs.List.{AllByRecursion}
pub use Rattle.plain_elimination.specs.Elimination.{and_then}

-- f of each element, if each has a value
abbrev pub each : {X Y : Type 0} → (X → Option Y) → List X → Option (List Y)
each f [] = Some []
each f (x ∷ xs) = and_then (f x) (λ y. and_then (each f xs) (λ ys. Some (y ∷ ys)))

-- f of each two elements at the same place of lists of one length, if each has a value
abbrev pub each_two : {X Y Z : Type 0} → (X → Y → Option Z) → List X → List Y → Option (List Z)
each_two f [] [] = Some []
each_two f [] (y ∷ ys) = None
each_two f (x ∷ xs) [] = None
each_two f (x ∷ xs) (y ∷ ys) = and_then (f x y) (λ z. and_then (each_two f xs ys) (λ zs. Some (z ∷ zs)))

-- the greatest of the numbers, 0 of none
abbrev pub greatest : List ℕ → ℕ
greatest [] = 0
greatest (x ∷ xs) = max x (greatest xs)

-- the place of the first that no other exceeds
abbrev pub first_greatest : List ℕ → ℕ
first_greatest [] = 0
first_greatest (x ∷ xs) = if nat_le (greatest xs) x then 0 else suc (first_greatest xs)

-- rows of this width
abbrev pub AreWide : {X : Type 0} → ℕ → List (List X) → Type 0
AreWide width rows = AllByRecursion (λ row. length row ≡ width) rows
