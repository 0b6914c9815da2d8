use Rattle.std.proofs.Common.{◌≡◌, ◌∙◌, List, [], ◌∷◌, length, refl, arith}
use Rattle.std.specs.Prelude.{slice_set}
use Rattle.admittance_box.proofs.group_bench.set_column.Goals as goal

-- three items that are set are all of three
three_set : {X : Type 0} (xs : List X) (a b c : X) → length xs ≡ 3 → slice_set (slice_set (slice_set xs 0 a) 1 b) 2 c ≡ a ∷ b ∷ c ∷ []
three_set [] a b c e = absurd (omega arith)
three_set (x ∷ []) a b c e = absurd (omega arith)
three_set (x ∷ y ∷ []) a b c e = absurd (omega arith)
three_set (x ∷ y ∷ z ∷ []) a b c e = refl
three_set (x ∷ y ∷ z ∷ w ∷ xs) a b c e = absurd (omega arith)

pub returns : goal.returns
returns g c = c.set-3.ensures ∙ rw (c.set-2.ensures, c.set.ensures) (three_set c.args.column.now _ _ _ c.requires)
