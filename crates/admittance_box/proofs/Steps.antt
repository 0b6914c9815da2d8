-- Results of steps that may have no value.
use Rattle.std.proofs.Common.{◌≡◌, refl, Option}
use Rattle.std.specs.Prelude.{Some, None, IfSome, IsSome}
use Rattle.std.specs.Option.{option_map}
use Rattle.admittance_box.specs.Steps.{◌>>=◌}

-- where two steps give a value, the first gave one
pub bind-some : {A B : Type 0} (o : Option A) (f : A → Option B) (r : B) → (o >>= f) ≡ Some r → (a : A) × (o ≡ Some a) × (f a ≡ Some r)
bind-some (Some a) f r e = (a, refl, e)
bind-some None f r e = absurd cc

-- a fact about the value, if there is one
pub if_some : {A : Type 0} (o : Option A) (P : A → Type 0) → ((r : A) → o ≡ Some r → P r) → IfSome o P
if_some (Some r) P h = h r refl
if_some None P h = tt

-- there is a value where what it is mapped to is known
pub is_some-map : {A B : Type 0} (f : A → B) (o : Option A) (p : Option B) (b : B) → option_map f o ≡ p → p ≡ Some b → IsSome o
is_some-map f (Some a) p b e k = search
is_some-map f None p b e k = absurd cc

-- and that value is mapped to it
pub map-some : {A B : Type 0} (f : A → B) (o : Option A) (a : A) (p : Option B) (b : B) → o ≡ Some a → option_map f o ≡ p → p ≡ Some b → f a ≡ b
map-some f (Some c) a p b i e k = cc
map-some f None a p b i e k = absurd cc

-- two values that there are
pub value_is : {A : Type 0} (a b : A) → Some a ≡ Some b → a ≡ b
value_is a b e = cc
