-- The inverse behind the middles on a bench.
use Rattle.std.proofs.Common.{◌≡◌, Result, Ok, Err, refl}
use Rattle.middle_inverse.specs.Inverse.{bind}
use Rattle.middle_inverse.specs.declared.fault.InverseFault.{InverseFault}

-- the inverse of the rows, or the fault
pub behind : {X Y Z : Type 0} (o : Result X InverseFault) (rows : Y) (f : Y → Z) → bind (bind o (λ _. Ok rows)) (λ r. Ok (f r)) ≡ bind o (λ _. Ok (f rows))
behind (Err e) rows f = refl
behind (Ok x) rows f = refl
