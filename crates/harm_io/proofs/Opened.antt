-- What a shelf answers whose files are not told.
use Rattle.std.proofs.Common.{◌≡◌, ◌∙◌, ℕ, ◌+◌, ◌≤◌, List, [], ◌∷◌, ◌++◌, length, Option, None, Result, Ok, Err, Vec, Global, ap, sym, subst, refl, inr, arith}
use Rattle.harm_io.specs.Outside.{ReadsOpened, CountsFailure}
use Rattle.harm_io.specs.Shelves.{ShelfState, Fetches}
use Rattle.harm_io.specs.declared.shelf.FetchFault.{FetchFault}
use Rattle.harm_io.specs.declared.shelf.FetchFault.TheVariants.{Failed, TooLarge, NoMemory}

-- no more bytes than the limit, or one more than that
abbrev IsBounded : ℕ → Result (Vec ℕ Global) FetchFault → Type 0
IsBounded limit (Ok file) = length file.items ≤ limit
IsBounded limit (Err (TooLarge taken)) = taken ≡ limit + 1
IsBounded limit (Err Failed) = Unit {0}
IsBounded limit (Err NoMemory) = Unit {0}

bounded : {R E : Type 0} (rest : R → Option (List ℕ)) (limit : ℕ) (opened : Result R E) (answer : Result (Vec ℕ Global) FetchFault) → ReadsOpened rest limit opened answer → IsBounded limit answer
bounded rest limit (Ok reader) (Ok file) h = h.0
bounded rest limit (Ok reader) (Err (TooLarge taken)) h = h.0
bounded rest limit (Ok reader) (Err Failed) h = tt
bounded rest limit (Ok reader) (Err NoMemory) h = tt
bounded rest limit (Err fault) answer h = subst (IsBounded limit) (sym h) tt

-- what is told where no file is
abbrev untold : List (List ℕ) → ℕ → ShelfState
untold asked faults = record { file = λ _. None; asked = asked; faults = faults }

same : (asked asked' : List (List ℕ)) (faults faults' : ℕ) → asked' ≡ asked → faults' ≡ faults → untold asked' faults' ≡ untold asked faults
same asked asked' faults faults' e h = ap (λ (a : List (List ℕ)). untold a faults') e ∙ ap (untold asked) h

pub opened_fetch : {R E : Type 0} (rest : R → Option (List ℕ)) (limit : ℕ) (opened : Result R E) (answer : Result (Vec ℕ Global) FetchFault) (name : List ℕ) (asked asked' : List (List ℕ)) (faults faults' : ℕ)
    → ReadsOpened rest limit opened answer → CountsFailure faults faults' answer → faults ≤ faults' → asked' ≡ asked ++ name ∷ []
    → Fetches name limit (record { file = λ _. None; asked = asked; faults = faults }) (record { file = λ _. None; asked = asked'; faults = faults' }) answer
opened_fetch rest limit opened (Ok file) name asked asked' faults faults' h c l e = (bounded rest limit opened (Ok file) h, tt, same (asked ++ name ∷ []) asked' faults faults' e c)
opened_fetch rest limit opened (Err (TooLarge taken)) name asked asked' faults faults' h c l e = (bounded rest limit opened (Err (TooLarge taken)) h, tt, same (asked ++ name ∷ []) asked' faults faults' e c)
opened_fetch rest limit opened (Err Failed) name asked asked' faults faults' h c l e = record { file = refl; asked = e; cause = record { later = l; rose = omega (arith, c) } }
opened_fetch rest limit opened (Err NoMemory) name asked asked' faults faults' h c l e = inr (same (asked ++ name ∷ []) asked' faults faults' e c)
