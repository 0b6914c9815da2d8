-- A test that is made of sound parts is sound.
use Rattle.std.proofs.Common.{◌≡◌, ℕ, Bool, true, false, Option, Some, None, ℤ, refl, subst}
use Rattle.std.specs.Prelude.{◌||◌, ◌&&◌, if◌then◌else◌}
use Rattle.study_model.specs.declared.words.Method.{Method}
use Rattle.study_model.specs.declared.words.Method.TheVariants.{Elimination, Both, Branchwise}
use Rattle.band_subdivision.specs.Boxes.{BoxTest, IsTestable}
use Rattle.band_subdivision.specs.Parts.{or_else, either, is_near, where_near, nowhere, second_part}
use Rattle.band_subdivision.specs.Truth.{Scanned, IsClearedBox, IsTruePeak, IsSound, PartsAreSound}

either_is_sound : (from : ℕ) (s : Scanned) (first second : BoxTest) → IsSound from s first → IsSound from s second → IsSound from s (either first second)
either_is_sound from s first second one other = record {
  clear = λ lo hi testable. clear lo hi testable (first.clear lo hi) (second.clear lo hi) refl refl;
  above = λ at ohms testable. above at ohms testable (first.above at at) (second.above at at) refl refl;
}
  where
    clear : (lo hi : ℕ) → IsTestable from lo hi → (t u : Bool) → first.clear lo hi ≡ t → second.clear lo hi ≡ u → t || u ≡ true → IsClearedBox s lo hi
    clear lo hi testable true u is_t is_u e = one.clear lo hi testable is_t
    clear lo hi testable false true is_t is_u e = other.clear lo hi testable is_u
    clear lo hi testable false false is_t is_u e = absurd cc

    above : (at : ℕ) (ohms : ℤ) → IsTestable from at at → (o p : Option ℤ) → first.above at at ≡ o → second.above at at ≡ p → or_else o p ≡ Some ohms → IsTruePeak s at at at ohms
    above at ohms testable (Some x) p is_o is_p e = let k : x ≡ ohms = cc in subst (λ z. IsTruePeak s at at at z) k (one.above at x testable is_o)
    above at ohms testable None (Some x) is_o is_p e = let k : x ≡ ohms = cc in subst (λ z. IsTruePeak s at at at z) k (other.above at x testable is_p)
    above at ohms testable None None is_o is_p e = absurd cc

near_is_sound : (from : ℕ) (s : Scanned) (locate : ℕ) (test : BoxTest) → IsSound from s test → IsSound from s (where_near locate test)
near_is_sound from s locate test sound = record {
  clear = λ lo hi testable. clear lo hi testable (is_near locate lo hi);
  above = λ at ohms testable. above at ohms testable (is_near locate at at);
}
  where
    clear : (lo hi : ℕ) → IsTestable from lo hi → (t : Bool) → t && test.clear lo hi ≡ true → IsClearedBox s lo hi
    clear lo hi testable true e = sound.clear lo hi testable e
    clear lo hi testable false e = absurd cc

    above : (at : ℕ) (ohms : ℤ) → IsTestable from at at → (t : Bool) → (if t then test.above at at else None) ≡ Some ohms → IsTruePeak s at at at ohms
    above at ohms testable true e = sound.above at ohms testable e
    above at ohms testable false e = absurd cc

pub parts_are_sound : PartsAreSound
parts_are_sound = record { either = either_is_sound; near = near_is_sound }

-- and so is what each method asks
nowhere_is_sound : (from : ℕ) (s : Scanned) → IsSound from s nowhere
nowhere_is_sound from s = record { clear = λ lo hi testable e. absurd cc; above = λ at ohms testable e. absurd cc }

pub second_is_sound : (from : ℕ) (s : Scanned) (m : Method) (locate : ℕ) (inverse branchwise : BoxTest) → IsSound from s inverse → IsSound from s branchwise → IsSound from s (second_part m locate inverse branchwise)
second_is_sound from s Elimination locate inverse branchwise i b = nowhere_is_sound from s
second_is_sound from s Both locate inverse branchwise i b = near_is_sound from s locate inverse i
second_is_sound from s Branchwise locate inverse branchwise i b = b
