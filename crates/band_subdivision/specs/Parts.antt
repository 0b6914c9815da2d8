-- Tests of boxes that are made of others.
use Rattle.std.specs.Prelude.{ℕ, ℤ, ◌-◌, Bool, false, ◌&&◌, ◌||◌, nat_le, if◌then◌else◌, Option, Some, None}
use Rattle.study_model.specs.declared.words.Method.{Method}
use Rattle.study_model.specs.declared.words.Method.TheVariants.{Elimination, Both, Branchwise}
use Rattle.band_subdivision.specs.Boxes.{BoxTest}

-- the first value, if there is one, else the second
abbrev pub or_else : Option ℤ → Option ℤ → Option ℤ
or_else (Some ohms) other = Some ohms
or_else None other = other

-- the test that passes where one of two does; its micro-ohms are the first's where that passes
abbrev pub either : BoxTest → BoxTest → BoxTest
either first second = record {
  clear = λ lo hi. first.clear lo hi || second.clear lo hi;
  above = λ lo hi. or_else (first.above lo hi) (second.above lo hi);
}

-- a box is no wider than the width from which peaks are named
abbrev pub is_near : ℕ → ℕ → ℕ → Bool
is_near locate lo hi = nat_le (hi - lo) locate

-- a test on these boxes alone; it says nothing of others
abbrev pub where_near : ℕ → BoxTest → BoxTest
where_near locate test = record {
  clear = λ lo hi. is_near locate lo hi && test.clear lo hi;
  above = λ lo hi. if is_near locate lo hi then test.above lo hi else None;
}

-- the test that passes nowhere
abbrev pub nowhere : BoxTest
nowhere = record { clear = λ lo hi. false; above = λ lo hi. None }

-- what a method asks where the elimination part doesn't pass: nothing, or the inverse part near peaks, or the branch-wise part
abbrev pub second_part : Method → ℕ → BoxTest → BoxTest → BoxTest
second_part Elimination locate inverse branchwise = nowhere
second_part Both locate inverse branchwise = where_near locate inverse
second_part Branchwise locate inverse branchwise = branchwise
