-- One more bus, line or load.
use Rattle.std.proofs.Common.{◌≡◌, ℕ, zero, suc, ◌+◌, ◌*◌, ◌-◌, ◌++◌, ◌≤◌, ◌==◌, Bool, true, false, List, [], ◌∷◌, pos, Result, IfOk, ap, sym, subst, ◌∙◌, arith, if◌then◌else◌}
use Rattle.std.proofs.lemmas.Bool.Decides.{nat_tests}
use Rattle.std.specs.declared.alloc.AllocError.{AllocError}
use Rattle.drill_study.specs.Draws.{next, drawn, after}
use Rattle.study_model.specs.declared.records.Line.{Line}
use Rattle.study_model.specs.declared.records.Load.{Load}
use Rattle.drill_study.specs.Drill.{numbered, buses_from, line_of, lines_from, load_of, loads_from, after_loads, drill_lines, drawn_lines, drill_loads, drawn_all}

pub buses_next : (count j : ℕ) → 1 ≤ count → buses_from count j ≡ record { name = numbered 66 (j + 1); kv = pos 33000000 } ∷ buses_from (count - 1) (j + 1)
buses_next zero j some = absurd (omega (arith, some))
buses_next (suc count) j some = let same : count ≡ suc count - 1 = omega arith in ap (λ c. record { name = numbered 66 (j + 1); kv = pos 33000000 } ∷ buses_from c (j + 1)) same

pub lines_next : (count j z : ℕ) → 1 ≤ count → lines_from count j z ≡ line_of j z ∷ lines_from (count - 1) (j + 1) (after 4 z)
lines_next zero j z some = absurd (omega (arith, some))
lines_next (suc count) j z some = let same : count ≡ suc count - 1 = omega arith in ap (λ c. line_of j z ∷ lines_from c (j + 1) (after 4 z)) same

after_more : (m n z : ℕ) → after (m + n) z ≡ after n (after m z)
after_more zero n z = let e : zero + n ≡ n = omega arith in ap (λ k. after k z) e
after_more (suc m) n z = let e : suc m + n ≡ suc (m + n) = omega arith in ap (λ k. after k z) e ∙ after_more m n (next z)

pub after_next : (count z : ℕ) → 1 ≤ count → after (4 * count) z ≡ after (4 * (count - 1)) (after 4 z)
after_next count z some = let e : 4 * count ≡ 4 + 4 * (count - 1) = omega (arith, some) in ap (λ k. after k z) e ∙ after_more 4 (4 * (count - 1)) z

drawn_none : (d : ℕ) → d ≡ 0 → (d == 0) ≡ true
drawn_none d h = grind (arith, nat_tests)

drawn_some : (d : ℕ) → (d ≡ 0 → ⊥) → (d == 0) ≡ false
drawn_some d h = grind (arith, nat_tests)

-- the loads at one more bus, by whether it has one
abbrev loads_by : Bool → ℕ → ℕ → ℕ → List Load
loads_by t count j z = if t then load_of j (after 1 z) ∷ loads_from count (j + 1) (after 2 z) else loads_from count (j + 1) (after 1 z)

abbrev state_by : Bool → ℕ → ℕ → ℕ
state_by t count z = if t then after_loads count (after 2 z) else after_loads count (after 1 z)

pub loads_with : (count j z : ℕ) → 1 ≤ count → drawn (next z) 3 ≡ 0
    → (loads_from count j z ≡ load_of j (next z) ∷ loads_from (count - 1) (j + 1) (next (next z))) × (after_loads count z ≡ after_loads (count - 1) (next (next z)))
loads_with zero j z some none = absurd (omega (arith, some))
loads_with (suc count) j z some none =
    let same : count ≡ suc count - 1 = omega arith in
    let test = drawn_none _ none in
    (ap (λ t. loads_by t count j z) test ∙ ap (λ c. loads_by true c j z) same, ap (λ t. state_by t count z) test ∙ ap (λ c. state_by true c z) same)

pub loads_without : (count j z : ℕ) → 1 ≤ count → (drawn (next z) 3 ≡ 0 → ⊥)
    → (loads_from count j z ≡ loads_from (count - 1) (j + 1) (next z)) × (after_loads count z ≡ after_loads (count - 1) (next z))
loads_without zero j z some none = absurd (omega (arith, some))
loads_without (suc count) j z some none =
    let same : count ≡ suc count - 1 = omega arith in
    let test = drawn_some _ none in
    (ap (λ t. loads_by t count j z) test ∙ ap (λ c. loads_by false c j z) same, ap (λ t. state_by t count z) test ∙ ap (λ c. state_by false c z) same)

-- the state after the loads at one more bus
abbrev Ends : Result ℕ AllocError → ℕ → Type 0
Ends r state = IfOk r (λ s. s ≡ state)

pub state_with : (r : Result ℕ AllocError) (count j z once d twice : ℕ) → 1 ≤ count → once ≡ next z → d ≡ drawn once 3 → d ≡ 0 → twice ≡ next once → Ends r (after_loads (count - 1) twice) → Ends r (after_loads count z)
state_with r count j z once d twice some first number none second ends =
    let drawn_none : drawn (next z) 3 ≡ 0 = ap (λ y. drawn y 3) (sym first) ∙ sym number ∙ none in
    subst (Ends r) (ap (after_loads (count - 1)) (second ∙ ap next first) ∙ sym (loads_with count j z some drawn_none).1) ends

pub state_without : (r : Result ℕ AllocError) (count j z once d : ℕ) → 1 ≤ count → once ≡ next z → d ≡ drawn once 3 → (d ≡ 0 → ⊥) → Ends r (after_loads (count - 1) once) → Ends r (after_loads count z)
state_without r count j z once d some first number other ends =
    let drawn_some : drawn (next z) 3 ≡ 0 → ⊥ = λ e. other (number ∙ ap (λ y. drawn y 3) first ∙ e) in
    subst (Ends r) (ap (after_loads (count - 1)) first ∙ sym (loads_without count j z some drawn_some).1) ends

-- pushed to none
onto_none : {X : Type 0} (old new xs : List X) → old ≡ [] → new ≡ old ++ xs → new ≡ xs
onto_none old new xs none pushed = pushed ∙ ap (λ l. l ++ xs) none

-- all lines and loads of a drill, and the state after their draws
pub all_lines : (number : ℕ) (old new : List Line) → old ≡ [] → new ≡ old ++ lines_from 59 0 number → new ≡ drill_lines number
unfolding drill_lines
all_lines number old new none pushed = onto_none old new (lines_from 59 0 number) none pushed

state_is : (number z : ℕ) → z ≡ after (4 * 59) number → z ≡ drawn_lines number
unfolding drawn_lines
state_is number z same = same

pub all_loads : (number z : ℕ) (old new : List Load) → z ≡ after (4 * 59) number → old ≡ [] → new ≡ old ++ loads_from 59 0 z → new ≡ drill_loads number
unfolding drill_loads
all_loads number z old new same none pushed = onto_none old new (loads_from 59 0 z) none pushed ∙ ap (loads_from 59 0) (state_is number z same)

pub all_drawn : (number z state : ℕ) → z ≡ after (4 * 59) number → state ≡ after_loads 59 z → state ≡ drawn_all number
unfolding drawn_all
all_drawn number z state same is = is ∙ ap (after_loads 59) (state_is number z same)
