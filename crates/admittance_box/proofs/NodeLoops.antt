-- Nodes and branches, one after another.
use Rattle.std.proofs.Common.{◌≡◌, ◌∙◌, ℕ, suc, ◌+◌, ◌-◌, ◌<◌, Bool, true, false, List, [], ◌∷◌, ◌++◌, length, map, drop, get_or, refl, sym, ap, arith, append_assoc}
use Rattle.std.specs.Prelude.{◌&&◌, ◌==◌, not, if◌then◌else◌}
use Rattle.net_branch.specs.declared.network.Branch.{Branch}
use Rattle.net_branch.specs.Exact.{exact_branch}
use Rattle.admittance_box.specs.Addends.{Addend, place_in_group, first_addend, addends_between}
use Rattle.admittance_box.specs.Places.{live_from}
use Rattle.admittance_box.proofs.TapLoops.{drop_item, map-append_one}

first_of : (live : ℕ → Bool) (driven node to : ℕ) → node < to → live_from live driven node (to - node) ≡ (if live node && not (node == driven) then node ∷ live_from live driven (node + 1) (to - (node + 1)) else live_from live driven (node + 1) (to - (node + 1)))
first_of live driven node to l =
    let count : to - node ≡ suc (to - (node + 1)) = omega arith in
    let next : node + 1 ≡ suc node = omega arith in
    rw (count, next) refl

-- a node that is taken goes to the end of those before
pub taken_next : (live : ℕ → Bool) (driven node to : ℕ) (before after whole : List ℕ) → node < to → true ≡ (live node && not (node == driven)) → after ≡ before ++ node ∷ []
    → before ++ live_from live driven node (to - node) ≡ whole → after ++ live_from live driven (node + 1) (to - (node + 1)) ≡ whole
taken_next live driven node to before after whole l t e h =
    ap (λ xs. xs ++ live_from live driven (node + 1) (to - (node + 1))) e
    ∙ append_assoc before (node ∷ []) (live_from live driven (node + 1) (to - (node + 1)))
    ∙ ap (λ xs. before ++ xs) (sym (first_of live driven node to l ∙ ap (λ b. if b then node ∷ live_from live driven (node + 1) (to - (node + 1)) else live_from live driven (node + 1) (to - (node + 1))) (sym t)))
    ∙ h

-- another is passed over
pub passed_over : (live : ℕ → Bool) (driven node to : ℕ) (before whole : List ℕ) → node < to → false ≡ (live node && not (node == driven))
    → before ++ live_from live driven node (to - node) ≡ whole → before ++ live_from live driven (node + 1) (to - (node + 1)) ≡ whole
passed_over live driven node to before whole l t h =
    ap (λ xs. before ++ xs) (sym (first_of live driven node to l ∙ ap (λ b. if b then node ∷ live_from live driven (node + 1) (to - (node + 1)) else live_from live driven (node + 1) (to - (node + 1))) (sym t)))
    ∙ h

-- one more branch
pub branches_more : {X : Type 0} (s : ℕ) (ordering : List ℕ) (low high : List Branch) (i : ℕ) (a b : Branch) → i < length low → a ≡ get_or low i a → i < length high → b ≡ get_or high i b
    → (f : X → Addend) (items after : List X) (x : X) (whole : List Addend) → after ≡ items ++ x ∷ [] → f x ≡ first_addend s ordering (place_in_group (exact_branch a).law) (exact_branch a) (map exact_branch (drop (i + 1) low)) (exact_branch b) (map exact_branch (drop (i + 1) high))
    → whole ≡ map f items ++ addends_between s ordering (map exact_branch (drop i low)) (map exact_branch (drop i high))
    → whole ≡ map f after ++ addends_between s ordering (map exact_branch (drop (i + 1) low)) (map exact_branch (drop (i + 1) high))
branches_more s ordering low high i a b la ea lb eb f items after x whole e k h =
    let rest = addends_between s ordering (map exact_branch (drop (i + 1) low)) (map exact_branch (drop (i + 1) high)) in
    let first : addends_between s ordering (map exact_branch (drop i low)) (map exact_branch (drop i high)) ≡ f x ∷ rest = rw (drop_item low i a la ea, drop_item high i b lb eb) (ap (λ y. y ∷ rest) (sym k)) in
    h ∙ ap (λ l. map f items ++ l) first ∙ sym (append_assoc (map f items) (f x ∷ []) rest) ∙ ap (λ l. l ++ rest) (sym (ap (map f) e ∙ map-append_one f items x))
