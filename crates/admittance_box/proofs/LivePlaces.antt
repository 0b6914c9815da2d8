-- The places of a branch's nodes in the ordering.
use Rattle.std.proofs.Common.{◌≡◌, ◌≢◌, ◌∙◌, ℕ, zero, suc, ◌<◌, get_or, arith, Bool, true, false, List, [], ◌∷◌, length, refl, sym, subst, ap, Option, inl, inr}
use Rattle.std.specs.Prelude.{Some, None, Contains, ◌||◌, ◌==◌, is_some, if◌then◌else◌}
use Rattle.std.specs.List.{AllZip}
use Rattle.std.specs.Option.{option_map}
use Rattle.network_theory.specs.Branch.{Tap}
use Rattle.network_theory.specs.Between.{TapUpTo}
use Rattle.network_theory.proofs.Carried.{IsAmong}
use Rattle.admittance_box.specs.Addends.{has_place}
use Rattle.admittance_box.specs.Places.{place_of}

-- a node of the order has a place
pub place-among : (n : ℕ) (ordering : List ℕ) → IsAmong n ordering → is_some (place_of ordering n) ≡ true
place-among n [] i = absurd i
place-among n (m ∷ ordering) i = go (m == n) refl i (place-among n ordering)
  where
    later : (o : Option ℕ) → is_some o ≡ true → is_some (option_map suc o) ≡ true
    later (Some j) e = refl
    later None e = e

    go : (t : Bool) → (m == n) ≡ t → IsAmong n (m ∷ ordering) → (IsAmong n ordering → is_some (place_of ordering n) ≡ true) → is_some (if t then Some 0 else option_map suc (place_of ordering n)) ≡ true
    go true e j more = refl
    go false e (inl q) more = absurd (let ne : m ≢ n = grind arith in ne (sym q))
    go false e (inr j) more = later (place_of ordering n) (more j)

or_left : (a b : Bool) → a ≡ true → (a || b) ≡ true
or_left a b e = grind arith

or_right : (a b : Bool) → b ≡ true → (a || b) ≡ true
or_right a b e = grind arith

-- a branch with a tap at a node of the order has a place; the other network's taps are at the same nodes
pub has_place-tap : (ordering : List ℕ) (ts us : List Tap) → AllZip TapUpTo ts us → (t : Tap) → Contains us t → IsAmong t.node ordering → has_place ordering ts ≡ true
has_place-tap ordering [] [] z t k i = absurd (omega (arith, k.1))
has_place-tap ordering [] (u ∷ us) z t k i = absurd z
has_place-tap ordering (w ∷ ts) [] z t k i = absurd z
has_place-tap ordering (w ∷ ts) (u ∷ us) z t k i = go k.0 k.1 k.2 (λ j l e. has_place-tap ordering ts us z.1 t (j, l, e) i)
  where
    go : (j : ℕ) → j < suc (length us) → get_or (u ∷ us) j t ≡ t → ((m : ℕ) → m < length us → get_or us m t ≡ t → has_place ordering ts ≡ true) → has_place ordering (w ∷ ts) ≡ true
    go zero l e more = or_left _ _ (place-among w.node ordering (subst (λ n. IsAmong n ordering) (ap (λ (v : Tap). v.node) (sym e) ∙ sym z.0.node) i))
    go (suc j) l e more = or_right _ _ (more j (omega arith) e)
