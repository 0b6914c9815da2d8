-- The estimate branch by branch of a network with one more shunt at the driven node.
use Rattle.std.proofs.Common.{◌≡◌, ◌∙◌, ℕ, ◌-◌, pos, Bool, true, false, List, [], ◌∷◌, ◌++◌, length, append_assoc, refl, sym, ap}
use Rattle.std.specs.Prelude.{Option, Some, None, int_lt, if◌then◌else◌}
use Rattle.std.specs.Option.{option_map}
use Rattle.exact_algebra.specs.Ratio.{Ratio, whole}
use Rattle.complex_interval.specs.Ends.{Ends, range_ends}
use Rattle.network_theory.specs.Branch.{Branch}
use Rattle.network_theory.specs.Extra.{shunt_at, with_shunt}
use Rattle.network_theory.specs.Network.{Network, IsWhole, IsGroup, IsGrouped, done, alone, group}
use Rattle.admittance_box.specs.Addends.{LawEnds, OfShunt, PlacedTap, TapPair, tap_pairs, has_place, place_in_group}
use Rattle.admittance_box.specs.Orders.{order_ends}
use Rattle.admittance_box.specs.Places.{place_of}
use Rattle.admittance_box.specs.Steps.{◌>>=◌}
use Rattle.branchwise_test.specs.Drops.{LiveBranch, node_drops, live_branch, group_if_live, live_branches, extra_branch, with_extra_branch}
use Rattle.branchwise_test.specs.Enclosed.{valued, near_of, impedance_near_with}
use Rattle.band_subdivision.specs.ScanSpec.{nothing}
use Rattle.study_variants.proofs.ShuntRows.{uncoupled_place}

abbrev Branches : Type 0
Branches = List LiveBranch

-- ---- the shunt as a live branch
abbrev tap_at : ℕ → Ends → PlacedTap
tap_at place ratio = record { place = place; ratio = ratio }

abbrev live_of : LawEnds → List PlacedTap → List TapPair → LiveBranch
live_of law taps pairs = record { law = law; taps = taps; pairs = pairs }

module _ (s : ℕ) (o : List ℕ) (driven k : ℕ) (e : Ratio) (at : place_of o driven ≡ Some k) where
  shunt_live : live_branch s o (shunt_at driven e) (shunt_at driven e) ≡ extra_branch s k e
  shunt_live = rw at (go (range_ends s e e) (range_ends s (whole (pos 1)) (whole (pos 1))))
    where
      go : (a p : Option Ends)
          → (option_map OfShunt a >>= (λ law. ((p >>= (λ one. Some (tap_at k one))) >>= (λ tap. Some (tap ∷ []))) >>= (λ taps. tap_pairs s taps taps >>= (λ pairs. Some (live_of law taps pairs)))))
          ≡ (a >>= (λ b. p >>= (λ one. tap_pairs s (tap_at k one ∷ []) (tap_at k one ∷ []) >>= (λ pairs. Some (live_of (OfShunt b) (tap_at k one ∷ []) pairs)))))
      go None p = refl
      go (Some b) None = refl
      go (Some b) (Some one) = refl

  has : has_place o (shunt_at driven e).taps ≡ true
  has = rw at refl

  last_live : live_branches s o (shunt_at driven e ∷ []) (shunt_at driven e ∷ []) ≡ (extra_branch s k e >>= (λ extra. Some (extra ∷ [])))
  last_live = go (has_place o (shunt_at driven e).taps) (live_branch s o (shunt_at driven e) (shunt_at driven e)) has shunt_live
    where
      go : (t : Bool) (l : Option LiveBranch) → t ≡ true → l ≡ extra_branch s k e → ((if t then l >>= (λ l. Some (l ∷ [])) else Some []) >>= (λ here. Some (here ++ []))) ≡ (extra_branch s k e >>= (λ extra. Some (extra ∷ [])))
      go true l t same = ap (λ (x : Option LiveBranch). (x >>= (λ l. Some (l ∷ []))) >>= (λ here. Some (here ++ []))) same ∙ plain (extra_branch s k e)
        where
          plain : (x : Option LiveBranch) → ((x >>= (λ l. Some (l ∷ []))) >>= (λ here. Some (here ++ []))) ≡ (x >>= (λ extra. Some (extra ∷ [])))
          plain None = refl
          plain (Some l) = refl
      go false l t same = absurd cc

  -- the branches before, and then it
  abbrev then_extra : Option Branches → Option Branches
  then_extra ls = ls >>= (λ ls. extra_branch s k e >>= (λ extra. Some (ls ++ extra ∷ [])))

  join_last : (here rest : Option Branches) (last : Option LiveBranch)
      → (here >>= (λ xs. (rest >>= (λ ls. last >>= (λ extra. Some (ls ++ extra ∷ [])))) >>= (λ more. Some (xs ++ more)))) ≡ ((here >>= (λ xs. rest >>= (λ more. Some (xs ++ more)))) >>= (λ ls. last >>= (λ extra. Some (ls ++ extra ∷ []))))
  join_last None rest last = refl
  join_last (Some xs) None last = refl
  join_last (Some xs) (Some ls) None = refl
  join_last (Some xs) (Some ls) (Some extra) = ap (λ (l : Branches). Some l) (sym (append_assoc xs ls (extra ∷ [])))

  start : (last : Option LiveBranch) → (last >>= (λ extra. Some (extra ∷ []))) ≡ (last >>= (λ extra. Some ([] ++ extra ∷ [])))
  start None = refl
  start (Some extra) = refl

  three_live : (a b c : Branch) (xs : List Branch) → IsGroup a b c
      → live_branches s o (a ∷ b ∷ c ∷ xs) (a ∷ b ∷ c ∷ xs) ≡ (group_if_live s o a b c a b c >>= (λ here. live_branches s o xs xs >>= (λ more. Some (here ++ more))))
  three_live a b c xs three =
      let first : place_in_group a.law ≡ Some 0 = ap place_in_group three.first.law in
      let second : place_in_group b.law ≡ Some 1 = ap place_in_group three.second.law in
      let third : place_in_group c.law ≡ Some 2 = ap place_in_group three.third.law in
      rw (first, second, third) (go (group_if_live s o a b c a b c) (live_branches s o xs xs))
    where
      go : (here rest : Option Branches)
          → (here >>= (λ here. (rest >>= (λ more. Some ([] ++ more)) >>= (λ more. Some ([] ++ more))) >>= (λ more. Some (here ++ more)))) ≡ (here >>= (λ here. rest >>= (λ more. Some (here ++ more))))
      go None rest = refl
      go (Some here) None = refl
      go (Some here) (Some more) = refl

  live_append : (bs : List Branch) → IsGrouped bs → live_branches s o (bs ++ shunt_at driven e ∷ []) (bs ++ shunt_at driven e ∷ []) ≡ then_extra (live_branches s o bs bs)
  live_append _ done = last_live ∙ start (extra_branch s k e)
  live_append _ (alone b rest u g) =
      let more = live_append rest g in
      rw (uncoupled_place b u)
      (ap (λ (r : Option Branches). (if has_place o b.taps then live_branch s o b b >>= (λ l. Some (l ∷ [])) else Some []) >>= (λ here. r >>= (λ more. Some (here ++ more)))) more
      ∙ join_last (if has_place o b.taps then live_branch s o b b >>= (λ l. Some (l ∷ [])) else Some []) (live_branches s o rest rest) (extra_branch s k e))
  live_append _ (group a b c rest three apart g) =
      three_live a b c (rest ++ shunt_at driven e ∷ []) three
      ∙ ap (λ (r : Option Branches). group_if_live s o a b c a b c >>= (λ here. r >>= (λ more. Some (here ++ more)))) (live_append rest g)
      ∙ join_last (group_if_live s o a b c a b c) (live_branches s o rest rest) (extra_branch s k e)
      ∙ sym (ap then_extra (three_live a b c rest three))

-- one more branch, where the susceptance is above 0
extra_above : (s k : ℕ) (e : Ratio) (branches : Option Branches) → int_lt (pos 0) e.num ≡ true
    → (branches >>= with_extra_branch s k e) ≡ (branches >>= (λ ls. extra_branch s k e >>= (λ extra. Some (ls ++ extra ∷ []))))
extra_above s k e branches above = go branches
  where
    go : (b : Option Branches) → (b >>= with_extra_branch s k e) ≡ (b >>= (λ ls. extra_branch s k e >>= (λ extra. Some (ls ++ extra ∷ []))))
    go None = refl
    go (Some ls) = rw above refl

none_extra : (s k : ℕ) (branches : Option Branches) → (branches >>= with_extra_branch s k nothing) ≡ branches
none_extra s k None = refl
none_extra s k (Some ls) = refl

pub same_near : (s : ℕ) (network : Network) (driven : ℕ) (o : List ℕ) (e : Ratio) (lo hi : ℕ) → IsWhole network → place_of o driven ≡ Some (length o - 1) → int_lt (pos 0) e.num ≡ true
    → impedance_near_with s network network o e lo hi ≡ impedance_near_with s (with_shunt network driven e) (with_shunt network driven e) o nothing lo hi
unfolding impedance_near_with
same_near s network driven o e lo hi whole at above =
    let k = length o - 1 in
    ap (λ (all : Option Branches). valued (node_drops s 0 (length o)) (λ nodes. valued all (near_of s (order_ends s lo hi) nodes)))
    (extra_above s k e (live_branches s o network.branches network.branches) above
    ∙ sym (live_append s o driven k e at network.branches whole.groups)
    ∙ sym (none_extra s k (live_branches s o (with_shunt network driven e).branches (with_shunt network driven e).branches)))
