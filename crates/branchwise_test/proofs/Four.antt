-- The taps of the four branches of an even group, and its pairs, one after another.
use Rattle.std.proofs.Common.{◌≡◌, ◌∙◌, ℕ, List, [], ◌∷◌, ◌++◌, sym, subst, ap, pos, Option, append_assoc}
use Rattle.std.specs.Prelude.{Some}
use Rattle.std.specs.List.{AllZip}
use Rattle.exact_algebra.specs.Ratio.{Ratio, ◌≈◌ as ◌≈ᵣ◌, whole, difference, opposite}
use Rattle.exact_algebra.proofs.Holding.{holds_along}
use Rattle.exact_algebra.proofs.Ratios.{ratio_ring}
use Rattle.exact_algebra.proofs.Reader.{reads, ring, none_left}
use Rattle.complex_interval.specs.Ends.{Encloses, sub_ends}
use Rattle.complex_interval.proofs.Held.{sub_encloses}
use Rattle.network_theory.specs.Branch.{Tap, Branch}
use Rattle.network_theory.specs.Between.{BranchUpTo}
use Rattle.network_theory.specs.Network.{Network}
use Rattle.network_theory.specs.Nodal.{ListsLive}
use Rattle.network_theory.proofs.Bridge.{contains_among}
use Rattle.middle_inverse.specs.Lists.{and_then, each}
use Rattle.certified_inverse.proofs.Rows.{and_then-some}
use Rattle.admittance_box.specs.Addends.{PlacedTap, live_taps}
use Rattle.admittance_box.specs.Exact.{zero_ends}
use Rattle.admittance_box.proofs.HeldPairs.{HoldsTap}
use Rattle.admittance_box.proofs.HeldTaps.{AreDead, StandsFor, live, dead, taps_stand}
use Rattle.admittance_box.proofs.Ranges.{zero_encloses}
use Rattle.admittance_box.proofs.Steps.{bind-some}
use Rattle.branchwise_laws.specs.Pairs.{opposed, IsTrimmed, all, kept, dropped}
use Rattle.branchwise_test.specs.Drops.{opposed_tap}

-- ---- taps that hold those of a network
pub zip_append : {X Y : Type 0} (P : X → Y → Type 0) (xs : List X) (us : List Y) (ys : List X) (vs : List Y) → AllZip P xs us → AllZip P ys vs → AllZip P (xs ++ ys) (us ++ vs)
zip_append P [] [] ys vs a b = b
zip_append P [] (u ∷ us) ys vs a b = absurd a
zip_append P (x ∷ xs) [] ys vs a b = absurd a
zip_append P (x ∷ xs) (u ∷ us) ys vs a b = (a.0, zip_append P xs us ys vs a.1 b)

less_nought : (x : Ratio) → difference (whole (pos 0)) x ≈ᵣ opposite x
less_nought x = ring ratio_ring (x ∷ []) (search reads depth 40 fits 4000) none_left

opposed_one : (s : ℕ) (ordering : List ℕ) (p o : PlacedTap) (v : Tap) → HoldsTap s ordering p v → opposed_tap p ≡ Some o → HoldsTap s ordering o (record { node = v.node; ratio = opposite v.ratio })
opposed_one s ordering p o v h e =
    let (ratio, e1, n1) = bind-some (sub_ends zero_ends p.ratio) (λ ratio. Some (record { place = p.place; ratio = ratio })) o e in
    let is : record { place = p.place; ratio = ratio } ≡ o = cc in
    subst (λ (q : PlacedTap). HoldsTap s ordering q (record { node = v.node; ratio = opposite v.ratio })) is
    (record { place = h.place; ratio = holds_along _ _ s _ _ (less_nought v.ratio) (sub_encloses s zero_ends p.ratio (whole (pos 0)) v.ratio (zero_encloses s) h.ratio ratio e1) })

pub opposed_hold : (s : ℕ) (ordering : List ℕ) (ps os : List PlacedTap) (vs : List Tap) → AllZip (HoldsTap s ordering) ps vs → each opposed_tap ps ≡ Some os → AllZip (HoldsTap s ordering) os (opposed vs)
opposed_hold s ordering [] os [] h e = let is : [] ≡ os = cc in subst (λ l. AllZip (HoldsTap s ordering) l []) is tt
opposed_hold s ordering [] os (v ∷ vs) h e = absurd h
opposed_hold s ordering (p ∷ ps) os [] h e = absurd h
opposed_hold s ordering (p ∷ ps) os (v ∷ vs) h e =
    let (o, e1, n1) = and_then-some (opposed_tap p) (λ o. and_then (each opposed_tap ps) (λ os. Some (o ∷ os))) os e in
    let (rest, e2, n2) = and_then-some (each opposed_tap ps) (λ os. Some (o ∷ os)) os n1 in
    let is : o ∷ rest ≡ os = cc in
    subst (λ l. AllZip (HoldsTap s ordering) l (opposed (v ∷ vs))) is (opposed_one s ordering p o v h.0 e1, opposed_hold s ordering ps rest vs h.1 e2)

-- ---- taps without those at dead nodes
module _ (network : Network) where
  all_kept : (ts : List Tap) → IsTrimmed network ts ts
  all_kept [] = all
  all_kept (t ∷ ts) = kept t ts ts (all_kept ts)

  pub trimmed_append : (ts us vs ws : List Tap) → IsTrimmed network ts us → IsTrimmed network vs ws → IsTrimmed network (ts ++ vs) (us ++ ws)
  trimmed_append _ _ vs ws all b = b
  trimmed_append _ _ vs ws (kept t ts us a) b = kept t (ts ++ vs) (us ++ ws) (trimmed_append ts us vs ws a b)
  trimmed_append _ _ vs ws (dropped t ts us d a) b = dropped t (ts ++ vs) (us ++ ws) d (trimmed_append ts us vs ws a b)

  pub trimmed_opposed : (ts us : List Tap) → IsTrimmed network ts us → IsTrimmed network (opposed ts) (opposed us)
  trimmed_opposed _ _ all = all
  trimmed_opposed _ _ (kept t ts us a) = kept (record { node = t.node; ratio = opposite t.ratio }) (opposed ts) (opposed us) (trimmed_opposed ts us a)
  trimmed_opposed _ _ (dropped t ts us d a) = dropped (record { node = t.node; ratio = opposite t.ratio }) (opposed ts) (opposed us) d (trimmed_opposed ts us a)

  module _ (s : ℕ) (ordering : List ℕ) (listed : ListsLive network ordering) where
    -- those of a branch of a group: all, or none where its nodes are dead
    pub record PhaseTaps (full : List Tap) (taps : List PlacedTap) : Type 0 where
      pub less : List Tap
      pub held : AllZip (HoldsTap s ordering) taps less
      pub trimmed : IsTrimmed network full less

    no_taps : (ts : List Tap) → AreDead ordering ts → IsTrimmed network ts []
    no_taps [] d = all
    no_taps (t ∷ ts) d = dropped t ts [] (λ l. d.0 (contains_among t.node ordering ((listed.live t.node).0 l))) (no_taps ts d.1)

    standing : (taps : List PlacedTap) (full : List Tap) → StandsFor s ordering taps full → PhaseTaps full taps
    standing _ _ (live ps vs h) = record { less = vs; held = h; trimmed = all_kept vs }
    standing _ _ (dead vs d) = record { less = []; held = tt; trimmed = no_taps vs d }

    pub phase_taps : (a c b : Branch) (taps : List PlacedTap) → BranchUpTo a b → BranchUpTo b c → live_taps s ordering a c ≡ Some taps → PhaseTaps b.taps taps
    phase_taps a c b taps p q e = standing taps b.taps (taps_stand s ordering a c b taps p q e)

    pub both_taps : (ts us : List Tap) (ps qs : List PlacedTap) → PhaseTaps ts ps → PhaseTaps us qs → PhaseTaps (ts ++ us) (ps ++ qs)
    both_taps ts us ps qs a b = record {
      less = a.less ++ b.less;
      held = zip_append (HoldsTap s ordering) ps a.less qs b.less a.held b.held;
      trimmed = trimmed_append ts a.less us b.less a.trimmed b.trimmed;
    }

    pub opposed_taps : (ts : List Tap) (ps qs : List PlacedTap) → PhaseTaps ts ps → each opposed_tap ps ≡ Some qs → PhaseTaps (opposed ts) qs
    opposed_taps ts ps qs a e = record { less = opposed a.less; held = opposed_hold s ordering ps qs a.less a.held e; trimmed = trimmed_opposed ts a.less a.trimmed }

-- ---- four after others
pub four_after : {X : Type 0} (xs : List X) (p q r t : X) → (((xs ++ p ∷ []) ++ q ∷ []) ++ r ∷ []) ++ t ∷ [] ≡ xs ++ p ∷ q ∷ r ∷ t ∷ []
four_after xs p q r t =
    append_assoc ((xs ++ p ∷ []) ++ q ∷ []) (r ∷ []) (t ∷ []) ∙ (append_assoc (xs ++ p ∷ []) (q ∷ []) (r ∷ t ∷ []) ∙ append_assoc xs (p ∷ []) (q ∷ r ∷ t ∷ []))
