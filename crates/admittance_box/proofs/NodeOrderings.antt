-- The node ordering lists the live nodes, each once, with the driven node last.
use Rattle.std.proofs.Common.{◌≡◌, ◌≢◌, ℕ, zero, suc, ◌+◌, ◌-◌, ◌<◌, ◌≤◌, Bool, true, false, List, [], ◌∷◌, ◌++◌, length, get_or, refl, sym, subst, ◌∙◌, arith, inl, inr, ◌⊎◌, length-append}
use Rattle.std.specs.Prelude.{◌&&◌, ◌==◌, not, if◌then◌else◌}
use Rattle.std.specs.List.{AllByRecursion}
use Rattle.network_theory.specs.Network.{Network, IsWhole}
use Rattle.network_theory.specs.Live.{Live}
use Rattle.network_theory.specs.Between.{IsPair}
use Rattle.network_theory.specs.Nodal.{IsDistinct, ListsLive, IsLast}
use Rattle.network_theory.proofs.Bridge.{among_contains, contains_among}
use Rattle.network_theory.proofs.Carried.{IsAmong}
use Rattle.network_theory.proofs.Numbers.{same_node}
use Rattle.network_theory.proofs.Phases.{live_is_node}
use Rattle.admittance_box.specs.Places.{live_from, IsNodeOrdering}
use Rattle.admittance_box.proofs.LivePairs.{live_up, live_down}

-- what is in one of two lists
pub among-append : (n : ℕ) (xs ys : List ℕ) → IsAmong n (xs ++ ys) → IsAmong n xs ⊎ IsAmong n ys
among-append n [] ys i = inr i
among-append n (x ∷ xs) ys (inl e) = inl (inl e)
among-append n (x ∷ xs) ys (inr i) = elim (among-append n xs ys i) [ inl j ↦ inl (inr j) | inr j ↦ inr j ]

pub among_left : (n : ℕ) (xs ys : List ℕ) → IsAmong n xs → IsAmong n (xs ++ ys)
among_left n [] ys i = absurd i
among_left n (x ∷ xs) ys (inl e) = inl e
among_left n (x ∷ xs) ys (inr i) = inr (among_left n xs ys i)

pub among_right : (n : ℕ) (xs ys : List ℕ) → IsAmong n ys → IsAmong n (xs ++ ys)
among_right n [] ys i = i
among_right n (x ∷ xs) ys i = inr (among_right n xs ys i)

apart_of : (n : ℕ) (xs : List ℕ) → ¬ IsAmong n xs → AllByRecursion (λ m. n ≢ m) xs
apart_of n [] h = tt
apart_of n (x ∷ xs) h = (λ e. h (inl e), apart_of n xs (λ i. h (inr i)))

distinct-append : (xs ys : List ℕ) → IsDistinct xs → IsDistinct ys → ((n : ℕ) → IsAmong n xs → IsAmong n ys → ⊥) → IsDistinct (xs ++ ys)
distinct-append [] ys d e h = e
distinct-append (x ∷ xs) ys d e h = (
  apart_of x (xs ++ ys) (λ i. elim (among-append x xs ys i) [ inl j ↦ not_here x xs d.0 j | inr j ↦ h x (inl refl) j ]),
  distinct-append xs ys d.1 e (λ n i j. h n (inr i) j),
)
  where
    not_here : (x : ℕ) (xs : List ℕ) → AllByRecursion (λ m. x ≢ m) xs → IsAmong x xs → ⊥
    not_here x [] a i = i
    not_here x (m ∷ xs) a (inl e) = a.0 e
    not_here x (m ∷ xs) a (inr i) = not_here x xs a.1 i

module _ (live : ℕ → Bool) (driven : ℕ) where
  -- a node that is taken
  record IsTaken (from count n : ℕ) : Type 0 where
    low : from ≤ n
    high : n < from + count
    marked : live n ≡ true
    other : n ≢ driven

  taken_more : (from count n : ℕ) → IsTaken (suc from) count n → IsTaken from (suc count) n
  taken_more from count n t = record { low = let l = t.low in omega arith; high = let l = t.high in omega arith; marked = t.marked; other = t.other }

  taken_go : (from count n : ℕ) (rest : List ℕ) → (IsAmong n rest → IsTaken (suc from) count n) → (t u : Bool) → live from ≡ t → (from == driven) ≡ u → IsAmong n (if t && not u then from ∷ rest else rest) → IsTaken from (suc count) n
  taken_go from count n rest more true false p q (inl e) = record { low = omega arith; high = omega arith; marked = subst (λ k. live k ≡ true) (sym e) p; other = λ k. grind arith }
  taken_go from count n rest more true false p q (inr j) = taken_more from count n (more j)
  taken_go from count n rest more true true p q j = taken_more from count n (more j)
  taken_go from count n rest more false u p q j = taken_more from count n (more j)

  taken_of : (from count n : ℕ) → IsAmong n (live_from live driven from count) → IsTaken from count n
  taken_of from zero n i = absurd i
  taken_of from (suc count) n i = taken_go from count n (live_from live driven (suc from) count) (taken_of (suc from) count n) (live from) (from == driven) refl refl i

  taken_less : (from count n : ℕ) → from ≢ n → IsTaken from (suc count) n → IsTaken (suc from) count n
  taken_less from count n ne t = record { low = let l = t.low in omega arith; high = let h = t.high in omega arith; marked = t.marked; other = t.other }

  among_go : (from count n : ℕ) (rest : List ℕ) → IsTaken from (suc count) n → (IsTaken (suc from) count n → IsAmong n rest) → Dec (from ≡ n) → (t u : Bool) → live from ≡ t → (from == driven) ≡ u → IsAmong n (if t && not u then from ∷ rest else rest)
  among_go from count n rest t more (yes e) true false p q = inl (sym e)
  among_go from count n rest t more (yes e) true true p q = absurd (t.other (sym e ∙ (grind arith)))
  among_go from count n rest t more (yes e) false u p q = absurd (let m = t.marked in let f : live n ≡ false = subst (λ j. live j ≡ false) e p in cc)
  among_go from count n rest t more (no ne) true false p q = inr (more (taken_less from count n ne t))
  among_go from count n rest t more (no ne) true true p q = more (taken_less from count n ne t)
  among_go from count n rest t more (no ne) false u p q = more (taken_less from count n ne t)

  among_of : (from count n : ℕ) → IsTaken from count n → IsAmong n (live_from live driven from count)
  among_of from zero n t = let l = t.low in let h = t.high in absurd (omega arith)
  among_of from (suc count) n t = among_go from count n (live_from live driven (suc from) count) t (among_of (suc from) count n) (same_node from n) (live from) (from == driven) refl refl

  distinct_go : (from : ℕ) (rest : List ℕ) → ¬ IsAmong from rest → IsDistinct rest → (t : Bool) → IsDistinct (if t then from ∷ rest else rest)
  distinct_go from rest h d true = (apart_of from rest h, d)
  distinct_go from rest h d false = d

  distinct_from : (from count : ℕ) → IsDistinct (live_from live driven from count)
  distinct_from from zero = tt
  distinct_from from (suc count) =
      distinct_go from (live_from live driven (suc from) count) (λ i. let l = (taken_of (suc from) count from i).low in omega arith) (distinct_from (suc from) count) (live from && not (from == driven))

pub below_or : (n m : ℕ) → (n < m) ⊎ (m ≤ n)
below_or n zero = inr (omega arith)
below_or zero (suc m) = inl (omega arith)
below_or (suc n) (suc m) = elim (below_or n m) [ inl h ↦ inl (omega arith) | inr h ↦ inr (omega arith) ]

last_of : (d : ℕ) (xs : List ℕ) → get_or (xs ++ d ∷ []) (length xs) 0 ≡ d
last_of d [] = refl
last_of d (x ∷ xs) = last_of d xs

-- the number of nodes before the driven one, which is last
pub is_last : (network : Network) (driven : ℕ) (ordering : List ℕ) → IsNodeOrdering network driven ordering → (n : ℕ) × IsLast ordering n driven
is_last network driven ordering o =
    let inner = live_from o.live driven network.buses (network.nodes - network.buses) in
    let buses = live_from o.live driven 0 network.buses in
    let xs = inner ++ buses in
    (length xs, subst (λ l. IsLast l (length xs) driven) (sym o.same) (record { count = length-append xs (driven ∷ []) ∙ omega arith; last = last_of driven xs }))

-- the order of one network is that of another of its shape
pub order_along : (a b : Network) (driven : ℕ) (ordering : List ℕ) → IsPair a b → IsNodeOrdering a driven ordering → IsNodeOrdering b driven ordering
order_along a b driven ordering p o = record {
  live = o.live;
  right = λ n. (λ t. live_up a b p n ((o.right n).0 t), λ l. (o.right n).1 (live_down a b p n l));
  same = o.same ∙ by a.buses b.buses a.nodes b.nodes p.buses p.nodes;
}
  where
    by : (m m' k k' : ℕ) → m ≡ m' → k ≡ k' → live_from o.live driven m (k - m) ++ live_from o.live driven 0 m ++ driven ∷ [] ≡ live_from o.live driven m' (k' - m') ++ live_from o.live driven 0 m' ++ driven ∷ []
    by m m' k k' e f = rw (e, f) refl

-- of a whole network in which the driven node is live
pub lists_live : (network : Network) (driven : ℕ) (ordering : List ℕ) → IsWhole network → Live network driven → IsNodeOrdering network driven ordering → ListsLive network ordering
lists_live network driven ordering w l o = subst (ListsLive network) (sym o.same) (record { distinct = distinct; live = λ n. (λ v. among_contains n all (into n v), λ c. out n (contains_among n all c)) })
  where
    inner : List ℕ
    inner = live_from o.live driven network.buses (network.nodes - network.buses)

    buses : List ℕ
    buses = live_from o.live driven 0 network.buses

    all : List ℕ
    all = inner ++ buses ++ driven ∷ []

    other : (n : ℕ) → IsAmong n (inner ++ buses) → n ≢ driven
    other n i = elim (among-append n inner buses i) [ inl j ↦ (taken_of o.live driven network.buses (network.nodes - network.buses) n j).other | inr j ↦ (taken_of o.live driven 0 network.buses n j).other ]

    distinct : IsDistinct (inner ++ buses ++ driven ∷ [])
    distinct =
        distinct-append (inner ++ buses) (driven ∷ [])
        (distinct-append inner buses (distinct_from o.live driven network.buses (network.nodes - network.buses)) (distinct_from o.live driven 0 network.buses)
        (λ n i j. let l = (taken_of o.live driven network.buses (network.nodes - network.buses) n i).low in let h = (taken_of o.live driven 0 network.buses n j).high in omega arith))
        (tt, tt)
        (λ n i j. elim j [ inl e ↦ other n i e | inr k ↦ k ])

    into : (n : ℕ) → Live network n → IsAmong n (inner ++ buses ++ driven ∷ [])
    into n v = by (same_node n driven)
      where
        by : Dec (n ≡ driven) → IsAmong n (inner ++ buses ++ driven ∷ [])
        by (yes e) = among_right n (inner ++ buses) (driven ∷ []) (inl e)
        by (no ne) =
            let marked = (o.right n).1 v in
            let below = live_is_node network w n v in
            among_left n (inner ++ buses) (driven ∷ [])
            (elim (below_or n network.buses) [
              | inl h ↦ among_right n inner buses (among_of o.live driven 0 network.buses n (record { low = omega arith; high = omega arith; marked = marked; other = ne }))
              | inr h ↦ among_left n inner buses (among_of o.live driven network.buses (network.nodes - network.buses) n (record { low = h; high = let b = w.buses in omega arith; marked = marked; other = ne }))
            ])

    out : (n : ℕ) → IsAmong n (inner ++ buses ++ driven ∷ []) → Live network n
    out n i = elim (among-append n (inner ++ buses) (driven ∷ []) i) [
      | inl j ↦ (o.right n).0 (elim (among-append n inner buses j) [ inl k ↦ (taken_of o.live driven network.buses (network.nodes - network.buses) n k).marked | inr k ↦ (taken_of o.live driven 0 network.buses n k).marked ])
      | inr j ↦ elim j [ inl e ↦ subst (Live network) (sym e) l | inr k ↦ absurd k ]
    ]
