-- What is reached, step by step, and weights above 0.
use Rattle.std.proofs.Common.{◌≡◌, ℕ, ◌+◌, ◌^◌, ◌<◌, List, [], ◌∷◌, Bool, true, false, Option, Some, None, nat_le, refl, sym, subst, arith}
use Rattle.std.specs.Prelude.{if◌then◌else◌}
use Rattle.std.specs.List.{All}
use Rattle.std.specs.Option.{option_map}
use Rattle.std.proofs.lemmas.List.Elements.{All-nil, All-cons}
use Rattle.middle_inverse.specs.Lists.{and_then, each, each_two}
use Rattle.certified_inverse.specs.Certificate.{in_size}
use Rattle.certified_inverse.proofs.Rows.{and_then-some}
use Rattle.admittance_box.specs.Steps.{◌>>=◌}
use Rattle.branchwise_test.specs.Drops.{DropEnds}
use Rattle.branchwise_test.specs.Sizes.{Bounds}
use Rattle.branchwise_test.specs.Reach.{add_up, products_from, edge_from, reach}
use Rattle.drop_bench.specs.Bounds.{reached_of}

-- where all steps but the last have values
last_step : (edges : List ℕ) (o : Option (List ℕ)) → (o >>= (λ all. Some (reached_of edges all))) ≡ option_map (reached_of edges) o
last_step edges (Some all) = refl
last_step edges None = refl

pub reach_done : (s : ℕ) (b : Bounds) (drops : List DropEnds) (vs nodes edges far : List ℕ) (o : Option (List ℕ)) → Some nodes ≡ each (λ row. products_from s 0 row vs) b.left → Some edges ≡ each (λ d. edge_from s 0 d.taps nodes) drops
    → Some far ≡ each_two (add_up s 0) b.rests vs → o ≡ each_two (λ edge row. products_from s edge row far) edges b.transfers → option_map (reached_of edges) o ≡ reach s b drops vs
reach_done s b drops vs nodes edges far o e1 e2 e3 e4 = rw (← e1, ← e2, ← e3, ← e4) (sym (last_step edges o))

-- weights are above 0
over_zero : (n m w : ℕ) → in_size (n + m + 65536) ≡ Some w → 0 < w
over_zero n m w e = go (nat_le (n + m + 65536) (2 ^ 62)) e
  where
    go : (t : Bool) → (if t then Some (n + m + 65536) else None) ≡ Some w → 0 < w
    go true e = let q : n + m + 65536 ≡ w = cc in omega (arith, q)
    go false e = absurd cc

pub above_zero : (m : ℕ) (ss ws : List ℕ) → each (λ n. in_size (n + m + 65536)) ss ≡ Some ws → All (λ w. 0 < w) ws
above_zero m [] ws e = let q : [] ≡ ws = cc in subst (λ l. All (λ w. 0 < w) l) q (All-nil (λ w. 0 < w))
above_zero m (n ∷ ss) ws e =
    let (w, e1, e) = and_then-some (in_size (n + m + 65536)) (λ w. and_then (each (λ n. in_size (n + m + 65536)) ss) (λ ws. Some (w ∷ ws))) ws e in
    let (rest, e2, e) = and_then-some (each (λ n. in_size (n + m + 65536)) ss) (λ ws. Some (w ∷ ws)) ws e in
    let q : w ∷ rest ≡ ws = cc in
    subst (λ l. All (λ w. 0 < w) l) q (All-cons (λ w. 0 < w) w rest (over_zero n m w e1) (above_zero m ss rest e2))
