-- The whole numbers that are computed are those of the laws.
use Rattle.std.proofs.Common.{◌≡◌, ◌∙◌, ◌+◌, ◌-◌, ◌*◌, ◌/◌, ◌^◌, ◌≤◌, ◌<◌, ℕ, zero, suc, Bool, true, false, List, [], ◌∷◌, length, get_or, map, refl, sym, subst, ap, arith, pos, Some}
use Rattle.std.specs.Prelude.{slice_get, ◌==◌, max, if◌then◌else◌}
use Rattle.std.specs.List.{AllZip}
use Rattle.std.specs.Option.{option_map}
use Rattle.std.proofs.Math.Nat.{mul-le-mul_right}
use Rattle.exact_algebra.specs.Ratio.{whole}
use Rattle.exact_algebra.specs.Complex.{complex_numbers}
use Rattle.complex_interval.specs.Ends.{mag_of}
use Rattle.network_theory.specs.Branch.{Tap}
use Rattle.plain_elimination.specs.Matrix.{nought_rectangle}
use Rattle.middle_inverse.specs.Lists.{each, each_two, greatest}
use Rattle.certified_inverse.specs.Certificate.{in_size, ceil_over}
use Rattle.certified_inverse.proofs.Raw.{ceil_over-enough}
use Rattle.admittance_box.specs.Addends.{PlacedTap}
use Rattle.admittance_box.specs.Places.{place_of}
use Rattle.admittance_box.proofs.HeldEntries.{some_suc}
use Rattle.admittance_box.proofs.HeldPairs.{HoldsTap}
use Rattle.admittance_box.proofs.Steps.{bind-some}
use Rattle.branchwise_laws.specs.Link.{Link}
use Rattle.branchwise_laws.specs.Reach.{at_node}
use Rattle.branchwise_laws.specs.Bounds.{EachAt}
use Rattle.branchwise_laws.specs.Places.{place, NodesFirst}
use Rattle.branchwise_laws.specs.Wholes.{rounded_up, count_at, WholeSizes, node_up, edge_up as edge_of, far_up, reach_up, PassesWhole}
use Rattle.branchwise_test.specs.Drops.{DropEnds}
use Rattle.branchwise_test.specs.Sizes.{Bounds}
use Rattle.branchwise_test.specs.Reach.{add_up, products_from, with_edge, edge_from as edge_up, Reached, reach, weights_over, theta_over, Contraction, contraction}
use Rattle.branchwise_test.proofs.Zips.{same_length, each_below, zip_got, each_got, each_length, each_two_got, each_two_length, get_or-map, got}
use Rattle.branchwise_test.proofs.Middles.{kept_is}

-- ---- sums
same_value : {X : Type 0} (a b : X) → Some a ≡ Some b → a ≡ b
same_value a b e = cc

ceil-rounded : (a b : ℕ) → rounded_up a b ≡ ceil_over a b
unfolding ceil_over
ceil-rounded a b = refl

count_same : {X : Type 0} (f g : ℕ → X → ℕ) (xs : List X) → EachAt (λ j x. f j x ≡ g j x) xs → count_at f xs ≡ count_at g xs
count_same f g [] h = refl
count_same f g (x ∷ xs) h = omega (arith, h.0, count_same (λ j. f (suc j)) (λ j. g (suc j)) xs h.1)

add_up_is : (s sum e v r : ℕ) → add_up s sum e v ≡ Some r → sum + rounded_up (e * v) (2 ^ s) ≡ r
add_up_is s sum e v r h = let k = kept_is _ _ h in let q = ceil-rounded (e * v) (2 ^ s) in omega (arith, k, q)

products_are : {X : Type 0} (s : ℕ) (xs : List X) (es vs : List ℕ) (sum r : ℕ) → length es ≡ length xs → length xs ≤ length vs → products_from s sum es vs ≡ Some r
    → sum + count_at (λ j x. rounded_up (get_or es j 0 * get_or vs j 0) (2 ^ s)) xs ≡ r
products_are s [] [] vs sum r l m e = let q : sum ≡ r = same_value _ _ e in omega (arith, q)
products_are s [] (e ∷ es) vs sum r l m h = absurd (omega arith)
products_are s (x ∷ xs) [] vs sum r l m h = absurd (omega arith)
products_are s (x ∷ xs) (e ∷ es) [] sum r l m h = absurd (omega arith)
products_are s (x ∷ xs) (e ∷ es) (v ∷ vs) sum r l m h =
    let (more, h1, h2) = bind-some (add_up s sum e v) (λ more. products_from s more es vs) r h in
    let one = add_up_is s sum e v more h1 in
    let rest = products_are s xs es vs more r (omega arith) (omega arith) h2 in
    omega (arith, one, rest)

-- ---- places
pub place_is : (ordering : List ℕ) (n i : ℕ) → place_of ordering n ≡ Some i → (place ordering n ≡ i) × (i < length ordering)
place_is [] n i e = absurd cc
place_is (m ∷ ordering) n i e = go (m == n) refl e (λ j p. place_is ordering n j p)
  where
    go : (t : Bool) → (m == n) ≡ t → (if t then Some 0 else option_map suc (place_of ordering n)) ≡ Some i → ((j : ℕ) → place_of ordering n ≡ Some j → (place ordering n ≡ j) × (j < length ordering)) → ((if t then 0 else suc (place ordering n)) ≡ i) × (i < suc (length ordering))
    go true k q more = let z : 0 ≡ i = grind arith in (z, omega arith)
    go false k q more =
        let (j, pj, is) = some_suc (place_of ordering n) i q in
        let r = more j pj in
        (ap suc r.0 ∙ is, omega (arith, r.1))

abbrev pub no_link : Link
no_link = record { out = []; taps = []; middle = complex_numbers.nought; rest = complex_numbers.nought; weight = whole (pos 0) }

-- the link at a node's place
pub first_taps : (nodes : List ℕ) (links : List Link) (n i : ℕ) → place_of nodes n ≡ Some i → NodesFirst nodes links → ((get_or links i no_link).taps ≡ at_node n) × (i < length links)
first_taps [] links n i e f = absurd cc
first_taps (m ∷ nodes) [] n i e f = absurd f
first_taps (m ∷ nodes) (l ∷ links) n i e f = go (m == n) refl e (λ j p. first_taps nodes links n j p f.1)
  where
    go : (t : Bool) → (m == n) ≡ t → (if t then Some 0 else option_map suc (place_of nodes n)) ≡ Some i → ((j : ℕ) → place_of nodes n ≡ Some j → ((get_or links j no_link).taps ≡ at_node n) × (j < length links)) → ((get_or (l ∷ links) i no_link).taps ≡ at_node n) × (i < suc (length links))
    go true k q more =
        let at : m ≡ n = grind arith in
        let z : 0 ≡ i = grind arith in
        (subst (λ j. (get_or (l ∷ links) j no_link).taps ≡ at_node n) z (f.0 ∙ ap at_node at), omega arith)
    go false k q more =
        let (j, pj, is) = some_suc (place_of nodes n) i q in
        let r = more j pj in
        (subst (λ t. (get_or (l ∷ links) t no_link).taps ≡ at_node n) is r.0, omega (arith, r.1))

-- ---- one list of sizes
abbrev pub no_drop : DropEnds
no_drop = record { taps = []; pairs = []; middle = nought_rectangle; rest = nought_rectangle }

-- the greatest sizes of the ratios of a drop's taps
abbrev pub mags : DropEnds → List ℕ
mags d = map (λ (t : PlacedTap). mag_of t.ratio) d.taps

-- the numbers by places
abbrev pub sizes_of : List DropEnds → Bounds → List ℕ → List ℕ → WholeSizes
sizes_of drops b xs ws = record {
  eta = λ i j. get_or (get_or b.left i []) j 0;
  kappa = λ i j. get_or (get_or b.transfers i []) j 0;
  mag = λ i p. get_or (get_or (map mags drops) i []) p 0;
  rho = λ j. get_or b.rests j 0;
  x = λ j. get_or xs j 0;
  w = λ j. get_or ws j 0;
}

-- as many as there are nodes and links
pub record AreOf (s : ℕ) (ordering : List ℕ) (links : List Link) (drops : List DropEnds) (b : Bounds) : Type 0 where
  pub nodes : length ordering ≤ length links
  pub taps : AllZip (λ (l : Link) (d : DropEnds). AllZip (HoldsTap s ordering) d.taps l.taps) links drops
  pub left : length b.left ≡ length ordering
  pub left_rows : (i : ℕ) → i < length ordering → length (get_or b.left i []) ≡ length ordering
  pub transfers : length b.transfers ≡ length links
  pub transfer_rows : (i : ℕ) → i < length links → length (get_or b.transfers i []) ≡ length links
  pub rests : length b.rests ≡ length links

module _ (s : ℕ) (ordering : List ℕ) (links : List Link) (drops : List DropEnds) (b : Bounds) (are : AreOf s ordering links drops b) (xs ws : List ℕ) where
  abbrev sizes : WholeSizes
  sizes = sizes_of drops b xs ws

  -- the numbers that are reached from these
  abbrev edge_from : List ℕ → ℕ → List Tap → ℕ
  edge_from vs i f = edge_of s ordering links sizes (λ j. get_or vs j 0) i f

  abbrev reach_from : List ℕ → ℕ → List Tap → ℕ
  reach_from vs i f = reach_up s ordering links sizes (λ j. get_or vs j 0) i f

  record Reaches (vs : List ℕ) (r : Reached) : Type 0 where
    edges : (i : ℕ) → i < length links → edge_from vs i (get_or links i no_link).taps ≡ get_or r.edges i 0
    all : (i : ℕ) → i < length links → reach_from vs i (get_or links i no_link).taps ≡ get_or r.all i 0
    count : length r.all ≡ length links

  edge_is : (N : ℕ → ℕ) (ns : List ℕ) → ((i : ℕ) → i < length ordering → N i ≡ get_or ns i 0) → (ps : List PlacedTap) (ts : List Tap) → AllZip (HoldsTap s ordering) ps ts → (sum r : ℕ) → edge_up s sum ps ns ≡ Some r
      → sum + count_at (λ p t. rounded_up (get_or (map (λ (t : PlacedTap). mag_of t.ratio) ps) p 0 * N (place ordering t.node)) (2 ^ s)) ts ≡ r
  edge_is N ns h [] [] z sum r e = let q : sum ≡ r = same_value _ _ e in omega (arith, q)
  edge_is N ns h [] (t ∷ ts) z sum r e = absurd z
  edge_is N ns h (p ∷ ps) [] z sum r e = absurd z
  edge_is N ns h (p ∷ ps) (t ∷ ts) z sum r e =
      let (more, e0, n2) = bind-some (with_edge s sum p ns) (λ more. edge_up s more ps ns) r e in
      let (n, e1, e2) = bind-some (slice_get ns p.place) (add_up s sum (mag_of p.ratio)) more e0 in
      let (is, below) = place_is ordering t.node p.place z.0.place in
      let here : N (place ordering t.node) ≡ n = ap N is ∙ (h p.place below ∙ got 0 ns p.place n e1) in
      let one = add_up_is s sum (mag_of p.ratio) n more e2 in
      let k : rounded_up (mag_of p.ratio * N (place ordering t.node)) (2 ^ s) ≡ rounded_up (mag_of p.ratio * n) (2 ^ s) = ap (λ m. rounded_up (mag_of p.ratio * m) (2 ^ s)) here in
      let rest = edge_is N ns h ps ts z.1 more r n2 in
      omega (arith, one, k, rest)

  reach_is : (vs : List ℕ) → length vs ≡ length links → (r : Reached) → reach s b drops vs ≡ Some r → Reaches vs r
  reach_is vs lv r e =
      let (nodes, e1, n1) = bind-some _ _ r e in
      let (edges, e2, n2) = bind-some _ _ r n1 in
      let (far, e3, n3) = bind-some _ _ r n2 in
      let (all, e4, n4) = bind-some _ _ r n3 in
      let is : record { edges = edges; all = all } ≡ r = some_same _ _ n4 in
      subst (Reaches vs) is (from nodes edges far all e1 e2 e3 e4)
    where
      some_same : {X : Type 0} (x y : X) → Some x ≡ Some y → x ≡ y
      some_same x y e = cc

      from : (nodes edges far all : List ℕ) → each (λ row. products_from s 0 row vs) b.left ≡ Some nodes → each (λ (d : DropEnds). edge_up s 0 d.taps nodes) drops ≡ Some edges
          → each_two (add_up s 0) b.rests vs ≡ Some far → each_two (λ edge row. products_from s edge row far) edges b.transfers ≡ Some all → Reaches vs (record { edges = edges; all = all })
      from nodes edges far all e1 e2 e3 e4 = record {
        edges = edges_are;
        all = λ i l.
            let a = products_are s links (get_or b.transfers i []) far (get_or edges i 0) (get_or all i 0) (are.transfer_rows i l) (omega (arith, far_length)) (each_two_got (λ edge row. products_from s edge row far) 0 [] 0 edges b.transfers all e4 i (omega (arith, edge_length))) in
            let c = far_count i l in
            let k = edges_are i l in
            omega (arith, k, a, c);
        count = let q = (each_two_length (λ edge row. products_from s edge row far) edges b.transfers all e4).1 in omega (arith, edge_length, q);
      }
        where
          drop_length : length links ≡ length drops
          drop_length = same_length (λ (l : Link) (d : DropEnds). AllZip (HoldsTap s ordering) d.taps l.taps) links drops are.taps

          edge_length : length edges ≡ length links
          edge_length = let q = each_length (λ (d : DropEnds). edge_up s 0 d.taps nodes) drops edges e2 in omega (arith, q, drop_length)

          node_is : (i : ℕ) → i < length ordering → node_up s ordering links sizes (λ j. get_or vs j 0) i ≡ get_or nodes i 0
          node_is i l =
              let q = products_are s ordering (get_or b.left i []) vs 0 (get_or nodes i 0) (are.left_rows i l) (let m = are.nodes in omega (arith, m, lv)) (each_got (λ row. products_from s 0 row vs) [] 0 b.left nodes e1 i (let m = are.left in omega (arith, m, l))) in
              omega (arith, q)

          edges_are : (i : ℕ) → i < length links → edge_from vs i (get_or links i no_link).taps ≡ get_or edges i 0
          edges_are i l =
              subst (λ ms. count_at (λ p t. rounded_up (get_or ms p 0 * node_up s ordering links sizes (λ j. get_or vs j 0) (place ordering t.node)) (2 ^ s)) (get_or links i no_link).taps ≡ get_or edges i 0)
              (sym (get_or-map mags no_drop [] drops i (omega (arith, drop_length, l))))
              (let q = edge_is (node_up s ordering links sizes (λ j. get_or vs j 0)) nodes node_is (get_or drops i no_drop).taps (get_or links i no_link).taps
              (zip_got (λ (l : Link) (d : DropEnds). AllZip (HoldsTap s ordering) d.taps l.taps) no_link no_drop links drops are.taps i l) 0 (get_or edges i 0)
              (each_got (λ (d : DropEnds). edge_up s 0 d.taps nodes) no_drop 0 drops edges e2 i (omega (arith, drop_length, l))) in omega (arith, q))

          far_is : (j : ℕ) → j < length links → far_up s ordering links sizes (λ j. get_or vs j 0) j ≡ get_or far j 0
          far_is j l = let q = add_up_is s 0 (get_or b.rests j 0) (get_or vs j 0) (get_or far j 0) (each_two_got (add_up s 0) 0 0 0 b.rests vs far e3 j (let m = are.rests in omega (arith, m, l))) in omega (arith, q)

          far_length : length far ≡ length links
          far_length = let q = (each_two_length (add_up s 0) b.rests vs far e3).1 in let r = are.rests in omega (arith, q, r)

          far_count : (i : ℕ) → i < length links → count_at (λ j g. rounded_up (sizes.kappa i j * far_up s ordering links sizes (λ j. get_or vs j 0) j) (2 ^ s)) links ≡ count_at (λ j g. rounded_up (sizes.kappa i j * get_or far j 0) (2 ^ s)) links
          far_count i l =
              count_same (λ j g. rounded_up (sizes.kappa i j * far_up s ordering links sizes (λ j. get_or vs j 0) j) (2 ^ s)) (λ j g. rounded_up (sizes.kappa i j * get_or far j 0) (2 ^ s)) links
              (each_below (λ j g. rounded_up (sizes.kappa i j * far_up s ordering links sizes (λ j. get_or vs j 0) j) (2 ^ s) ≡ rounded_up (sizes.kappa i j * get_or far j 0) (2 ^ s)) no_link links
              (λ j q. ap (λ m. rounded_up (sizes.kappa i j * m) (2 ^ s)) (far_is j q)))

  -- ---- the contraction
  weight_is : (ss weights : List ℕ) → weights_over ss ≡ Some weights → (i : ℕ) → i < length ss → get_or ss i 0 + greatest ss / 2 ^ 20 + 65536 ≡ get_or weights i 0
  weight_is ss weights e i l = kept_is _ _ (each_got (λ n. in_size (n + greatest ss / 2 ^ 20 + 65536)) 0 0 ss weights e i l)

  theta_bound : (ts weights : List ℕ) (i : ℕ) → i < length ts → length ts ≡ length weights → ceil_over (get_or ts i 0 * 2 ^ s) (get_or weights i 0) ≤ theta_over s ts weights
  theta_bound [] weights i l q = absurd (omega arith)
  theta_bound (t ∷ ts) [] i l q = absurd (omega arith)
  theta_bound (t ∷ ts) (w ∷ weights) zero l q = left_most (ceil_over (t * 2 ^ s) w) (theta_over s ts weights)
    where
      left_most : (a b : ℕ) → a ≤ max a b
      left_most a b = omega arith
  theta_bound (t ∷ ts) (w ∷ weights) (suc i) l q = right_most (ceil_over (t * 2 ^ s) w) (theta_over s ts weights) _ (theta_bound ts weights i (omega arith) (omega arith))
    where
      right_most : (a b c : ℕ) → c ≤ b → c ≤ max a b
      right_most a b c h = omega (arith, h)

-- the steps of a contraction
pub record Contracts (s k : ℕ) (b : Bounds) (drops : List DropEnds) (xs : List ℕ) (c : Contraction) : Type 0 where
  pub first : Reached
  pub weights : List ℕ
  pub second : Reached
  pub first_is : reach s b drops xs ≡ Some first
  pub weights_are : weights_over first.all ≡ Some weights
  pub second_is : reach s b drops weights ≡ Some second
  pub theta_is : theta_over s second.all weights ≡ c.theta
  pub edge_is : slice_get first.edges k ≡ Some c.edge
  pub last_is : slice_get second.all k ≡ Some c.last

pub contracts : (s k : ℕ) (b : Bounds) (drops : List DropEnds) (xs : List ℕ) (c : Contraction) → contraction s k b drops xs ≡ Some c → Contracts s k b drops xs c
contracts s k b drops xs c e =
    let (first, e1, n1) = bind-some _ _ c e in
    let (weights, e2, n2) = bind-some _ _ c n1 in
    let (second, e3, n3) = bind-some _ _ c n2 in
    let (theta, e4, n4) = bind-some _ _ c n3 in
    let (edge, e5, n5) = bind-some _ _ c n4 in
    let (last, e6, n6) = bind-some _ _ c n5 in
    let is : record { theta = theta; edge = edge; last = last } ≡ c = some_same _ _ n6 in
    subst (Contracts s k b drops xs) is (record {
      first = first;
      weights = weights;
      second = second;
      first_is = e1;
      weights_are = e2;
      second_is = e3;
      theta_is = kept_is _ _ e4;
      edge_is = e5;
      last_is = e6;
    })
  where
    some_same : {X : Type 0} (x y : X) → Some x ≡ Some y → x ≡ y
    some_same x y e = cc

-- it passes the test of the laws
module _ (s : ℕ) (ordering : List ℕ) (links : List Link) (drops : List DropEnds) (b : Bounds) (are : AreOf s ordering links drops b) (xs : List ℕ) (lx : length xs ≡ length links)
    (first : NodesFirst ordering links) (driven k : ℕ) (pk : place_of ordering driven ≡ Some k) (c : Contraction) (C : Contracts s k b drops xs c) (below : c.theta < 2 ^ s) (error : ℕ) (enough : c.edge + ceil_over (c.last * 2 ^ s) (2 ^ s - c.theta) ≡ error) where
  abbrev here_sizes : WholeSizes
  here_sizes = sizes_of drops b xs C.weights

  r1 : Reaches s ordering links drops b are xs C.weights xs C.first
  r1 = reach_is s ordering links drops b are xs C.weights xs lx C.first C.first_is

  weights_length : length C.weights ≡ length links
  weights_length = let q = each_length (λ n. in_size (n + greatest C.first.all / 2 ^ 20 + 65536)) C.first.all C.weights C.weights_are in let r = r1.count in omega (arith, q, r)

  r2 : Reaches s ordering links drops b are xs C.weights C.weights C.second
  r2 = reach_is s ordering links drops b are xs C.weights C.weights weights_length C.second C.second_is

  weight : (i : ℕ) → i < length links → get_or C.first.all i 0 + greatest C.first.all / 2 ^ 20 + 65536 ≡ get_or C.weights i 0
  weight i l = weight_is s ordering links drops b are xs C.weights C.first.all C.weights C.weights_are i (let r = r1.count in omega (arith, l, r))

  over : (t w q theta p : ℕ) → t * p ≤ q * w → q ≤ theta → t * p ≤ theta * w
  over t w q theta p a h = let m : q * w ≤ theta * w = mul-le-mul_right w h in omega (arith, a, m)

  shrinks : (i : ℕ) → i < length links → reach_up s ordering links here_sizes (λ j. get_or C.weights j 0) i (get_or links i no_link).taps * 2 ^ s ≤ c.theta * get_or C.weights i 0
  shrinks i l =
      let t = get_or C.second.all i 0 in
      let w = get_or C.weights i 0 in
      let wi = weight i l in
      let most : ceil_over (t * 2 ^ s) w ≤ c.theta = subst (λ q. ceil_over (t * 2 ^ s) w ≤ q) C.theta_is (theta_bound s ordering links drops b are xs C.weights C.second.all C.weights i (let r = r2.count in omega (arith, l, r)) (let r = r2.count in omega (arith, r, weights_length))) in
      subst (λ q. q * 2 ^ s ≤ c.theta * w) (sym (r2.all i l)) (over t w (ceil_over (t * 2 ^ s) w) c.theta (2 ^ s) (ceil_over-enough (t * 2 ^ s) w (omega (arith, wi))) most)

  at_driven : edge_of s ordering links here_sizes (λ j. get_or xs j 0) (place ordering driven) (at_node driven) + rounded_up (reach_up s ordering links here_sizes (λ j. get_or C.weights j 0) (place ordering driven) (at_node driven) * 2 ^ s) (2 ^ s - c.theta) ≤ error
  at_driven =
      let (here, below_nodes) = place_is ordering driven k pk in
      let (taps, lk) = first_taps ordering links driven k pk first in
      let e1 = r1.edges k lk ∙ got 0 C.first.edges k c.edge C.edge_is in
      let e2 = r2.all k lk ∙ got 0 C.second.all k c.last C.last_is in
      subst (λ i. edge_of s ordering links here_sizes (λ j. get_or xs j 0) i (at_node driven) + rounded_up (reach_up s ordering links here_sizes (λ j. get_or C.weights j 0) i (at_node driven) * 2 ^ s) (2 ^ s - c.theta) ≤ error) (sym here)
      (subst (λ f. edge_of s ordering links here_sizes (λ j. get_or xs j 0) k f + rounded_up (reach_up s ordering links here_sizes (λ j. get_or C.weights j 0) k f * 2 ^ s) (2 ^ s - c.theta) ≤ error) taps
      (subst (λ q. q + rounded_up (reach_up s ordering links here_sizes (λ j. get_or C.weights j 0) k (get_or links k no_link).taps * 2 ^ s) (2 ^ s - c.theta) ≤ error) (sym e1)
      (subst (λ q. c.edge + rounded_up (q * 2 ^ s) (2 ^ s - c.theta) ≤ error) (sym e2)
      (let r = ceil-rounded (c.last * 2 ^ s) (2 ^ s - c.theta) in omega (arith, r, enough)))))

  pub passes : PassesWhole s ordering links (sizes_of drops b xs C.weights) c.theta driven error
  passes =
      record {
        below = below;
        positive = each_below (λ i f. 1 ≤ get_or C.weights i 0) no_link links (λ i l. let w = weight i l in omega (arith, w));
        covers = each_below (λ i f. reach_up s ordering links here_sizes (λ j. get_or xs j 0) i f.taps ≤ get_or C.weights i 0) no_link links (λ i l. let w = weight i l in let a = r1.all i l in omega (arith, w, a));
        shrinks = each_below (λ i f. reach_up s ordering links here_sizes (λ j. get_or C.weights j 0) i f.taps * 2 ^ s ≤ c.theta * get_or C.weights i 0) no_link links shrinks;
        enough = at_driven;
      }
