-- An estimate over a box holds.
use Rattle.std.proofs.Common.{◌≡◌, ◌∙◌, ◌+◌, ◌-◌, ◌*◌, ◌^◌, ◌≤◌, ◌<◌, ℕ, suc, Bool, true, false, List, [], ◌∷◌, length, get_or, map, refl, sym, subst, ap, arith, Option, Some, None, Result, Ok, Err, nat_le}
use Rattle.std.specs.Prelude.{slice_get, if◌then◌else◌}
use Rattle.std.specs.List.{AllZip, AllByRecursion}
use Rattle.std.proofs.lemmas.Bool.Decides.{nat_tests}
use Rattle.std.proofs.lemmas.List.{length-map}
use Rattle.exact_algebra.specs.Ratio.{magnitude, ◌≼◌}
use Rattle.exact_algebra.specs.Complex.{Complex, complex_numbers, complex_difference, complex_size}
use Rattle.exact_algebra.proofs.Complexes.{complex_field}
use Rattle.exact_algebra.proofs.Reader.{reads, ring, none_left}
use Rattle.complex_interval.specs.Ends.{mag_of}
use Rattle.complex_interval.specs.Rectangles.{Rectangle, EnclosesComplex, sub_rectangles}
use Rattle.complex_interval.proofs.RectangleLaws.{sub_encloses_rectangle}
use Rattle.network_theory.specs.Order.{Order, IsOrder}
use Rattle.network_theory.specs.Box.{LiesIn}
use Rattle.network_theory.specs.Branch.{Tap}
use Rattle.network_theory.specs.Network.{Network}
use Rattle.network_theory.specs.Between.{LiesBetween}
use Rattle.network_theory.specs.Live.{Live}
use Rattle.network_theory.specs.Admittance.{Part}
use Rattle.network_theory.specs.Nodal.{ListsLive, pair_entry, nodal_entry}
use Rattle.network_theory.specs.State.{drop}
use Rattle.network_theory.proofs.Numbers.{R}
use Rattle.network_theory.proofs.Whole.{split_admittances}
use Rattle.plain_elimination.specs.Matrix.{nought_rectangle}
use Rattle.middle_inverse.specs.Lists.{each, each_two}
use Rattle.middle_inverse.specs.Inverse.{middle_inverse}
use Rattle.middle_inverse.specs.declared.fault.InverseFault.{InverseFault}
use Rattle.middle_inverse.specs.declared.fault.InverseFault.TheVariants.{NoInverse as NoPivot, OutOfRange as NoValue}
use Rattle.certified_inverse.specs.Certificate.{ceil_over, unit_rectangles, AreRectangles}
use Rattle.certified_inverse.proofs.Shape.{inverse_shape}
use Rattle.admittance_box.specs.Addends.{PlacedTap}
use Rattle.admittance_box.specs.BoxMatrix.{nought_rows}
use Rattle.admittance_box.specs.HeldMatrix.{CanAssemble}
use Rattle.admittance_box.specs.Orders.{order_ends}
use Rattle.admittance_box.specs.Places.{place_of}
use Rattle.admittance_box.proofs.HeldEntries.{item_at, entries_same}
use Rattle.admittance_box.proofs.Laws.{nought_held}
use Rattle.admittance_box.proofs.HeldPairs.{Held, held_along, HoldsTap, along}
use Rattle.admittance_box.proofs.LivePairs.{live_up, zip_back}
use Rattle.admittance_box.proofs.NodeOrderings.{is_last, lists_live, order_along}
use Rattle.admittance_box.proofs.Ranges.{order_encloses}
use Rattle.admittance_box.proofs.Steps.{bind-some}
use Rattle.branchwise_laws.specs.Total.{total}
use Rattle.branchwise_laws.specs.Link.{Link, admittance, link_entry, AtLive, AddUp}
use Rattle.branchwise_laws.specs.Bounds.{EachAt}
use Rattle.branchwise_laws.specs.Laws.{IsLinked}
use Rattle.branchwise_laws.specs.Pairs.{Count, none}
use Rattle.branchwise_laws.specs.Places.{NodesFirst}
use Rattle.branchwise_laws.specs.Reach.{left_over, transfer, estimate}
use Rattle.branchwise_laws.specs.Wholes.{units, WholeSizes, AreWholeBounds}
use Rattle.branchwise_laws.proofs.Each.{each_map}
use Rattle.branchwise_laws.proofs.Pairs.{counted_add_up}
use Rattle.branchwise_laws.proofs.Wholes.{whole_test}
use Rattle.branchwise_test.specs.declared.fault.BranchwiseFault.{BranchwiseFault}
use Rattle.branchwise_test.specs.declared.fault.BranchwiseFault.TheVariants.{NotContracting}
use Rattle.branchwise_test.specs.Drops.{DropEnds, LiveBranch, node_drops, live_branches, with_middles}
use Rattle.branchwise_test.specs.Sizes.{Bounds, drop_over, all_voltages, kept_size, left_row, left_sizes, drop_sizes, bounds_of}
use Rattle.branchwise_test.specs.Reach.{Contraction}
use Rattle.branchwise_test.specs.Enclosed.{valued, Near, Found, contracting, correction, near_by, near_with, by_inverse, near_of_drops, near_of}
use Rattle.branchwise_test.specs.Holds.{IsNear}
use Rattle.branchwise_test.proofs.Zips.{same_length, each_holds, zip_at, each_at, zip_got, each_below, get_or-map}
use Rattle.branchwise_test.proofs.Rows.{HoldsRow, matrix_number, matrix_held, drop_over_holds, left_widths}
use Rattle.branchwise_test.proofs.Branches.{HoldsDrop, HoldDrops, places_are, node_link, nodes_hold, nodes_first, nodes_add_nothing, all_live, branches_held}
use Rattle.branchwise_test.proofs.Middles.{kept_is, size_kept, ratio_size, left_bound, middles_hold, voltages_hold, column_holds, transfers_bound, rests_bound, correction_holds}
use Rattle.branchwise_test.proofs.Counts.{no_link, no_drop, mags, sizes_of, AreOf, Contracts, contracts, passes}
open complex_numbers use {◌≈◌, nought, ◌⊕◌, ◌⊗◌, minus}
open complex_field use {same}

-- ---- steps that gave a value
pub valued-ok : {X Y : Type 0} (o : Option X) (f : X → Result Y BranchwiseFault) (y : Y) → valued o f ≡ Ok y → (x : X) × (o ≡ Some x) × (f x ≡ Ok y)
valued-ok None f y e = absurd cc
valued-ok (Some x) f y e = (x, refl, e)

some_same : {X : Type 0} (x y : X) → Some x ≡ Some y → x ≡ y
some_same x y e = cc

ok_same : (a b : Near) → ◌≡◌ {A = Result Near BranchwiseFault} (Ok a) (Ok b) → a ≡ b
ok_same a b e = cc

unless_wide : (s theta : ℕ) (f : BranchwiseFault) (o : Result Near BranchwiseFault) (near : Near) → (if nat_le (2 ^ s) theta then Err f else o) ≡ Ok near → (theta < 2 ^ s) × (o ≡ Ok near)
unless_wide s theta f o near e = go (nat_le (2 ^ s) theta) refl e
  where
    below : nat_le (2 ^ s) theta ≡ false → theta < 2 ^ s
    below q = grind (arith, nat_tests)

    go : (t : Bool) → nat_le (2 ^ s) theta ≡ t → (if t then Err f else o) ≡ Ok near → (theta < 2 ^ s) × (o ≡ Ok near)
    go true q g = absurd cc
    go false q g = (below q, g)

-- ---- links with weights
abbrev weighed : ℕ → (ℕ → ℕ) → List Link → List Link
weighed s w [] = []
weighed s w (l ∷ links) = record l { weight = units s (w 0) } ∷ weighed s (λ j. w (suc j)) links

weighed_weights : (s : ℕ) (w : ℕ → ℕ) (links : List Link) → EachAt (λ j g. g.weight ≡ units s (w j)) (weighed s w links)
weighed_weights s w [] = tt
weighed_weights s w (l ∷ links) = (refl, weighed_weights s (λ j. w (suc j)) links)

weighed_all : (P : Link → Type 0) → ((l : Link) (r : _) → P l → P (record l { weight = r })) → (s : ℕ) (w : ℕ → ℕ) (links : List Link) → AllByRecursion P links → AllByRecursion P (weighed s w links)
weighed_all P f s w [] h = tt
weighed_all P f s w (l ∷ links) h = (f l _ h.0, weighed_all P f s (λ j. w (suc j)) links h.1)

weighed_entry : (s : ℕ) (w : ℕ → ℕ) (links : List Link) (n k : ℕ) → link_entry admittance (weighed s w links) n k ≡ link_entry admittance links n k
weighed_entry s w [] n k = refl
weighed_entry s w (l ∷ links) n k = ap (λ z. pair_entry l.out l.taps (admittance l) n k ⊕ z) (weighed_entry s (λ j. w (suc j)) links n k)

weighed_sum : (s : ℕ) (w : ℕ → ℕ) (network : Network) (parts : List Part) (links : List Link) → AddUp network parts links → AddUp network parts (weighed s w links)
weighed_sum s w network parts links a = record {
  out = weighed_all (λ l. AtLive network l.out) (λ l r h. h) s w links a.out;
  taps = weighed_all (λ l. AtLive network l.taps) (λ l r h. h) s w links a.taps;
  entries = λ n k p q. subst (λ z. nodal_entry parts n k ≈ z) (sym (weighed_entry s w links n k)) (a.entries n k p q);
}

weighed_first : (s : ℕ) (w : ℕ → ℕ) (nodes : List ℕ) (links : List Link) → NodesFirst nodes links → NodesFirst nodes (weighed s w links)
weighed_first s w [] links f = tt
weighed_first s w (n ∷ nodes) [] f = absurd f
weighed_first s w (n ∷ nodes) (l ∷ links) f = (f.0, weighed_first s (λ j. w (suc j)) nodes links f.1)

first_length : (nodes : List ℕ) (links : List Link) → NodesFirst nodes links → length nodes ≤ length links
first_length [] links f = omega arith
first_length (n ∷ nodes) [] f = absurd f
first_length (n ∷ nodes) (l ∷ links) f = let h = first_length nodes links f.1 in omega (arith, h)

-- the taps of a link by those of its drop
taps_sized : (s : ℕ) (ordering : List ℕ) (ps : List PlacedTap) (ts : List Tap) → AllZip (HoldsTap s ordering) ps ts → EachAt (λ p t. magnitude t.ratio ≼ units s (get_or (map (λ (t : PlacedTap). mag_of t.ratio) ps) p 0)) ts
taps_sized s ordering [] [] h = tt
taps_sized s ordering [] (t ∷ ts) h = absurd h
taps_sized s ordering (p ∷ ps) [] h = absurd h
taps_sized s ordering (p ∷ ps) (t ∷ ts) h = (ratio_size s p.ratio t.ratio h.0.ratio, taps_sized s ordering ps ts h.1)

module _ (s : ℕ) (ordering : List ℕ) (network : Network) (listed : ListsLive network ordering) where
  weighed_held : (w : ℕ → ℕ) (drops : List DropEnds) (links : List Link) → HoldDrops s ordering network listed drops links → HoldDrops s ordering network listed drops (weighed s w links)
  weighed_held w [] [] z = tt
  weighed_held w [] (l ∷ links) z = absurd z
  weighed_held w (d ∷ drops) [] z = absurd z
  weighed_held w (d ∷ drops) (l ∷ links) z = (record { taps = z.0.taps; pairs = z.0.pairs; out = z.0.out; live = z.0.live; middle = z.0.middle; rest = z.0.rest }, weighed_held (λ j. w (suc j)) drops links z.1)

-- from all steps
module _ (s : ℕ) (ordering : List ℕ) (network : Network) (listed : ListsLive network ordering) (h : Order) (driven k : ℕ) (live : Live network driven) (place : place_of ordering driven ≡ Some k)
    (parts : List Part) (drops : List DropEnds) (links0 : List Link) (ps cs : List (List Rectangle)) (linked0 : IsLinked network h parts ordering links0) (first0 : NodesFirst ordering links0) (held0 : HoldDrops s ordering network listed drops links0)
    (ep : with_middles s drops (nought_rows (length ordering)) ≡ Some ps) (shape : AreRectangles (length ps) cs)
    (vs : List (List Rectangle)) (column xs : List Rectangle) (sizes : List ℕ) (left transfers : List (List ℕ)) (rests : List ℕ) (c : Contraction) (error : ℕ) (value sum estimated : Rectangle)
    (e1 : all_voltages s cs drops ≡ Some vs) (b1 : left_sizes s cs ps ≡ Some left) (b2 : each (λ (d : DropEnds). drop_sizes s d.taps vs) drops ≡ Some transfers)
    (b3 : each (λ (d : DropEnds). kept_size d.rest) drops ≡ Some rests) (e3 : slice_get vs k ≡ Some column) (e4 : each (λ (d : DropEnds). drop_over s d.taps column) drops ≡ Some xs) (e5 : each kept_size xs ≡ Some sizes)
    (C : Contracts s k (record { left = left; transfers = transfers; rests = rests }) drops sizes c) (below : c.theta < 2 ^ s) (enough : c.edge + ceil_over (c.last * 2 ^ s) (2 ^ s - c.theta) ≡ error) (f2 : slice_get column k ≡ Some value)
    (f3 : correction s k nought_rectangle drops vs xs ≡ Some sum) (f4 : sub_rectangles value sum ≡ Some estimated) where
  abbrev b : Bounds
  b = record { left = left; transfers = transfers; rests = rests }

  abbrev w : ℕ → ℕ
  w j = get_or C.weights j 0

  abbrev links : List Link
  links = weighed s w links0

  abbrev numbers : WholeSizes
  numbers = sizes_of drops b sizes C.weights

  linked : IsLinked network h parts ordering links
  linked = record { admitted = linked0.admitted; listed = linked0.listed; sum = weighed_sum s w network parts links0 linked0.sum }

  first : NodesFirst ordering links
  first = weighed_first s w ordering links0 first0

  held : HoldDrops s ordering network listed drops links
  held = weighed_held s ordering network listed w drops links0 held0

  by_links : AllZip (λ (l : Link) (d : DropEnds). HoldsDrop s ordering network listed d l) links drops
  by_links = zip_back (λ d l. HoldsDrop s ordering network listed d l) (λ l d. HoldsDrop s ordering network listed d l) (λ d l z. z) drops links held

  plain : (a : Complex) → nought ⊕ a ≈ a
  plain a = ring R (a ∷ []) (search reads depth 40 fits 4000) none_left

  taken : (a b : Complex) → complex_difference a (nought ⊕ b) ≈ a ⊕ minus b
  taken a b = ring R (a ∷ b ∷ []) (search reads depth 40 fits 4000) none_left

  middles : Held s ordering (link_entry (λ l. l.middle) links) ps
  middles =
      held_along s ordering (λ n m. nought ⊕ link_entry (λ l. l.middle) links n m) (link_entry (λ l. l.middle) links) ps (λ n m. plain (link_entry (λ l. l.middle) links n m))
      (middles_hold s ordering network listed drops links held (nought_rows (length ordering)) ps (λ n m. nought) ep (entries_same (λ n m a. EnclosesComplex s a nought) nought_rectangle (λ n m. nought_held s) ordering))

  rows_count : length ordering ≡ length ps
  rows_count = same_length (λ n row. HoldsRow s ordering (link_entry (λ l. l.middle) links n) row) ordering ps middles

  left_by_nodes : each_two (left_row s ps) (unit_rectangles s (length ordering)) cs ≡ Some left
  left_by_nodes = subst (λ m. each_two (left_row s ps) (unit_rectangles s m) cs ≡ Some left) (sym rows_count) b1

  abbrev K : ℕ → ℕ → Complex
  K = matrix_number s ordering cs

  K_held : Held s ordering K cs
  K_held = matrix_held s ordering cs listed.distinct (shape.count ∙ sym rows_count) (subst (λ m. AllByRecursion (λ row. length row ≡ m) cs) (sym rows_count) (left_widths s (unit_rectangles s (length ps)) cs ps left b1)) shape.ordered

  voltages : AllZip (λ l v. HoldsRow s ordering (λ n. drop (K n) l.out) v) links vs
  voltages = voltages_hold s ordering network listed K cs K_held drops links held vs e1

  column_held : HoldsRow s ordering (λ n. K n driven) column
  column_held = column_holds s ordering network listed K cs K_held drops links held vs e1 first driven k column place e3

  xs_held : AllZip (λ l x. EnclosesComplex s x (drop (λ n. K n driven) l.taps)) links xs
  xs_held =
      each_holds (λ l d. HoldsDrop s ordering network listed d l) (λ l x. EnclosesComplex s x (drop (λ n. K n driven) l.taps)) (λ (d : DropEnds). drop_over s d.taps column)
      (λ l d x z q. drop_over_holds s ordering (λ n. K n driven) column column_held d.taps l.taps z.taps x q) links drops xs by_links e4

  left_zip : AllZip (λ n row. AllZip (λ n' m. complex_size (left_over ordering K links n n') ≼ units s m) ordering row) ordering left
  left_zip = left_bound s ordering K links ps middles cs left listed.distinct K_held left_by_nodes

  transfers_zip : AllZip (λ f row. AllZip (λ g m. complex_size (transfer K f.taps g.out) ≼ units s m) links row) links transfers
  transfers_zip = transfers_bound s ordering network listed K cs K_held drops links held vs voltages transfers b2

  rests_zip : AllZip (λ l m. complex_size l.rest ≼ units s m) links rests
  rests_zip = rests_bound s ordering network listed K cs K_held drops links held vs voltages rests b3

  sizes_zip : AllZip (λ l m. complex_size (drop (λ n. K n driven) l.taps) ≼ units s m) links sizes
  sizes_zip =
      each_holds (λ l x. EnclosesComplex s x (drop (λ n. K n driven) l.taps)) (λ l m. complex_size (drop (λ n. K n driven) l.taps) ≼ units s m) kept_size
      (λ l x m z q. size_kept s x (drop (λ n. K n driven) l.taps) m z q) links xs sizes xs_held e5

  sizes_length : length sizes ≡ length links
  sizes_length = sym (same_length _ links sizes sizes_zip)

  taps_zip : AllZip (λ (l : Link) (d : DropEnds). AllZip (HoldsTap s ordering) d.taps l.taps) links drops
  taps_zip = zip_back (λ d l. HoldsDrop s ordering network listed d l) (λ (l : Link) (d : DropEnds). AllZip (HoldsTap s ordering) d.taps l.taps) (λ d l z. z.taps) drops links held

  are : AreOf s ordering links drops b
  are = record {
    nodes = first_length ordering links first;
    taps = taps_zip;
    left = sym (same_length _ ordering left left_zip);
    left_rows = λ i q. sym (same_length _ ordering (get_or left i []) (zip_got (λ n row. AllZip (λ n' m. complex_size (left_over ordering K links n n') ≼ units s m) ordering row) 0 [] ordering left left_zip i q));
    transfers = sym (same_length _ links transfers transfers_zip);
    transfer_rows = λ i q. sym (same_length _ links (get_or transfers i []) (zip_got (λ (f : Link) row. AllZip (λ (g : Link) m. complex_size (transfer K f.taps g.out) ≼ units s m) links row) no_link [] links transfers transfers_zip i q));
    rests = sym (same_length _ links rests rests_zip);
  }

  drops_count : length links ≡ length drops
  drops_count = same_length _ links drops taps_zip

  are_bounds : AreWholeBounds s ordering links numbers K driven
  are_bounds = record {
    eta = each_map (λ i n. AllZip (λ n' m. complex_size (left_over ordering K links n n') ≼ units s m) ordering (get_or left i [])) (λ i n. EachAt (λ j n'. complex_size (left_over ordering K links n n') ≼ units s (numbers.eta i j)) ordering)
        (λ i n z. zip_at (λ n' m. complex_size (left_over ordering K links n n') ≼ units s m) 0 ordering (get_or left i []) z) ordering
        (zip_at (λ n row. AllZip (λ n' m. complex_size (left_over ordering K links n n') ≼ units s m) ordering row) [] ordering left left_zip);
    kappa = each_map (λ i (f : Link). AllZip (λ (g : Link) m. complex_size (transfer K f.taps g.out) ≼ units s m) links (get_or transfers i [])) (λ i (f : Link). EachAt (λ j (g : Link). complex_size (transfer K f.taps g.out) ≼ units s (numbers.kappa i j)) links)
        (λ i f z. zip_at (λ (g : Link) m. complex_size (transfer K f.taps g.out) ≼ units s m) 0 links (get_or transfers i []) z) links
        (zip_at (λ (f : Link) row. AllZip (λ (g : Link) m. complex_size (transfer K f.taps g.out) ≼ units s m) links row) [] links transfers transfers_zip);
    mag = each_below (λ i (f : Link). EachAt (λ p (t : Tap). magnitude t.ratio ≼ units s (numbers.mag i p)) f.taps) no_link links
        (λ i q. subst (λ ms. EachAt (λ p (t : Tap). magnitude t.ratio ≼ units s (get_or ms p 0)) (get_or links i no_link).taps) (sym (get_or-map mags no_drop [] drops i (omega (arith, q, drops_count))))
        (taps_sized s ordering (get_or drops i no_drop).taps (get_or links i no_link).taps (zip_got (λ (l : Link) (d : DropEnds). AllZip (HoldsTap s ordering) d.taps l.taps) no_link no_drop links drops taps_zip i q)));
    rho = zip_at (λ (l : Link) m. complex_size l.rest ≼ units s m) 0 links rests rests_zip;
    x = zip_at (λ (l : Link) m. complex_size (drop (λ n. K n driven) l.taps) ≼ units s m) 0 links sizes sizes_zip;
    w = weighed_weights s w links0;
  }

  value_held : EnclosesComplex s value (K driven driven)
  value_held = item_at (λ n a. EnclosesComplex s a (K n driven)) driven ordering column k value place f2 column_held

  sum_held : EnclosesComplex s sum (nought ⊕ total complex_numbers (λ l. drop (K driven) l.out ⊗ drop (λ n. K n driven) l.taps ⊗ l.rest) links)
  sum_held = correction_holds s ordering network listed K cs K_held drops links held vs voltages driven k place drops links vs xs held voltages xs_held nought_rectangle sum nought f3 (nought_held s)

  pub finished : IsNear s network h driven (record { estimate = estimated; error = error })
  finished =
      record {
        number = estimate ordering K links driven;
        held = along s estimated _ _ (taken (K driven driven) (total complex_numbers (λ l. drop (K driven) l.out ⊗ drop (λ n. K n driven) l.taps ⊗ l.rest) links)) (sub_encloses_rectangle s value sum estimated _ _ value_held sum_held f4);
        impedance = whole_test s network h parts ordering links K numbers c.theta driven error linked first live are_bounds (passes s ordering links drops b are sizes sizes_length first driven k place c C below error enough);
      }

module _ (s : ℕ) (ordering : List ℕ) (network : Network) (listed : ListsLive network ordering) (h : Order) (driven k : ℕ) (live : Live network driven) (place : place_of ordering driven ≡ Some k) where
  -- by a matrix with as many rows as there are nodes, and its entries' ends in order
  with_holds : (parts : List Part) (drops : List DropEnds) (links : List Link) (ps cs : List (List Rectangle)) (near : Near) → IsLinked network h parts ordering links → NodesFirst ordering links → HoldDrops s ordering network listed drops links
      → with_middles s drops (nought_rows (length ordering)) ≡ Some ps → AreRectangles (length ps) cs → near_with s k drops ps cs ≡ Ok near → IsNear s network h driven near
  with_holds parts drops links0 ps cs near linked0 first0 held0 ep shape e =
      let (f, e0, n0) = valued-ok _ _ near e in
      let (vs, e1, n1) = bind-some _ _ f e0 in
      let (b, e2, n2) = bind-some _ _ f n1 in
      let (column, e3, n3) = bind-some _ _ f n2 in
      let (xs, e4, n4) = bind-some _ _ f n3 in
      let (sizes, e5, n5) = bind-some _ _ f n4 in
      let (c, e6, n6) = bind-some _ _ f n5 in
      let is : record { voltages = vs; column = column; drops = xs; contraction = c } ≡ f = some_same _ _ n6 in
      let stated : contracting s k drops vs column xs c ≡ Ok near = subst (λ (o : Found). contracting s k drops o.voltages o.column o.drops o.contraction ≡ Ok near) (sym is) n0 in
      let (below, n7) = unless_wide s c.theta (NotContracting c.theta) (valued (near_by s k drops vs column xs c) (λ near. Ok near)) near stated in
      let (found, e7, n8) = valued-ok _ _ near n7 in
      subst (IsNear s network h driven) (ok_same _ _ n8) (by_steps vs b column xs sizes c found e1 e2 e3 e4 e5 (contracts s k b drops sizes c e6) below e7)
    where
      by_steps : (vs : List (List Rectangle)) (b : Bounds) (column xs : List Rectangle) (sizes : List ℕ) (c : Contraction) (found : Near) → all_voltages s cs drops ≡ Some vs → bounds_of s drops ps cs vs ≡ Some b
          → slice_get vs k ≡ Some column → each (λ (d : DropEnds). drop_over s d.taps column) drops ≡ Some xs → each kept_size xs ≡ Some sizes → Contracts s k b drops sizes c → c.theta < 2 ^ s → near_by s k drops vs column xs c ≡ Some found
          → IsNear s network h driven found
      by_steps vs b column xs sizes c found e1 e2 e3 e4 e5 C below e7 =
          let (left, b1, m1) = bind-some _ _ b e2 in
          let (transfers, b2, m2) = bind-some _ _ b m1 in
          let (rests, b3, m3) = bind-some _ _ b m2 in
          let bounds_are : record { left = left; transfers = transfers; rests = rests } ≡ b = some_same _ _ m3 in
          let (error, f1, l1) = bind-some _ _ found e7 in
          let (value, f2, l2) = bind-some _ _ found l1 in
          let (sum, f3, l3) = bind-some _ _ found l2 in
          let (estimated, f4, l4) = bind-some _ _ found l3 in
          let found_is : record { estimate = estimated; error = error } ≡ found = some_same _ _ l4 in
          subst (IsNear s network h driven) found_is
          (finished s ordering network listed h driven k live place parts drops links0 ps cs linked0 first0 held0 ep shape vs column xs sizes left transfers rests c error value sum estimated e1 b1 b2 b3 e3 e4 e5 (subst (λ o. Contracts s k o drops sizes c) (sym bounds_are) C) below (kept_is _ _ f1) f2 f3 f4)

-- ---- the whole
-- by the live branches of a pair
pub live_near : (s : ℕ) (low high : Network) (driven : ℕ) (ordering : List ℕ) → CanAssemble low high driven ordering → (lo hi : ℕ) (near : Near) (nodes : List DropEnds) → node_drops s 0 (length ordering) ≡ Some nodes
    → (branches : List LiveBranch) → live_branches s ordering low.branches high.branches ≡ Some branches → near_of s (order_ends s lo hi) nodes branches ≡ Ok near
    → (h : Order) → IsOrder h → LiesIn h (record { lo = lo; hi = hi }) → (network : Network) → LiesBetween network low high → IsNear s network h driven near
unfolding near_of
live_near s low high driven ordering can lo hi near nodes e0 branches e1 n1 h is_order lies network between =
    let (drops, e2, n2) = valued-ok _ _ near n1 in
    let count : length nodes ≡ length ordering = same_length _ nodes (map (node_link s ordering network listed) ordering) (start_held nodes e0) ∙ length-map ordering (node_link s ordering network listed) in
    let (ps, e3, n3) = valued-ok _ _ near (subst (λ m. near_of_drops s m drops ≡ Ok near) count n2) in
    let (cs, e4, n4) = inverse-ok (middle_inverse s ps) drops ps n3 in
    let (n, last) = is_last low driven ordering can.ordered in
    let here : length ordering - 1 ≡ n = let q = last.count in omega (arith, q) in
    let found = branches_held s ordering network listed (order_ends s lo hi) h (order_encloses s lo hi h is_order lies) low.branches high.branches network.branches between.from_low.branches between.to_high.branches between.whole.groups
    branches e1 nodes drops e2 [] (map (node_link s ordering network listed) ordering) start_count (start_held nodes e0) (nodes_first s ordering network listed ordering) in
    let linked : IsLinked network h found.parts ordering found.links = record {
      admitted = split_admittances network h found.parts found.split found.live;
      listed = listed;
      sum = counted_add_up network h found.parts found.pairs found.links found.paired found.count;
    } in
    let place : place_of ordering driven ≡ Some (length ordering - 1) =
    subst (λ i. place_of ordering driven ≡ Some i) (sym here) (subst (λ m. place_of ordering m ≡ Some n) last.last (each_at (λ i m. place_of ordering m ≡ Some i) 0 ordering n (let q = last.count in omega (arith, q)) (places_are ordering listed.distinct))) in
    with_holds s ordering network listed h driven (length ordering - 1) live place found.parts drops found.links ps cs near linked found.first found.held e3 (inverse_shape s ps cs e4) n4
  where
    live : Live network driven
    live = live_up low network between.from_low driven can.driven_is_live

    listed : ListsLive network ordering
    listed = lists_live network driven ordering between.whole live (order_along low network driven ordering between.from_low can.ordered)

    start_count : Count network [] (map (node_link s ordering network listed) ordering)
    start_count = none (map (node_link s ordering network listed) ordering) (nodes_add_nothing s ordering network listed ordering (all_live s ordering network listed))

    start_held : (nodes : List DropEnds) → node_drops s 0 (length ordering) ≡ Some nodes → HoldDrops s ordering network listed nodes (map (node_link s ordering network listed) ordering)
    start_held nodes e =
        nodes_hold s ordering network listed ordering 0 nodes e
        (each_map (λ i m. place_of ordering m ≡ Some i) (λ i m. place_of ordering m ≡ Some (0 + i)) (λ i m q. subst (λ j. place_of ordering m ≡ Some j) (let z : i ≡ 0 + i = omega arith in z) q) ordering (places_are ordering listed.distinct))
        (all_live s ordering network listed)

    inverse-ok : (o : Result (List (List Rectangle)) InverseFault) (drops : List DropEnds) (ps : List (List Rectangle)) → by_inverse s (length ordering - 1) drops ps o ≡ Ok near → (cs : List (List Rectangle)) × (o ≡ Ok cs) × (near_with s (length ordering - 1) drops ps cs ≡ Ok near)
    inverse-ok (Err (NoPivot column)) drops ps e = absurd cc
    inverse-ok (Err NoValue) drops ps e = absurd cc
    inverse-ok (Ok cs) drops ps e = (cs, refl, e)
