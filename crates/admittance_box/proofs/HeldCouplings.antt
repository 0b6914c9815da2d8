-- The admittances of three coupled branches over a box of orders hold the exact ones.
use Rattle.std.proofs.Common.{◌≡◌, ℕ, zero, suc, List, [], ◌∷◌, length, get_or, refl, subst, arith, Ok, Err, Result, pos}
use Rattle.std.specs.Ordering.{int_eq}
use Rattle.std.specs.Prelude.{Some, IsTrue, ◌&&◌, slice_get}
use Rattle.std.specs.List.{AllZip}
use Rattle.std.specs.Result.{result_ok}
use Rattle.exact_algebra.specs.Ratio.{Ratio, ◌≈◌, whole}
use Rattle.exact_algebra.specs.Complex.{Complex, complex_numbers}
use Rattle.exact_algebra.proofs.Holding.{holds_along}
use Rattle.exact_algebra.proofs.Ratios.{ratio_ring}
use Rattle.linear_systems.specs.Linear.{Solves, IsSquare}
use Rattle.complex_interval.specs.Ends.{Ends, Encloses, mul_ends}
use Rattle.complex_interval.specs.Rectangles.{Rectangle, EnclosesComplex}
use Rattle.complex_interval.proofs.Held.{mul_encloses}
use Rattle.complex_interval.proofs.Ranges.{range_encloses}
use Rattle.network_theory.specs.Order.{Order, fraction}
use Rattle.network_theory.specs.Branch.{Coupling, SameCoupling}
use Rattle.network_theory.specs.Between.{CouplingUpTo}
use Rattle.network_theory.specs.Impedance.{resistance, group_entry}
use Rattle.network_theory.specs.Admittance.{IsGroupAdmittance, group_rows}
use Rattle.network_theory.proofs.Driven.{injective_from_one}
use Rattle.plain_elimination.specs.declared.failure.Failure.{Failure}
use Rattle.plain_elimination.specs.Elimination.{HoldsRows}
use Rattle.plain_elimination.specs.Rectangles.{solve_rectangles}
use Rattle.plain_elimination.proofs.Rectangles.{solution_holds}
use Rattle.admittance_box.specs.Coupling.{CouplingEnds, coupling_between, Impedances, entry_rectangle, impedances, impedance_rows, first_unit, second_unit, third_unit, Columns, solved, inverse_columns, coupling_columns}
use Rattle.admittance_box.proofs.Between.{nought_where_plain}
use Rattle.admittance_box.proofs.Laws.{plus_j_encloses, one_rectangle_encloses, nought_held, resistance_encloses}
use Rattle.admittance_box.proofs.Steps.{bind-some, value_is}
open complex_numbers use {nought, unit}

-- ---- values
-- the intervals hold the values of a coupling, and k is 0 where it counts as 0
pub record HoldsCoupling (s : ℕ) (p : CouplingEnds) (c : Coupling) : Type 0 where
  pub self_r : Encloses s p.self_r c.self_r
  pub self_x : Encloses s p.self_x c.self_x
  pub mutual_r : Encloses s p.mutual_r c.mutual_r
  pub x_ab : Encloses s p.x_ab c.x_ab
  pub x_bc : Encloses s p.x_bc c.x_bc
  pub x_ca : Encloses s p.x_ca c.x_ca
  pub k : Encloses s p.k c.k
  pub m : Encloses s p.m c.m
  pub k_is_nought : IsTrue p.plain → c.k ≈ whole (pos 0)

pub coupling_held : (s : ℕ) (c d v : Coupling) (p : CouplingEnds) → CouplingUpTo c v → CouplingUpTo v d → coupling_between s c d ≡ Some p → HoldsCoupling s p v
coupling_held s c d v p a b e =
    let (self_r, e1, n1) = bind-some _ _ p e in
    let (self_x, e2, n2) = bind-some _ _ p n1 in
    let (mutual_r, e3, n3) = bind-some _ _ p n2 in
    let (x_ab, e4, n4) = bind-some _ _ p n3 in
    let (x_bc, e5, n5) = bind-some _ _ p n4 in
    let (x_ca, e6, n6) = bind-some _ _ p n5 in
    let (k, e7, n7) = bind-some _ _ p n6 in
    let (m, e8, last) = bind-some _ _ p n7 in
    let is : record { self_r = self_r; self_x = self_x; mutual_r = mutual_r; x_ab = x_ab; x_bc = x_bc; x_ca = x_ca; k = k; m = m; plain = int_eq c.k.num (pos 0) && int_eq d.k.num (pos 0) } ≡ p = value_is _ _ last in
    subst (λ (q : CouplingEnds). HoldsCoupling s q v) is (record {
      self_r = range_encloses s _ _ v.self_r a.self_r b.self_r self_r e1;
      self_x = range_encloses s _ _ v.self_x a.self_x b.self_x self_x e2;
      mutual_r = range_encloses s _ _ v.mutual_r a.mutual_r b.mutual_r mutual_r e3;
      x_ab = range_encloses s _ _ v.x_ab a.x_ab b.x_ab x_ab e4;
      x_bc = range_encloses s _ _ v.x_bc a.x_bc b.x_bc x_bc e5;
      x_ca = range_encloses s _ _ v.x_ca a.x_ca b.x_ca x_ca e6;
      k = range_encloses s _ _ v.k a.k b.k k e7;
      m = range_encloses s _ _ v.m a.m b.m m e8;
      k_is_nought = λ t. nought_where_plain c.k d.k v.k t a.k b.k;
    })

-- so they hold the equal values of another branch of the group
same_held : (s : ℕ) (p : CouplingEnds) (c d : Coupling) → SameCoupling d c → HoldsCoupling s p c → HoldsCoupling s p d
same_held s p c d e h = record {
  self_r = holds_along _ _ s _ _ (ratio_ring.back e.self_r) h.self_r;
  self_x = holds_along _ _ s _ _ (ratio_ring.back e.self_x) h.self_x;
  mutual_r = holds_along _ _ s _ _ (ratio_ring.back e.mutual_r) h.mutual_r;
  x_ab = holds_along _ _ s _ _ (ratio_ring.back e.x_ab) h.x_ab;
  x_bc = holds_along _ _ s _ _ (ratio_ring.back e.x_bc) h.x_bc;
  x_ca = holds_along _ _ s _ _ (ratio_ring.back e.x_ca) h.x_ca;
  k = holds_along _ _ s _ _ (ratio_ring.back e.k) h.k;
  m = holds_along _ _ s _ _ (ratio_ring.back e.m) h.m;
  k_is_nought = λ t. ratio_ring.next e.k (h.k_is_nought t);
}

-- ---- impedances
entry_held : (s : ℕ) (order re x : Ends) (a : Rectangle) (h : Order) (c : Coupling) (vr vx : Ratio) → Encloses s order (fraction h) → Encloses s re (resistance vr c.k c.m h) → Encloses s x vx
    → entry_rectangle s order re x ≡ Some a → EnclosesComplex s a (group_entry c h vr vx)
unfolding group_entry
entry_held s order re x a h c vr vx ho hr hx e =
    let (im, e1, e2) = bind-some (mul_ends s order x) (λ im. Some (record { re = re; im = im })) a e in
    let is : record { re = re; im = im } ≡ a = cc in
    subst (λ t. EnclosesComplex s t (group_entry c h vr vx)) is (plus_j_encloses s re im _ _ hr (mul_encloses s order x _ vx ho hx im e1))

-- the rectangles hold the entries of a group's Z by the values of one of its branches
record HoldsImpedances (s : ℕ) (z : Impedances) (h : Order) (c : Coupling) : Type 0 where
  own : EnclosesComplex s z.own (group_entry c h c.self_r c.self_x)
  ab : EnclosesComplex s z.ab (group_entry c h c.mutual_r c.x_ab)
  bc : EnclosesComplex s z.bc (group_entry c h c.mutual_r c.x_bc)
  ca : EnclosesComplex s z.ca (group_entry c h c.mutual_r c.x_ca)

impedances_held : (s : ℕ) (order : Ends) (p : CouplingEnds) (z : Impedances) (h : Order) (c : Coupling) → Encloses s order (fraction h) → HoldsCoupling s p c → impedances s order p ≡ Some z → HoldsImpedances s z h c
impedances_held s order p z h c ho held e =
    let (self_r, e1, n1) = bind-some _ _ z e in
    let (mutual_r, e2, n2) = bind-some _ _ z n1 in
    let (own, e3, n3) = bind-some _ _ z n2 in
    let (ab, e4, n4) = bind-some _ _ z n3 in
    let (bc, e5, n5) = bind-some _ _ z n4 in
    let (ca, e6, last) = bind-some _ _ z n5 in
    let r = resistance_encloses s p.plain p.self_r p.k p.m order self_r h c.self_r c.k c.m ho held.self_r held.k held.m held.k_is_nought e1 in
    let m = resistance_encloses s p.plain p.mutual_r p.k p.m order mutual_r h c.mutual_r c.k c.m ho held.mutual_r held.k held.m held.k_is_nought e2 in
    let is : record { own = own; ab = ab; bc = bc; ca = ca } ≡ z = value_is _ _ last in
    subst (λ (y : Impedances). HoldsImpedances s y h c) is (record {
      own = entry_held s order self_r p.self_x own h c c.self_r c.self_x ho r held.self_x e3;
      ab = entry_held s order mutual_r p.x_ab ab h c c.mutual_r c.x_ab ho m held.x_ab e4;
      bc = entry_held s order mutual_r p.x_bc bc h c c.mutual_r c.x_bc ho m held.x_bc e5;
      ca = entry_held s order mutual_r p.x_ca ca h c c.mutual_r c.x_ca ho m held.x_ca e6;
    })

rows_held : (s : ℕ) (z : Impedances) (h : Order) (a b c : Coupling) → HoldsImpedances s z h a → HoldsImpedances s z h b → HoldsImpedances s z h c → HoldsRows (EnclosesComplex s) (impedance_rows z) (group_rows a b c h)
rows_held s z h a b c i j k = ((i.own, (i.ab, (i.ca, tt))), ((j.ab, (j.own, (j.bc, tt))), ((k.ca, (k.bc, (k.own, tt))), tt)))

-- ---- columns
value_of : {X : Type 0} (r : Result X Failure) (x : X) → result_ok r ≡ Some x → r ≡ Ok x
value_of (Ok y) x e = cc
value_of (Err f) x e = absurd cc

solved_is : (s : ℕ) (z : Impedances) (right values : List Rectangle) → solved s z right ≡ Some values → solve_rectangles s (impedance_rows z) right ≡ Ok values
unfolding solved
solved_is s z right values e = value_of (solve_rectangles s (impedance_rows z) right) values e

-- three numbers
three_of : (xs : List Complex) → length xs ≡ 3 → xs ≡ get_or xs 0 nought ∷ get_or xs 1 nought ∷ get_or xs 2 nought ∷ []
three_of [] e = absurd (omega arith)
three_of (x ∷ []) e = absurd (omega arith)
three_of (x ∷ y ∷ []) e = absurd (omega arith)
three_of (x ∷ y ∷ z ∷ []) e = refl
three_of (x ∷ y ∷ z ∷ w ∷ xs) e = absurd (omega arith)

-- an entry of a column is held
column_entry : (s : ℕ) (column : List Rectangle) (xs : List Complex) → AllZip (EnclosesComplex s) column xs → (p : ℕ) (a : Rectangle) → slice_get column p ≡ Some a → EnclosesComplex s a (get_or xs p nought)
column_entry s [] xs z p a e = absurd cc
column_entry s (b ∷ column) [] z p a e = absurd z
column_entry s (b ∷ column) (x ∷ xs) z zero a e = let is : b ≡ a = cc in subst (λ t. EnclosesComplex s t x) is z.0
column_entry s (b ∷ column) (x ∷ xs) z (suc p) a e = column_entry s column xs z.1 p a e

-- the entry in row p and column q of these columns
abbrev pub by_columns : List Complex → List Complex → List Complex → ℕ → ℕ → Complex
by_columns xs ys zs p zero = get_or xs p nought
by_columns xs ys zs p (suc zero) = get_or ys p nought
by_columns xs ys zs p (suc (suc q)) = get_or zs p nought

-- each entry of the columns holds that of Y
pub record HoldsColumns (s : ℕ) (columns : Columns) (Y : ℕ → ℕ → Complex) : Type 0 where
  pub first : (p : ℕ) (a : Rectangle) → slice_get columns.first p ≡ Some a → EnclosesComplex s a (Y p 0)
  pub second : (p : ℕ) (a : Rectangle) → slice_get columns.second p ≡ Some a → EnclosesComplex s a (Y p 1)
  pub third : (p : ℕ) (a : Rectangle) → slice_get columns.third p ≡ Some a → EnclosesComplex s a (Y p 2)

-- the columns hold a group's admittances, which there are
pub record HoldsGroup (s : ℕ) (h : Order) (a b c : Coupling) (columns : Columns) : Type 0 where
  pub Y : ℕ → ℕ → Complex
  pub inverts : IsGroupAdmittance h a b c Y
  pub held : HoldsColumns s columns Y

columns_held : (s : ℕ) (z : Impedances) (columns : Columns) (h : Order) (a b c : Coupling) → inverse_columns s z ≡ Some columns → HoldsRows (EnclosesComplex s) (impedance_rows z) (group_rows a b c h) → HoldsGroup s h a b c columns
columns_held s z columns h a b c e rows =
    let (x, e1, n1) = bind-some _ _ columns e in
    let (y, e2, n2) = bind-some _ _ columns n1 in
    let (w, e3, last) = bind-some _ _ columns n2 in
    let square : IsSquare complex_numbers 3 (group_rows a b c h) = record { count = refl; widths = (refl, (refl, (refl, tt))) } in
    let o = one_rectangle_encloses s in
    let n = nought_held s in
    let first = solution_holds s 3 (impedance_rows z) (first_unit s) x (group_rows a b c h) (unit ∷ nought ∷ nought ∷ []) (solved_is s z (first_unit s) x e1) square rows (o, (n, (n, tt))) refl in
    let second = solution_holds s 3 (impedance_rows z) (second_unit s) y (group_rows a b c h) (nought ∷ unit ∷ nought ∷ []) (solved_is s z (second_unit s) y e2) square rows (n, (o, (n, tt))) refl in
    let third = solution_holds s 3 (impedance_rows z) (third_unit s) w (group_rows a b c h) (nought ∷ nought ∷ unit ∷ []) (solved_is s z (third_unit s) w e3) square rows (n, (n, (o, tt))) refl in
    let is : record { first = x; second = y; third = w } ≡ columns = value_is _ _ last in
    subst (λ (k : Columns). HoldsGroup s h a b c k) is (record {
      Y = by_columns first.one.solution second.one.solution third.one.solution;
      inverts = record {
        first = subst (λ xs. Solves complex_numbers (group_rows a b c h) xs (unit ∷ nought ∷ nought ∷ [])) (three_of first.one.solution first.one.count) first.one.solves;
        second = subst (λ xs. Solves complex_numbers (group_rows a b c h) xs (nought ∷ unit ∷ nought ∷ [])) (three_of second.one.solution second.one.count) second.one.solves;
        third = subst (λ xs. Solves complex_numbers (group_rows a b c h) xs (nought ∷ nought ∷ unit ∷ [])) (three_of third.one.solution third.one.count) third.one.solves;
        only = injective_from_one 3 (group_rows a b c h) (unit ∷ nought ∷ nought ∷ []) first.one;
      };
      held = record {
        first = column_entry s x first.one.solution first.held;
        second = column_entry s y second.one.solution second.held;
        third = column_entry s w third.one.solution third.held;
      };
    })

-- the columns of three coupled branches, whose values the intervals hold
pub group_held : (s : ℕ) (order : Ends) (p : CouplingEnds) (columns : Columns) (h : Order) (a b c : Coupling) → Encloses s order (fraction h) → HoldsCoupling s p a → SameCoupling b a → SameCoupling c a
    → coupling_columns s order p ≡ Some columns → HoldsGroup s h a b c columns
unfolding coupling_columns
group_held s order p columns h a b c ho held eb ec e =
    let (z, e1, e2) = bind-some (impedances s order p) (inverse_columns s) columns e in
    let by = λ (d : Coupling) (has : HoldsCoupling s p d). impedances_held s order p z h d ho has e1 in
    columns_held s z columns h a b c e2 (rows_held s z h a b c (by a held) (by b (same_held s p a b eb held)) (by c (same_held s p a c ec held)))
