-- A branch that may come next keeps a list growing.
use Rattle.std.proofs.Common.{◌≡◌, ◌≢◌, ℕ, suc, ◌≤◌, ◌<◌, List, [], ◌∷◌, ◌++◌, length, refl, sym, ap, subst, ◌∙◌, arith}
use Rattle.std.specs.Prelude.{map}
use Rattle.std.specs.List.{AllByRecursion}
use Rattle.network_theory.specs.Branch.{Law, Series, Shunt, Coupled3, Coupling, SameCoupling, Branch as E}
use Rattle.network_theory.specs.Network.{HasPlace, IsGroup, IsGrouped, IsUncoupled, done, alone, group}
use Rattle.network_theory.proofs.Couplings.{coupling_same, coupling_next}
use Rattle.net_branch.specs.Exact.{exact_branch}
use Rattle.net_branch.specs.Next.{uncoupled, first, later, NextKeepsGrouping}
use Rattle.net_branch.proofs.Wholes.{uncoupled_grouped, grouped_grouping, grouped_append, each_append, each_weaker, each_map, mapped_push}

not_coupled : (b : E) (p : ℕ) (values : Coupling) → IsUncoupled b → b.law ≡ Coupled3 p values → ⊥
not_coupled b p values u e = go b.law u e
  where
    go : (l : Law) → elim l as (λ z. Type 0) [ Series r k m x xc ↦ b.group ≡ 0 | Shunt y ↦ b.group ≡ 0 | Coupled3 place c ↦ ⊥ ] → l ≡ Coupled3 p values → ⊥
    go (Series r k m x xc) h q = cc
    go (Shunt y) h q = cc
    go (Coupled3 place c) h q = h

head_of : E → List E → E
head_of d [] = d
head_of d (x ∷ xs) = x

-- what a list becomes with b after a, where a is at most two branches from its end
record Ends (front : List E) (a b : E) : Type 0 where
  rest : List E
  few : length rest ≤ 1
  grouped : IsGrouped (front ++ a ∷ b ∷ rest)
  same : AllByRecursion (λ o. o.group ≡ a.group) rest

-- a list that holds of each of its parts
each_front : (P : E → Type 0) (xs : List E) (y : E) (ys : List E) → AllByRecursion P (xs ++ y ∷ ys) → AllByRecursion P xs × P y
each_front P [] y ys h = (tt, h.0)
each_front P (x ∷ xs) y ys h = let k = each_front P xs y ys h.1 in ((h.0, k.0), k.1)

-- the premises on the branch b that comes after a
record Follows (a b : E) : Type 0 where
  place : ℕ
  below : place < 2
  last : HasPlace a place
  next : HasPlace b (suc place)
  same : SameCoupling next.values last.values
  group_b : b.group ≡ a.group
  owner_b : b.owner ≡ a.owner

-- a branch has one place and one coupling
record Alike (p q : ℕ) (c d : Coupling) : Type 0 where
  place : p ≡ q
  values : c ≡ d

alike : (b : E) (p q : ℕ) (c d : Coupling) → b.law ≡ Coupled3 p c → b.law ≡ Coupled3 q d → Alike p q c d
alike b p q c d e f = let g : Coupled3 p c ≡ Coupled3 q d = sym e ∙ f in record { place = cc; values = cc }

ends : (L : List E) → IsGrouped L → (front : List E) (a : E) (rest : List E) (b : E) → L ≡ front ++ a ∷ rest → length rest ≤ 2 → Follows a b → Ends front a b
ends L done [] a rest b e l f = absurd cc
ends L done (y ∷ front) a rest b e l f = absurd cc
ends L (alone x xs u g) [] a rest b e l f =
    let same : x ≡ a = cc in
    absurd (not_coupled a f.place f.last.values (subst IsUncoupled same u) f.last.law)
ends L (alone x xs u g) (y ∷ front) a rest b e l f =
    let same : x ≡ y = cc in
    let tail : xs ≡ front ++ a ∷ rest = cc in
    let r = ends xs g front a rest b tail l f in
    record { rest = r.rest; few = r.few; grouped = alone y (front ++ a ∷ b ∷ r.rest) (subst IsUncoupled same u) r.grouped; same = r.same }
ends L (group x y z xs g r s) [] a rest b e l f =
    let same : x ≡ a = cc in
    let first_law : a.law ≡ Coupled3 0 g.first.values = subst (λ w. w.law ≡ Coupled3 0 g.first.values) same g.first.law in
    let one = alike a f.place 0 f.last.values g.first.values f.last.law first_law in
    record {
      rest = z ∷ [];
      few = omega arith;
      grouped = group a b z [] (record {
        first = record { values = g.first.values; law = first_law };
        second = record { values = f.next.values; law = f.next.law ∙ ap (λ p. Coupled3 (suc p) f.next.values) one.place };
        third = g.third;
        equal_second = subst (λ v. SameCoupling f.next.values v) one.values f.same;
        equal_third = g.equal_third;
        number = subst (λ w. w.group ≢ 0) same g.number;
        same_second = f.group_b;
        same_third = g.same_third ∙ ap (λ w. w.group) same;
        owner_second = f.owner_b;
        owner_third = g.owner_third ∙ ap (λ w. w.owner) same;
      }) tt done;
      same = (g.same_third ∙ ap (λ w. w.group) same, tt);
    }
ends L (group x y z xs g r s) (x' ∷ []) a rest b e l f =
    let same : x ≡ x' = cc in
    let second : y ≡ a = cc in
    let second_law : a.law ≡ Coupled3 1 g.second.values = subst (λ w. w.law ≡ Coupled3 1 g.second.values) second g.second.law in
    let one = alike a f.place 1 f.last.values g.second.values f.last.law second_law in
    let group_a : a.group ≡ x'.group = ap (λ w. w.group) (sym second) ∙ g.same_second ∙ ap (λ w. w.group) same in
    let owner_a : a.owner ≡ x'.owner = ap (λ w. w.owner) (sym second) ∙ g.owner_second ∙ ap (λ w. w.owner) same in
    record {
      rest = [];
      few = omega arith;
      grouped = group x' a b [] (record {
        first = record { values = g.first.values; law = subst (λ w. w.law ≡ Coupled3 0 g.first.values) same g.first.law };
        second = record { values = g.second.values; law = second_law };
        third = record { values = f.next.values; law = f.next.law ∙ ap (λ p. Coupled3 (suc p) f.next.values) one.place };
        equal_second = g.equal_second;
        equal_third = coupling_next _ _ _ (subst (λ v. SameCoupling f.next.values v) one.values f.same) g.equal_second;
        number = subst (λ w. w.group ≢ 0) same g.number;
        same_second = group_a;
        same_third = f.group_b ∙ group_a;
        owner_second = owner_a;
        owner_third = f.owner_b ∙ owner_a;
      }) tt done;
      same = tt;
    }
ends L (group x y z xs g r s) (x' ∷ y' ∷ []) a rest b e l f =
    let third : z ≡ a = cc in
    let one = alike a f.place 2 f.last.values g.third.values f.last.law (subst (λ w. w.law ≡ Coupled3 2 g.third.values) third g.third.law) in
    absurd (omega (arith, f.below, one.place))
ends L (group x y z xs g r s) (x' ∷ y' ∷ z' ∷ front) a rest b e l f =
    let same : x ≡ x' = cc in
    let second : y ≡ y' = cc in
    let third : z ≡ z' = cc in
    let tail : xs ≡ front ++ a ∷ rest = cc in
    let t = ends xs s front a rest b tail l f in
    let others : AllByRecursion (λ o. o.group ≢ x'.group) (front ++ a ∷ rest) = subst (AllByRecursion (λ o. o.group ≢ x'.group)) tail (subst (λ w. AllByRecursion (λ o. o.group ≢ w.group) xs) same r) in
    let parts = each_front (λ o. o.group ≢ x'.group) front a rest others in
    record {
      rest = t.rest;
      few = t.few;
      grouped = group x' y' z' (front ++ a ∷ b ∷ t.rest)
          (subst (λ w. IsGroup w y' z') same (subst (λ w. IsGroup x w z') second (subst (λ w. IsGroup x y w) third g)))
          (each_append (λ o. o.group ≢ x'.group) front (a ∷ b ∷ t.rest) parts.0
          (parts.1, (λ q. parts.1 (sym f.group_b ∙ q), each_weaker (λ o. o.group ≡ a.group) (λ o. o.group ≢ x'.group) (λ o k q. parts.1 (sym k ∙ q)) t.rest t.same)))
          t.grouped;
      same = t.same;
    }

abbrev at_place : E → ℕ → Coupling → E
at_place b p values = record b { law = Coupled3 p values }

pub next_keeps_grouping : NextKeepsGrouping
next_keeps_grouping bs b g (uncoupled whole u) = grouped_grouping (bs ++ b ∷ []) (uncoupled_grouped bs b whole u)
next_keeps_grouping bs b g (first whole place number apart) =
    let e = exact_branch b in
    let values = place.values in
    let second = at_place e 1 values in
    let third = at_place e 2 values in
    let others : AllByRecursion (λ o. o.group ≢ b.group) (map exact_branch bs) = each_map (λ o. o.group ≢ b.group) exact_branch bs apart in
    record {
      lacking = second ∷ third ∷ [];
      few = omega arith;
      grouped = subst IsGrouped (sym (mapped_push bs b (second ∷ third ∷ [])))
          (grouped_append (map exact_branch bs) (e ∷ second ∷ third ∷ []) whole
          (group e second third [] (record {
            first = place;
            second = record { values = values; law = refl };
            third = record { values = values; law = refl };
            equal_second = coupling_same values;
            equal_third = coupling_same values;
            number = number;
            same_second = refl;
            same_third = refl;
            owner_second = refl;
            owner_third = refl;
          }) tt done)
          (λ n. others, (λ n. others, (λ n. others, tt))));
    }
next_keeps_grouping bs b g (later front a place is below last next same group_b owner_b) =
    let e = exact_branch b in
    let follows : Follows (exact_branch a) e = record { place = place; below = below; last = last; next = next; same = same; group_b = group_b; owner_b = owner_b } in
    let t = ends (map exact_branch bs ++ g.lacking) g.grouped (map exact_branch front) (exact_branch a) g.lacking e
    (ap (λ z. map exact_branch z ++ g.lacking) is ∙ mapped_push front a g.lacking) g.few follows in
    record {
      lacking = t.rest;
      few = omega (arith, t.few);
      grouped = subst IsGrouped
          (sym (mapped_push bs b t.rest ∙ ap (λ z. map exact_branch z ++ e ∷ t.rest) is ∙ mapped_push front a (e ∷ t.rest)))
          t.grouped;
    }
