-- The parts of whole networks.
use Rattle.std.proofs.Common.{◌≡◌, ◌≢◌, ℕ, zero, suc, ◌<◌, List, [], ◌∷◌, ap, refl, subst, sym, arith, ◌∙◌, length, get_or, ◌⊎◌, inl, inr}
use Rattle.std.specs.Prelude.{Contains}
use Rattle.std.specs.List.{AllByRecursion}
use Rattle.exact_algebra.specs.Complex.{Complex, complex_numbers}
use Rattle.linear_systems.specs.Linear.{Solves}
use Rattle.network_theory.specs.Branch.{Branch, Law, Series, Shunt, Coupled3}
use Rattle.network_theory.specs.Network.{IsGroup, IsUncoupled}
use Rattle.network_theory.specs.Live.{HasLiveNode, Carries, itself, by_group}
use Rattle.network_theory.specs.Admittance.{Part, branches_of, flatten, HasAdmittance, IsSplit, end, one, three, EachLivePart, group_rows}
use Rattle.network_theory.specs.Laws.{SplitAdmittances, GroupAdmittance}
use Rattle.network_theory.proofs.Driven.{injective_from_one}
open complex_numbers use {◌≈◌, nought, unit}

abbrev C : Type 0
C = Complex

-- a member of a list of branches
abbrev IsIn : Branch → List Branch → Type 0
IsIn b [] = ⊥
IsIn b (o ∷ bs) = (b ≡ o) ⊎ IsIn b bs

in_contains : (b : Branch) (bs : List Branch) → IsIn b bs → Contains bs b
in_contains b [] i = absurd i
in_contains b (o ∷ bs) (inl e) = (0, omega arith, sym e)
in_contains b (o ∷ bs) (inr i) = let k = in_contains b bs i in (suc k.0, omega (arith, k.1), k.2)

in_go : (b o : Branch) (bs : List Branch) → ((i : ℕ) → i < length bs → get_or bs i b ≡ b → IsIn b bs) → (i : ℕ) → i < suc (length bs) → get_or (o ∷ bs) i b ≡ b → IsIn b (o ∷ bs)
in_go b o bs more zero l e = inl (sym e)
in_go b o bs more (suc i) l e = inr (more i (omega arith) e)

contains_in : (b : Branch) (bs : List Branch) → Contains bs b → IsIn b bs
contains_in b [] k = absurd (omega (arith, k.1))
contains_in b (o ∷ bs) k = in_go b o bs (λ i l e. contains_in b bs (i, l, e)) k.0 k.1 k.2

-- the branches of a part are the list's, and those of their group are in the part
record Together (bs : List Branch) (p : Part) : Type 0 where
  inside : (b : Branch) → IsIn b (branches_of p) → IsIn b bs
  whole : (b o : Branch) → IsIn b (branches_of p) → IsIn o bs → o.group ≢ 0 → o.group ≡ b.group → IsIn o (branches_of p)

uncoupled_zero : (b : Branch) → IsUncoupled b → b.group ≡ 0
uncoupled_zero b u = go b.law u
  where
    go : (l : Law) → elim l as (λ z. Type 0) [ Series r k m x xc ↦ b.group ≡ 0 | Shunt y ↦ b.group ≡ 0 | Coupled3 place c ↦ ⊥ ] → b.group ≡ 0
    go (Series r k m x xc) h = h
    go (Shunt y) h = h
    go (Coupled3 place c) h = absurd h

apart_in : (g : ℕ) (bs : List Branch) → AllByRecursion (λ o. o.group ≢ g) bs → (o : Branch) → IsIn o bs → o.group ≢ g
apart_in g [] h o i = absurd i
apart_in g (k ∷ bs) h o (inl e) = λ q. h.0 (ap (λ z. z.group) (sym e) ∙ q)
apart_in g (k ∷ bs) h o (inr i) = apart_in g bs h.1 o i

later_alone : (b : Branch) → b.group ≡ 0 → (bs : List Branch) (ps : List Part) → AllByRecursion (Together bs) ps → AllByRecursion (Together (b ∷ bs)) ps
later_alone b z bs [] h = tt
later_alone b z bs (p ∷ ps) h = (
  record {
    inside = λ c i. inr (h.0.inside c i);
    whole = λ c o i j n e. elim j [ inl q ↦ absurd (n (ap (λ k. k.group) q ∙ z)) | inr k ↦ h.0.whole c o i k n e ];
  },
  later_alone b z bs ps h.1,
)

in_group : (a b c : Branch) → IsGroup a b c → (o : Branch) → IsIn o (a ∷ b ∷ c ∷ []) → o.group ≡ a.group
in_group a b c g o (inl e) = ap (λ k. k.group) e
in_group a b c g o (inr (inl e)) = ap (λ k. k.group) e ∙ g.same_second
in_group a b c g o (inr (inr (inl e))) = ap (λ k. k.group) e ∙ g.same_third
in_group a b c g o (inr (inr (inr i))) = absurd i

-- a branch of three, or of the rest
sides : (a b c o : Branch) (bs : List Branch) → IsIn o (a ∷ b ∷ c ∷ bs) → IsIn o (a ∷ b ∷ c ∷ []) ⊎ IsIn o bs
sides a b c o bs (inl e) = inl (inl e)
sides a b c o bs (inr (inl e)) = inl (inr (inl e))
sides a b c o bs (inr (inr (inl e))) = inl (inr (inr (inl e)))
sides a b c o bs (inr (inr (inr i))) = inr i

widen : (a b c o : Branch) (bs : List Branch) → IsIn o (a ∷ b ∷ c ∷ []) → IsIn o (a ∷ b ∷ c ∷ bs)
widen a b c o bs (inl e) = inl e
widen a b c o bs (inr (inl e)) = inr (inl e)
widen a b c o bs (inr (inr (inl e))) = inr (inr (inl e))
widen a b c o bs (inr (inr (inr i))) = absurd i

later_group : (a b c : Branch) → IsGroup a b c → (bs : List Branch) → AllByRecursion (λ o. o.group ≢ a.group) bs → (ps : List Part) → AllByRecursion (Together bs) ps → AllByRecursion (Together (a ∷ b ∷ c ∷ bs)) ps
later_group a b c g bs r [] h = tt
later_group a b c g bs r (p ∷ ps) h = (
  record {
    inside = λ d i. inr (inr (inr (h.0.inside d i)));
    whole = λ d o i j n e. elim (sides a b c o bs j) [
      | inl k ↦ absurd (apart_in a.group bs r d (h.0.inside d i) (sym e ∙ in_group a b c g o k))
      | inr k ↦ h.0.whole d o i k n e
    ];
  },
  later_group a b c g bs r ps h.1,
)

together : (bs : List Branch) (ps : List Part) → IsSplit bs ps → AllByRecursion (Together bs) ps
together bs ps end = tt
together bs ps (one b y bs' ps' u s) =
    let z = uncoupled_zero b u in (
      record {
        inside = λ c i. elim i [ inl e ↦ inl e | inr k ↦ absurd k ];
        whole = λ c o i j n e. elim i [ inl q ↦ absurd (n (e ∙ ap (λ k. k.group) q ∙ z)) | inr k ↦ absurd k ];
      },
      later_alone b z bs' ps' (together bs' ps' s),
    )
together bs ps (three a b c Y bs' ps' g r s) = (
  record {
    inside = λ d i. widen a b c d bs' i;
    whole = λ d o i j n e. elim (sides a b c o bs' j) [
      | inl k ↦ k
      | inr k ↦ absurd (apart_in a.group bs' r o k (e ∙ in_group a b c g d i))
    ];
  },
  later_group a b c g bs' r ps' (together bs' ps' s),
)

split_all : (bs : List Branch) (ps : List Part) → IsSplit bs ps → bs ≡ flatten ps
split_all bs ps end = refl
split_all bs ps (one b y bs' ps' u s) = ap (λ z. b ∷ z) (split_all bs' ps' s)
split_all bs ps (three a b c Y bs' ps' g r s) = ap (λ z. a ∷ b ∷ c ∷ z) (split_all bs' ps' s)

pub split_admittances : SplitAdmittances
split_admittances network h parts s given = record {
  all = split_all network.branches parts s;
  each = go parts (together network.branches parts s) given;
}
  where
    carried : (p : Part) → Together network.branches p → ((b : Branch) → Contains (branches_of p) b → HasLiveNode network b → HasAdmittance h p) → (b : Branch) → Contains (branches_of p) b → Carries network b → HasAdmittance h p
    carried p t g b k (itself l) = g b k l
    carried p t g b k (by_group o i n e l) = g o (in_contains o (branches_of p) (t.whole b o (contains_in b (branches_of p) k) (contains_in o network.branches i) n e)) l

    go : (ps : List Part) → AllByRecursion (Together network.branches) ps → EachLivePart network h ps → AllByRecursion (λ part. (b : Branch) → Contains (branches_of part) b → Carries network b → HasAdmittance h part) ps
    go [] t g = tt
    go (p ∷ ps) t g = (carried p t.0 g.0, go ps t.1 g.1)

-- a list of three
three_list : (x : List C) → length x ≡ 3 → x ≡ get_or x 0 nought ∷ get_or x 1 nought ∷ get_or x 2 nought ∷ []
three_list [] l = absurd (omega arith)
three_list (a ∷ []) l = absurd (omega arith)
three_list (a ∷ b ∷ []) l = absurd (omega arith)
three_list (a ∷ b ∷ c ∷ []) l = refl
three_list (a ∷ b ∷ c ∷ d ∷ x) l = absurd (omega arith)

pub group_admittance : GroupAdmittance
group_admittance h a b c o1 o2 o3 = record {
  first = subst (λ x. Solves complex_numbers (group_rows a b c h) x (unit ∷ nought ∷ nought ∷ [])) (three_list o1.solution o1.count) o1.solves;
  second = subst (λ x. Solves complex_numbers (group_rows a b c h) x (nought ∷ unit ∷ nought ∷ [])) (three_list o2.solution o2.count) o2.solves;
  third = subst (λ x. Solves complex_numbers (group_rows a b c h) x (nought ∷ nought ∷ unit ∷ [])) (three_list o3.solution o3.count) o3.solves;
  only = injective_from_one 3 (group_rows a b c h) (unit ∷ nought ∷ nought ∷ []) o1;
}
