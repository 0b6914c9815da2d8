-- Branches that stand alone as an element that a network takes.
use Rattle.std.proofs.Common.{◌≡◌, ◌≢◌, ℕ, ◌+◌, Bool, true, false, ◌&&◌, ◌==◌, ℤ, negsuc, List, [], ◌∷◌, map, ap, refl, arith, pos}
use Rattle.std.proofs.lemmas.Bool.{and_parts}
use Rattle.std.proofs.lemmas.Bool.Decides.{nat_tests}
use Rattle.std.specs.Prelude.{unsigned_abs}
use Rattle.std.specs.List.{AllByRecursion}
use Rattle.network_theory.specs.Branch.{Law as ExactLaw, Series as ExactSeries, Shunt as ExactShunt, Coupled3 as ExactCoupled3, Branch as ExactBranch}
use Rattle.network_theory.specs.Network.{IsUncoupled}
use Rattle.net_branch.specs.declared.network.Law.{Law}
use Rattle.net_branch.specs.declared.network.Law.TheVariants.{Series, Shunt, Coupled3}
use Rattle.net_branch.specs.declared.network.Branch.{Branch}
use Rattle.net_branch.specs.declared.network.Network.{Network}
use Rattle.net_branch.specs.Exact.{exact_law, exact_branch}
use Rattle.net_branch.specs.Refusal.{is_zero, is_zero_law, IsElement}
use Rattle.net_branch.proofs.Wholes.{all_uncoupled, at_nodes_exact, each_weaker}
use Rattle.element_parts.specs.Plain.{IsPlainLaw, IsPlainBranch, ArePlain}

-- a law other than zero
zero_num : (n : ℤ) → (unsigned_abs n == 0) ≡ true → n ≡ pos 0
zero_num (pos k) e = let z : k ≡ 0 = grind (arith, nat_tests) in ap pos z
zero_num (negsuc k) e = absurd (grind (arith, nat_tests))

not_true : (a : Bool) → ¬ (a ≡ true) → a ≡ false
not_true true h = absurd (h refl)
not_true false h = refl

pub not_zero : (l : Law) → IsPlainLaw (exact_law l) → is_zero_law l ≡ false
not_zero (Series r k m x xc) h = not_true (is_zero_law (Series r k m x xc)) (λ e.
    let first = and_parts (is_zero r) (is_zero x && is_zero xc) e in
    let rest = and_parts (is_zero x) (is_zero xc) first.1 in
    h (zero_num r.num first.0, zero_num x.num rest.0, zero_num xc.num rest.1))
not_zero (Shunt b) h = not_true (is_zero b) (λ e. h (zero_num b.num e))
not_zero (Coupled3 place self_r self_x mutual_r x_ab x_bc x_ca k m) h = absurd h

-- a branch that stands alone is in no group of three
uncoupled_by : (law : ExactLaw) (b : ExactBranch) → law ≡ b.law → IsPlainLaw law → b.group ≡ 0 → IsUncoupled b
uncoupled_by (ExactSeries r k m x xc) b e h g = rw (← e) g
uncoupled_by (ExactShunt y) b e h g = rw (← e) g
uncoupled_by (ExactCoupled3 place c) b e h g = absurd h

pub uncoupled : (nodes : ℕ) (b : ExactBranch) → IsPlainBranch nodes b → IsUncoupled b
uncoupled nodes b h = uncoupled_by b.law b refl h.law h.group

-- what follows for each built branch
pub each_built : (P : ExactBranch → Type 0) (Q : Branch → Type 0) → ((b : Branch) → P (exact_branch b) → Q b) → (bs : List Branch) → AllByRecursion P (map exact_branch bs) → AllByRecursion Q bs
each_built P Q f [] h = tt
each_built P Q f (b ∷ bs) h = (f b h.0, each_built P Q f bs h.1)

pub plain_element : (network : Network) (inner : ℕ) (branches : List Branch) → ArePlain (network.nodes + inner) (map exact_branch branches) → IsElement network inner branches
plain_element network inner branches h =
    let plain = IsPlainBranch (network.nodes + inner) in
    record {
      taps = at_nodes_exact (network.nodes + inner) branches (each_weaker plain _ (λ b p. p.taps) (map exact_branch branches) h);
      groups = all_uncoupled branches (each_built plain (λ b. IsUncoupled (exact_branch b)) (λ b p. uncoupled (network.nodes + inner) (exact_branch b) p) branches h);
      apart = each_built plain (λ b. b.group ≢ 0 → AllByRecursion (λ o. o.group ≢ b.group) network.branches) (λ b p g. absurd (g p.group)) branches h;
      laws = each_built plain (λ b. is_zero_law b.law ≡ false) (λ b p. not_zero b.law p.law) branches h;
    }
