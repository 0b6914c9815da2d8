-- Tolerances that are taken one after another.
use Rattle.std.proofs.Common.{◌≡◌, ◌≢◌, ◌∙◌, ◌+◌, ◌≤◌, ◌<◌, ℕ, suc, Bool, List, [], ◌∷◌, length, drop, get_or, ap, sym, subst, arith, drop-cons}
use Rattle.std.proofs.lemmas.List.{drop_all}
use Rattle.std.specs.List.{AllByRecursion}
use Rattle.network_theory.specs.Network.{Network}
use Rattle.net_branch.specs.Exact.{exact_network}
use Rattle.net_branch.specs.Whole.{IsWholeNetwork}
use Rattle.net_branch.specs.declared.network.Network.{Network as BuiltNetwork}
use Rattle.study_model.specs.declared.records.Tolerance.{Tolerance}
use Rattle.tolerance_scan.specs.Small.{AreWidenable}
use Rattle.tolerance_scan.specs.Widened.{widened, widened_by}
use Rattle.tolerance_scan.proofs.Kept.{others_kept}

-- later tolerances can be widened by after one of another element
widenable_kept : (t : Tolerance) (upward : Bool) (ts : List Tolerance) (network : Network) → AllByRecursion (λ u. u.element ≢ t.element) ts → AreWidenable ts network
    → AreWidenable ts (widened t.element t.permille upward network)
widenable_kept t upward [] network d h = tt
widenable_kept t upward (u ∷ ts) network d h = (h.0, others_kept t.element t.permille upward u.element network d.0 h.1, h.2, widenable_kept t upward ts network d.1 h.3)

-- a network that was widened by the first tolerances, as far as the place
pub record IsWideSoFar (upward : Bool) (ts : List Tolerance) (network : Network) (wide : BuiltNetwork) (i : ℕ) : Type 0 where
  pub left : widened_by upward (drop i ts) (exact_network wide) ≡ widened_by upward ts network
  pub widenable : AreWidenable (drop i ts) (exact_network wide)
  pub whole : IsWholeNetwork wide

-- what is left at a place; the default isn't read
rest_at : (ts : List Tolerance) (i : ℕ) (none : Tolerance) → i < length ts → drop i ts ≡ get_or ts i none ∷ drop (i + 1) ts
rest_at ts i none inside =
    let next : suc i ≡ i + 1 = omega arith in
    drop-cons ts i none inside ∙ ap (λ (k : ℕ). get_or ts i none ∷ drop k ts) next

-- the next tolerance can be widened by
pub next_widenable : (upward : Bool) (ts : List Tolerance) (network : Network) (wide : BuiltNetwork) (i : ℕ) (none : Tolerance) → i < length ts → IsWideSoFar upward ts network wide i
    → AreWidenable (get_or ts i none ∷ drop (i + 1) ts) (exact_network wide)
next_widenable upward ts network wide i none inside w = subst (λ (l : List Tolerance). AreWidenable l (exact_network wide)) (rest_at ts i none inside) w.widenable

pub wide_next : (upward : Bool) (ts : List Tolerance) (network : Network) (wide wider : BuiltNetwork) (i : ℕ) (none : Tolerance) → i < length ts → IsWideSoFar upward ts network wide i
    → exact_network wider ≡ widened (get_or ts i none).element (get_or ts i none).permille upward (exact_network wide) → IsWholeNetwork wider → IsWideSoFar upward ts network wider (i + 1)
wide_next upward ts network wide wider i none inside w e whole =
    let t = get_or ts i none in
    let rest = drop (i + 1) ts in
    let can = next_widenable upward ts network wide i none inside w in
    record {
      left = ap (widened_by upward rest) e ∙ ap (λ (l : List Tolerance). widened_by upward l (exact_network wide)) (sym (rest_at ts i none inside)) ∙ w.left;
      widenable = subst (AreWidenable rest) (sym e) (widenable_kept t upward rest (exact_network wide) can.2 can.3);
      whole = whole;
    }

pub wide_end : (upward : Bool) (ts : List Tolerance) (network : Network) (wide : BuiltNetwork) (i : ℕ) → length ts ≤ i → IsWideSoFar upward ts network wide i
    → exact_network wide ≡ widened_by upward ts network
wide_end upward ts network wide i past w = ap (λ (l : List Tolerance). widened_by upward l (exact_network wide)) (sym (drop_all i ts past)) ∙ w.left
