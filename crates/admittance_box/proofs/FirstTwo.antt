-- The first two items of a list, which with the branch before them may be a group.
use Rattle.std.proofs.Common.{◌≡◌, ℕ, zero, suc, ◌<◌, ◌≤◌, List, [], ◌∷◌, length, map, drop, get_or, refl, arith}
use Rattle.std.specs.Prelude.{None}
use Rattle.complex_interval.specs.Ends.{Ends}
use Rattle.complex_interval.specs.Rectangles.{Rectangle}
use Rattle.network_theory.specs.Branch.{Branch as ExactBranch}
use Rattle.net_branch.specs.declared.network.Branch.{Branch}
use Rattle.net_branch.specs.Exact.{exact_branch}
use Rattle.admittance_box.specs.Addends.{Absent, first_group}
use Rattle.admittance_box.specs.Current.{with_first_group}

pub first_two : {X : Type 0} (xs : List X) (x y : X) → 2 ≤ length xs → x ≡ get_or xs 0 x → y ≡ get_or xs 1 y → xs ≡ x ∷ y ∷ drop 2 xs
first_two [] x y l e k = absurd (omega arith)
first_two (v ∷ []) x y l e k = absurd (omega arith)
first_two (v ∷ w ∷ xs) x y l e k = cc

pub no_group_low : (s : ℕ) (ordering : List ℕ) (a a' : ExactBranch) (bs cs : List Branch) → length bs < 2 → Absent ≡ first_group s ordering a (map exact_branch bs) a' (map exact_branch cs)
no_group_low s ordering a a' [] cs l = refl
no_group_low s ordering a a' (b ∷ []) cs l = refl
no_group_low s ordering a a' (b ∷ c ∷ bs) cs l = absurd (omega arith)

pub no_group_high : (s : ℕ) (ordering : List ℕ) (a a' : ExactBranch) (bs cs : List Branch) → 2 ≤ length bs → length cs < 2 → Absent ≡ first_group s ordering a (map exact_branch bs) a' (map exact_branch cs)
no_group_high s ordering a a' [] cs l k = absurd (omega arith)
no_group_high s ordering a a' (b ∷ []) cs l k = absurd (omega arith)
no_group_high s ordering a a' (b ∷ c ∷ bs) [] l k = refl
no_group_high s ordering a a' (b ∷ c ∷ bs) (d ∷ []) l k = refl
no_group_high s ordering a a' (b ∷ c ∷ bs) (d ∷ e ∷ cs) l k = absurd (omega arith)

-- so of the current of a group
module _ (s : ℕ) (h : Ends) (ordering : List ℕ) (volts : List Rectangle) (owner node : ℕ) (sum : Rectangle) (a a' : ExactBranch) where
  pub no_current_low : (bs cs : List Branch) → length bs < 2 → None ≡ with_first_group s h ordering volts owner node sum a (map exact_branch bs) a' (map exact_branch cs)
  no_current_low [] cs l = refl
  no_current_low (b ∷ []) cs l = refl
  no_current_low (b ∷ c ∷ bs) cs l = absurd (omega arith)

  pub no_current_high : (bs cs : List Branch) → 2 ≤ length bs → length cs < 2 → None ≡ with_first_group s h ordering volts owner node sum a (map exact_branch bs) a' (map exact_branch cs)
  no_current_high [] cs l k = absurd (omega arith)
  no_current_high (b ∷ []) cs l k = absurd (omega arith)
  no_current_high (b ∷ c ∷ bs) [] l k = refl
  no_current_high (b ∷ c ∷ bs) (d ∷ []) l k = refl
  no_current_high (b ∷ c ∷ bs) (d ∷ e ∷ cs) l k = absurd (omega arith)

-- no items are behind the last
pub none_behind : {X : Type 0} (xs : List X) (n : ℕ) → length xs ≤ n → drop n xs ≡ []
none_behind [] zero l = refl
none_behind [] (suc n) l = refl
none_behind (x ∷ xs) zero l = absurd (omega arith)
none_behind (x ∷ xs) (suc n) l = none_behind xs n (omega arith)
