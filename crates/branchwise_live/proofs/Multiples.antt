-- The laws of the branches of a group, by sums of two fractions.
use Rattle.std.proofs.Common.{◌≡◌, ◌∙◌, ℕ, Bool, true, false, List, [], ◌∷◌, refl, sym, ap₂, pos, negsuc, Option}
use Rattle.std.specs.Ordering.{int_eq}
use Rattle.std.specs.Prelude.{Some, None, ◌&&◌}
use Rattle.std.specs.Option.{option_map}
use Rattle.exact_algebra.specs.Ratio.{Ratio, den, common, ◌≈◌, over, whole, times, plus, opposite, difference}
use Rattle.exact_algebra.proofs.Ratios.{ratio_ring}
use Rattle.exact_algebra.proofs.Reader.{reads, linear, weigh, join, none_left}
use Rattle.complex_interval.specs.Ends.{Ends, range_ends}
use Rattle.fraction_sum.proofs.Same.{range_same}
use Rattle.network_theory.specs.Branch.{Coupling, Series}
use Rattle.admittance_box.specs.Addends.{LawEnds, OfSeries, law_between}
use Rattle.admittance_box.specs.Steps.{◌>>=◌}
use Rattle.branchwise_laws.specs.Pairs.{apart_law, common_law}
use Rattle.branchwise_live.specs.Series.{series_of}

less : (u v x y : Ratio) → v ≈ opposite u → times u (difference x y) ≈ plus (times u x) (times v y)
less u v x y e = linear ratio_ring (u ∷ v ∷ x ∷ y ∷ []) (weigh ratio_ring (opposite y) e) (search reads depth 40 fits 4000) none_left

more : (u t w x y : Ratio) → w ≈ times u t → times u (plus x (times t y)) ≈ plus (times u x) (times w y)
more u t w x y e = linear ratio_ring (u ∷ t ∷ w ∷ x ∷ y ∷ []) (weigh ratio_ring (opposite y) e) (search reads depth 40 fits 4000) none_left

abbrev pub three : Ratio
three = whole (pos 3)

abbrev pub less_three : Ratio
less_three = whole (negsuc 2)

abbrev pub six : Ratio
six = whole (pos 6)

less_three_is : less_three ≈ opposite three
unfolding whole opposite den
less_three_is = record { cross = refl }

six_is : six ≈ times three (whole (pos 2))
unfolding whole times den common
six_is = record { cross = refl }

both : (b : Bool) → (b && b) ≡ b
both true = refl
both false = refl

law_of : (s : ℕ) (r k m x : Ratio) → law_between s (Series r k m x (whole (pos 0))) (Series r k m x (whole (pos 0))) ≡ series_of s (range_ends s r r) k m (range_ends s x x)
unfolding whole
law_of s r k m x = go (range_ends s r r) (range_ends s k k) (range_ends s m m) (range_ends s x x) (range_ends s (over (pos 0) 1) (over (pos 0) 1)) (int_eq k.num (pos 0))
  where
    go : (re ke me xe ce : Option Ends) (b : Bool)
        → option_map OfSeries (re >>= (λ r. ke >>= (λ k. me >>= (λ m. xe >>= (λ x. ce >>= (λ c. Some (record { r = r; k = k; m = m; x = x; xc = c; plain = b && b })))))))
        ≡ (re >>= (λ r. ke >>= (λ k. me >>= (λ m. xe >>= (λ x. ce >>= (λ c. Some (OfSeries (record { r = r; k = k; m = m; x = x; xc = c; plain = b }))))))))
    go None ke me xe ce b = refl
    go (Some r) None me xe ce b = refl
    go (Some r) (Some k) None xe ce b = refl
    go (Some r) (Some k) (Some m) None ce b = refl
    go (Some r) (Some k) (Some m) (Some x) None b = refl
    go (Some r) (Some k) (Some m) (Some x) (Some c) b = rw (both b) refl

-- the ends of a sum of two fractions, each times one of those numbers
abbrev pub sum_ends : ℕ → Ratio → Ratio → Ratio → Ratio → Option Ends
sum_ends s u x v y = range_ends s (plus (times u x) (times v y)) (plus (times u x) (times v y))

pub apart_is : (s : ℕ) (c : Coupling) → series_of s (sum_ends s three c.self_r less_three c.mutual_r) c.k c.m (sum_ends s three c.self_x less_three c.x_ab) ≡ law_between s (apart_law c) (apart_law c)
apart_is s c =
    sym (law_of s (times three (difference c.self_r c.mutual_r)) c.k c.m (times three (difference c.self_x c.x_ab))
    ∙ ap₂ (λ r x. series_of s r c.k c.m x) (range_same s _ _ (less three less_three c.self_r c.mutual_r less_three_is)) (range_same s _ _ (less three less_three c.self_x c.x_ab less_three_is)))

pub common_is : (s : ℕ) (c : Coupling) → series_of s (sum_ends s three c.self_r six c.mutual_r) c.k c.m (sum_ends s three c.self_x six c.x_ab) ≡ law_between s (common_law c) (common_law c)
common_is s c =
    sym (law_of s (times three (plus c.self_r (times (whole (pos 2)) c.mutual_r))) c.k c.m (times three (plus c.self_x (times (whole (pos 2)) c.x_ab)))
    ∙ ap₂ (λ r x. series_of s r c.k c.m x) (range_same s _ _ (more three (whole (pos 2)) six c.self_r c.mutual_r six_is)) (range_same s _ _ (more three (whole (pos 2)) six c.self_x c.x_ab six_is)))
