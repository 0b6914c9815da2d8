-- Pairs of networks.
use Rattle.std.proofs.Common.{◌≡◌, ℕ, List, [], ◌∷◌, refl, subst}
use Rattle.exact_algebra.specs.Ratio.{◌≼◌}
use Rattle.exact_fraction.specs.declared.fraction.Fraction.{Fraction}
use Rattle.exact_fraction.specs.Fraction.{ratio_of}
use Rattle.network_theory.specs.Between.{IsPair}
use Rattle.network_theory.specs.Network.{IsWhole}
use Rattle.network_theory.proofs.More.{between_itself, up_to}
use Rattle.net_branch.specs.declared.network.Tap.{Tap}
use Rattle.net_branch.specs.declared.network.Law.{Law}
use Rattle.net_branch.specs.declared.network.Law.TheVariants.{Series}
use Rattle.net_branch.specs.declared.network.Network.{Network}
use Rattle.net_branch.specs.Exact.{exact_network}

-- networks of one branch, coils that differ in the reactance alone, are a pair
pub pair_of_coils : (buses nodes group owner : ℕ) (taps : List Tap) (r m x r' m' y : Fraction) (law law' : Law) (low high : Network) → law ≡ Series r r m x r → law' ≡ Series r' r' m' y r' → ratio_of r ≡ ratio_of r' → ratio_of m ≡ ratio_of m'
    → low ≡ record { buses = buses; nodes = nodes; branches = record { taps = taps; law = law; group = group; owner = owner } ∷ [] } → high ≡ record { buses = buses; nodes = nodes; branches = record { taps = taps; law = law'; group = group; owner = owner } ∷ [] }
    → ratio_of x ≼ ratio_of y → IsWhole (exact_network low) → IsPair (exact_network low) (exact_network high)
pair_of_coils buses nodes group owner taps r m x r' m' y law law' low high l l' q p e f h w =
    let one : Law → Network = λ z. record { buses = buses; nodes = nodes; branches = record { taps = taps; law = z; group = group; owner = owner } ∷ [] } in
    let whole : IsWhole (exact_network (one law)) = subst (λ (n : Network). IsWhole (exact_network n)) e w in
    let own = (between_itself (exact_network (one law)) whole).from_low.branches in
    let rs : ratio_of r ≼ ratio_of r' = subst (λ z. ratio_of r ≼ z) q (up_to (ratio_of r)) in
    let ms : ratio_of m ≼ ratio_of m' = subst (λ z. ratio_of m ≼ z) p (up_to (ratio_of m)) in
    rw (e, f, l, l') (record { buses = refl; nodes = refl; branches = (record { taps = own.0.taps; law = (rs, rs, ms, h, rs); group = refl; owner = refl }, tt) })
