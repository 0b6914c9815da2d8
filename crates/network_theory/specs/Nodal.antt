-- The nodal matrix of a network.
use Rattle.std.specs.Prelude.{◌≡◌, ◌≢◌, ℕ, suc, ◌↔◌, List, [], ◌∷◌, length, get_or, Contains}
use Rattle.std.specs.List.{AllByRecursion, AllZip}
use Rattle.exact_algebra.specs.Ratio.{times}
use Rattle.exact_algebra.specs.Complex.{Complex, complex_numbers, real}
use Rattle.linear_systems.specs.Assembly.{where_equal}
use Rattle.network_theory.specs.Branch.{Tap}
use Rattle.network_theory.specs.Network.{Network}
use Rattle.network_theory.specs.Live.{Live}
use Rattle.network_theory.specs.Order.{Order}
use Rattle.network_theory.specs.Admittance.{Part, Alone, Group, HasAdmittances}
open complex_numbers use {◌≈◌, nought, ◌⊕◌, ◌⊗◌}

-- the sum of c·c'·y over the second branch's taps at n', c being the first tap's ratio
abbrev pub tap_entry : Tap → List Tap → Complex → ℕ → Complex
tap_entry t [] y n' = nought
tap_entry t (u ∷ us) y n' = where_equal complex_numbers u.node n' (real (times t.ratio u.ratio) ⊗ y) ⊕ tap_entry t us y n'

-- the sum of c·c'·y over the first branch's taps at n and the second's at n'
abbrev pub pair_entry : List Tap → List Tap → Complex → ℕ → ℕ → Complex
pair_entry [] us y n n' = nought
pair_entry (t ∷ ts) us y n n' = where_equal complex_numbers t.node n (tap_entry t us y n') ⊕ pair_entry ts us y n n'

-- of a part, in a group over each pair of its branches
abbrev pub part_entry : Part → ℕ → ℕ → Complex
part_entry (Alone b y) n n' = pair_entry b.taps b.taps y n n'
part_entry (Group a b c Y) n n' =
    pair_entry a.taps a.taps (Y 0 0) n n' ⊕ pair_entry a.taps b.taps (Y 0 1) n n' ⊕ pair_entry a.taps c.taps (Y 0 2) n n'
    ⊕ pair_entry b.taps a.taps (Y 1 0) n n' ⊕ pair_entry b.taps b.taps (Y 1 1) n n' ⊕ pair_entry b.taps c.taps (Y 1 2) n n'
    ⊕ pair_entry c.taps a.taps (Y 2 0) n n' ⊕ pair_entry c.taps b.taps (Y 2 1) n n' ⊕ pair_entry c.taps c.taps (Y 2 2) n n'

-- the entry for the nodes n and n'
abbrev pub nodal_entry : List Part → ℕ → ℕ → Complex
nodal_entry [] n n' = nought
nodal_entry (part ∷ parts) n n' = part_entry part n n' ⊕ nodal_entry parts n n'

-- no node stands twice
abbrev pub IsDistinct : List ℕ → Type 0
IsDistinct [] = Unit {0}
IsDistinct (n ∷ ordering) = AllByRecursion (λ m. n ≢ m) ordering × IsDistinct ordering

-- each live node once, in some ordering
pub record ListsLive (network : Network) (ordering : List ℕ) : Type 0 where
  pub distinct : IsDistinct ordering
  pub live : (n : ℕ) → Live network n ↔ Contains ordering n

-- the entries of the matrix are those of the nodes in their ordering
abbrev pub IsNodal : List Part → List ℕ → List (List Complex) → Type 0
IsNodal parts ordering rows = AllZip (λ n row. AllZip (λ n' entry. entry ≈ nodal_entry parts n n') ordering row) ordering rows

-- the nodal equations of a network at an order: its admittances, its live nodes in an ordering, and the matrix
pub record IsNodalSystem (network : Network) (h : Order) (parts : List Part) (ordering : List ℕ) (rows : List (List Complex)) : Type 0 where
  pub admitted : HasAdmittances network h parts
  pub listed : ListsLive network ordering
  pub entries : IsNodal parts ordering rows

-- of n + 1 nodes, k stands last
pub record IsLast (ordering : List ℕ) (n k : ℕ) : Type 0 where
  pub count : length ordering ≡ suc n
  pub last : get_or ordering n 0 ≡ k
