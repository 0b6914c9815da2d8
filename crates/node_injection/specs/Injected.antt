-- Currents into the nodes of a network, as exact fractions in per unit.
use Rattle.std.specs.Prelude.{ℕ, List, [], ◌∷◌}
use Rattle.exact_algebra.specs.Ratio.{Ratio}
use Rattle.exact_algebra.specs.Complex.{Complex, complex_numbers, ◌+j◌}
use Rattle.linear_systems.specs.Assembly.{where_equal}
use Rattle.exact_fraction.specs.Fraction.{ratio_of}
use Rattle.node_injection.specs.declared.injection.NodeInjection.{NodeInjection}
open complex_numbers use {nought, ◌⊕◌}

-- a current into a node
pub record ExactInjection : Type 0 where
  pub node : ℕ
  pub re : Ratio
  pub im : Ratio

-- the current that an injection at a node is
abbrev pub exact_injection : NodeInjection → ExactInjection
exact_injection at = record { node = at.node.number; re = ratio_of at.re; im = ratio_of at.im }

-- the injection of each node: the sum of the currents into it
abbrev pub injected : List ExactInjection → ℕ → Complex
injected [] n = nought
injected (at ∷ list) n = where_equal complex_numbers at.node n (at.re +j at.im) ⊕ injected list n
