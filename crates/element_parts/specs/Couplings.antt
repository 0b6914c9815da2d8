-- The values of coupled branches, exactly.
use Rattle.exact_fraction.specs.Fraction.{ratio_of}
use Rattle.network_theory.specs.Branch.{Coupling as ExactCoupling}
use Rattle.element_parts.specs.declared.phases.Coupling.{Coupling}

abbrev pub exact_coupling : Coupling → ExactCoupling
exact_coupling c = record {
  self_r = ratio_of c.self_r;
  self_x = ratio_of c.self_x;
  mutual_r = ratio_of c.mutual_r;
  x_ab = ratio_of c.x_ab;
  x_bc = ratio_of c.x_bc;
  x_ca = ratio_of c.x_ca;
  k = ratio_of c.k;
  m = ratio_of c.m;
}
