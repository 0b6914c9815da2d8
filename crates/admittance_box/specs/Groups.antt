-- The values of a group, its impedances and its drops, as the program holds them.
use Rattle.exact_fraction.specs.Fraction.{ratio_of}
use Rattle.complex_interval.specs.Ends.{Ends}
use Rattle.complex_interval.specs.Rect.{rectangle_of}
use Rattle.network_theory.specs.Branch.{Coupling}
use Rattle.admittance_box.specs.declared.coupling.CouplingIntervals.{CouplingIntervals}
use Rattle.admittance_box.specs.declared.coupling.CouplingValues.{CouplingValues}
use Rattle.admittance_box.specs.declared.coupling.ImpedanceIntervals.{ImpedanceIntervals}
use Rattle.admittance_box.specs.declared.group_current.GroupDrops.{GroupDrops}
use Rattle.admittance_box.specs.Coupling.{CouplingEnds, Impedances}
use Rattle.admittance_box.specs.Current.{Drops}

-- the exact values
abbrev pub coupling_of : CouplingValues → Coupling
coupling_of c = record {
  self_r = ratio_of c.self_r;
  self_x = ratio_of c.self_x;
  mutual_r = ratio_of c.mutual_r;
  x_ab = ratio_of c.x_ab;
  x_bc = ratio_of c.x_bc;
  x_ca = ratio_of c.x_ca;
  k = ratio_of c.k;
  m = ratio_of c.m;
}

-- the ends of the values
abbrev pub coupling_ends : {E : Type 0} → (E → Ends) → CouplingIntervals E → CouplingEnds
coupling_ends ends c = record {
  self_r = ends c.self_r;
  self_x = ends c.self_x;
  mutual_r = ends c.mutual_r;
  x_ab = ends c.x_ab;
  x_bc = ends c.x_bc;
  x_ca = ends c.x_ca;
  k = ends c.k;
  m = ends c.m;
  plain = c.plain;
}

-- the rectangles of the impedances
abbrev pub impedance_ends : {E : Type 0} → (E → Ends) → ImpedanceIntervals E → Impedances
impedance_ends ends z = record { own = rectangle_of ends z.own; ab = rectangle_of ends z.ab; bc = rectangle_of ends z.bc; ca = rectangle_of ends z.ca }

-- the rectangles of the drops
abbrev pub drop_ends : {E : Type 0} → (E → Ends) → GroupDrops E → Drops
drop_ends ends d = record { first = rectangle_of ends d.first; second = rectangle_of ends d.second; third = rectangle_of ends d.third }
