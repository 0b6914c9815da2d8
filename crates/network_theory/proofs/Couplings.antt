-- Equal couplings.
use Rattle.exact_algebra.proofs.Ratios.{ratio_ring}
use Rattle.network_theory.specs.Branch.{Coupling, SameCoupling}
open ratio_ring use {same, next}

pub coupling_same : (c : Coupling) → SameCoupling c c
coupling_same c = record {
  self_r = same _;
  self_x = same _;
  mutual_r = same _;
  x_ab = same _;
  x_bc = same _;
  x_ca = same _;
  k = same _;
  m = same _;
}

pub coupling_next : (c d e : Coupling) → SameCoupling c d → SameCoupling d e → SameCoupling c e
coupling_next c d e p q = record {
  self_r = next p.self_r q.self_r;
  self_x = next p.self_x q.self_x;
  mutual_r = next p.mutual_r q.mutual_r;
  x_ab = next p.x_ab q.x_ab;
  x_bc = next p.x_bc q.x_bc;
  x_ca = next p.x_ca q.x_ca;
  k = next p.k q.k;
  m = next p.m q.m;
}
