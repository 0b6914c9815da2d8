-- A point of the code as contracts see it.
use Rattle.complex_interval.specs.Rectangles.{Rectangle}
use Rattle.middle_inverse.specs.Inverse.{point_ends}
use Rattle.middle_inverse.specs.declared.raw.Point.{Point}

-- the rectangle whose ends agree
abbrev pub rectangle_at : Point → Rectangle
rectangle_at x = record { re = point_ends x.re; im = point_ends x.im }
