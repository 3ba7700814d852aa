-- The sides of a ring of points.
use Rattle.std.specs.Prelude.{List, [], ◌∷◌}
use Rattle.or_geom.specs.declared.shape.Point.{Point}
use Rattle.rectilinear.specs.declared.ring.RingSide.{RingSide}

-- the side from one point to another
abbrev pub side : Point → Point → RingSide
side p q = record { a = p; b = q }

-- the sides from a point on through the next ones to the last
abbrev pub sides_on : Point → List Point → Point → List RingSide
sides_on p [] last = side p last ∷ []
sides_on p (q ∷ qs) last = side p q ∷ sides_on q qs last

-- from each point to the next, and from the last back to the first
abbrev pub sides_of : List Point → List RingSide
sides_of [] = []
sides_of (p ∷ ps) = sides_on p ps p
