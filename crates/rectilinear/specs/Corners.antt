-- The corners of a ring of points.
use Rattle.std.specs.Prelude.{List, [], ◌∷◌, Bool, false, ◌&&◌, cond, int_lt}
use Rattle.std.specs.Ordering.{int_eq}
use Rattle.or_geom.specs.declared.shape.Point.{Point}
use Rattle.rectilinear.specs.declared.ring.RingSide.{RingSide}
use Rattle.rectilinear.specs.Ring.{sides_of}

-- the side goes nowhere: its point is repeated
abbrev pub is_zero : RingSide → Bool
is_zero s = int_eq s.a.x s.b.x && int_eq s.a.y s.b.y

abbrev pub is_up : RingSide → Bool
is_up s = int_eq s.a.x s.b.x && int_lt s.a.y s.b.y

abbrev pub is_down : RingSide → Bool
is_down s = int_eq s.a.x s.b.x && int_lt s.b.y s.a.y

abbrev pub is_right : RingSide → Bool
is_right s = int_eq s.a.y s.b.y && int_lt s.a.x s.b.x

abbrev pub is_left : RingSide → Bool
is_left s = int_eq s.a.y s.b.y && int_lt s.b.x s.a.x

-- both sides go the same way, so the point between them lies inside a straight run
abbrev pub is_run : RingSide → RingSide → Bool
is_run s t = cond (is_up s) (is_up t) (cond (is_down s) (is_down t) (cond (is_right s) (is_right t) (cond (is_left s) (is_left t) false)))

-- the sides that go somewhere
abbrev pub steps : List RingSide → List RingSide
steps [] = []
steps (s ∷ ss) = cond (is_zero s) (steps ss) (s ∷ steps ss)

-- the beginnings of the sides that don't go on as the one before
abbrev pub turns_after : RingSide → List RingSide → List Point
turns_after s [] = []
turns_after s (t ∷ ts) = cond (is_run s t) (turns_after t ts) (t.a ∷ turns_after t ts)

abbrev pub last_of : RingSide → List RingSide → RingSide
last_of s [] = s
last_of s (t ∷ ts) = last_of t ts

abbrev pub turns : List RingSide → List Point
turns [] = []
turns (s ∷ ss) = turns_after (last_of s ss) (s ∷ ss)

-- what remains of the points of a ring
abbrev pub corners_of : List Point → List Point
corners_of points = turns (steps (sides_of points))
