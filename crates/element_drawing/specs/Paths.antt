-- The boxes of a path: one for each segment, half the width to each side.
use Rattle.std.specs.Prelude.{◌≡◌, ◌⊎◌, pos, ℤ, ◌+ℤ◌, ◌-ℤ◌, ◌<ℤ◌, List, [], ◌∷◌}
use Rattle.or_geom.specs.declared.shape.Point.{Point}
use Rattle.or_geom.specs.declared.shape.Rect.{Rect}

pub record IsRectOf (left bottom right top : ℤ) (r : Rect) : Type 0 where
  pub x1 : r.x1 ≡ left
  pub y1 : r.y1 ≡ bottom
  pub x2 : r.x2 ≡ right
  pub y2 : r.y2 ≡ top

-- q lies to the right of p
pub record IsRightward (p q : Point) : Type 0 where
  pub level : p.y ≡ q.y
  pub rises : p.x <ℤ q.x

-- q lies above p
pub record IsUpward (p q : Point) : Type 0 where
  pub level : p.x ≡ q.x
  pub rises : p.y <ℤ q.y

-- the box of the segment from p to q: half the width to each side, longer by `before` at p and by `after` at q
pub record IsSegmentBox (half before after : ℤ) (p q : Point) (r : Rect) : Type 0 where
  pub right : IsRightward p q → IsRectOf (p.x -ℤ before) (p.y -ℤ half) (q.x +ℤ after) (p.y +ℤ half) r
  pub left : IsRightward q p → IsRectOf (q.x -ℤ after) (p.y -ℤ half) (p.x +ℤ before) (p.y +ℤ half) r
  pub up : IsUpward p q → IsRectOf (p.x -ℤ half) (p.y -ℤ before) (p.x +ℤ half) (q.y +ℤ after) r
  pub down : IsUpward q p → IsRectOf (p.x -ℤ half) (q.y -ℤ after) (p.x +ℤ half) (p.y +ℤ before) r

-- The boxes of the segments from a point on: longer by half the width where another segment precedes or follows, by `last`
-- at the path's end, and by `before` at the point.
abbrev pub AreBoxesFrom : ℤ → ℤ → ℤ → Point → List Point → List Rect → Type 0
AreBoxesFrom half last before p [] rects = rects ≡ []
AreBoxesFrom half last before p (q ∷ qs) [] = ⊥
AreBoxesFrom half last before p (q ∷ []) (r ∷ rs) = IsSegmentBox half before last p q r × (rs ≡ [])
AreBoxesFrom half last before p (q ∷ next ∷ qs) (r ∷ rs) = IsSegmentBox half before half p q r × AreBoxesFrom half last half q (next ∷ qs) rs

-- how far the path's ends are longer: by half the width (kind 2) or not at all (kind 0)
abbrev pub IsEnd : ℤ → ℤ → ℤ → Type 0
IsEnd kind half last = ((kind ≡ pos 0) × (last ≡ pos 0)) ⊎ ((kind ≡ pos 2) × (last ≡ half))

-- the boxes of a path of this kind and width from p through the other points, in order
pub record AreBoxesOf (kind width : ℤ) (p : Point) (ps : List Point) (rects : List Rect) : Type 0 where
  pub half : ℤ
  pub last : ℤ
  pub halves : width ≡ half +ℤ half
  pub last_is : IsEnd kind half last
  pub boxes : AreBoxesFrom half last last p ps rects

abbrev pub AreBoxes : ℤ → ℤ → List Point → List Rect → Type 0
AreBoxes kind width [] rects = rects ≡ []
AreBoxes kind width (p ∷ ps) rects = AreBoxesOf kind width p ps rects
