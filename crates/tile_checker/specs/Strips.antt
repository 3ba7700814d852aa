-- Columns of cells that a layer covers, and the boxes of a frame over them.
use Rattle.std.specs.Prelude.{◌≡◌, ℤ, pos, ◌≤ℤ◌, ◌<ℤ◌, ◌+ℤ◌, ◌-ℤ◌, List, [], ◌∷◌, ◌++◌}
use Rattle.std.specs.Int.{int_max, int_min}
use Rattle.or_geom.specs.declared.shape.Point.{Point}
use Rattle.or_geom.specs.declared.shape.Rect.{Rect}
use Rattle.or_geom.specs.Covered.{HasCellInSome}
use Rattle.tile_checker.specs.declared.frame.Frame.{Frame}
use Rattle.tile_checker.specs.declared.strip.Strip.{Strip}
use Rattle.tile_checker.specs.Frame.{HasBoxAt, point}

-- what the boxes of the frame take together
pub record IsFrameHull (f : Frame) (hull : Rect) : Type 0 where
  pub left : hull.x1 ≡ f.low.x
  pub low : hull.y1 ≡ f.low.y
  pub right : hull.x2 ≡ f.high.x +ℤ f.width
  pub high : hull.y2 ≡ f.high.y +ℤ f.height

-- all boxes of the frame hold the cell at its high corner
pub record HaveCell (f : Frame) : Type 0 where
  pub across : f.low.x ≤ℤ f.high.x
  pub upward : f.low.y ≤ℤ f.high.y
  pub wide : f.high.x <ℤ (f.low.x +ℤ f.width)
  pub tall : f.high.y <ℤ (f.low.y +ℤ f.height)

-- the strip with the rectangle's columns alone, up to its upper side or the hull's
pub record IsRaisedBy (hull : Rect) (old : Strip) (r : Rect) (new : Strip) : Type 0 where
  pub left : new.left ≡ int_max old.left r.x1
  pub right : new.right ≡ int_min old.right r.x2
  pub bottom : new.bottom ≡ old.bottom
  pub top : new.top ≡ int_min r.y2 hull.y2

-- the same down to its lower side
pub record IsLoweredBy (hull : Rect) (old : Strip) (r : Rect) (new : Strip) : Type 0 where
  pub left : new.left ≡ int_max old.left r.x1
  pub right : new.right ≡ int_min old.right r.x2
  pub bottom : new.bottom ≡ int_max r.y1 hull.y1
  pub top : new.top ≡ old.top

-- the columns of the second strip, with the rows that both have
pub record HasCommonRows (a b new : Strip) : Type 0 where
  pub left : new.left ≡ b.left
  pub right : new.right ≡ b.right
  pub bottom : new.bottom ≡ int_max a.bottom b.bottom
  pub top : new.top ≡ int_min a.top b.top

-- the strip's cells are covered
abbrev pub IsClear : List Rect → Strip → Type 0
IsClear rects s = (i j : ℤ) → s.left ≤ℤ i → i <ℤ s.right → s.bottom ≤ℤ j → j <ℤ s.top → HasCellInSome rects i j

-- the strip lies in the hull, holds the column, and is covered
pub record IsStripThrough (rects : List Rect) (hull : Rect) (x : ℤ) (s : Strip) : Type 0 where
  pub left : hull.x1 ≤ℤ s.left
  pub before : s.left ≤ℤ x
  pub after : x <ℤ s.right
  pub right : s.right ≤ℤ hull.x2
  pub low : hull.y1 ≤ℤ s.bottom
  pub order : s.bottom ≤ℤ s.top
  pub high : s.top ≤ℤ hull.y2
  pub clear : IsClear rects s

-- and goes up from the cell as far as the cell's column is covered
pub record IsUpwardStrip (rects : List Rect) (hull : Rect) (cell : Point) (s : Strip) : Type 0 where
  pub along : IsStripThrough rects hull cell.x s
  pub from : s.bottom ≡ cell.y
  pub ends : s.top <ℤ hull.y2 → HasCellInSome rects cell.x s.top → ⊥

-- and goes as far down, and no less up, than the one before
pub record IsDownward (rects : List Rect) (hull : Rect) (x : ℤ) (old new : Strip) : Type 0 where
  pub along : IsStripThrough rects hull x new
  pub top : new.top ≡ old.top
  pub lower : new.bottom ≤ℤ old.bottom
  pub ends : hull.y1 <ℤ new.bottom → HasCellInSome rects x (new.bottom -ℤ pos 1) → ⊥

-- from one column up to another, the rows of a box that stands as high as y are covered
abbrev pub CoversColumns : List Rect → Frame → ℤ → ℤ → ℤ → Type 0
CoversColumns rects f from to y = (i j : ℤ) → from ≤ℤ i → i <ℤ to → y ≤ℤ j → j <ℤ (y +ℤ f.height) → HasCellInSome rects i j

-- a box of the frame whose part over these columns is covered lies between bottom and top
abbrev pub IsMost : List Rect → Frame → ℤ → ℤ → ℤ → ℤ → Type 0
IsMost rects f from to bottom top = (y : ℤ) → f.low.y ≤ℤ y → y ≤ℤ f.high.y → CoversColumns rects f from to y → (bottom ≤ℤ y) × ((y +ℤ f.height) ≤ℤ top)

-- a covered strip that holds the column, with as many rows as a box over that column may have
pub record IsStripAt (rects : List Rect) (f : Frame) (x : ℤ) (s : Strip) : Type 0 where
  pub left : f.low.x ≤ℤ s.left
  pub before : s.left ≤ℤ x
  pub after : x <ℤ s.right
  pub right : s.right ≤ℤ (f.high.x +ℤ f.width)
  pub low : f.low.y ≤ℤ s.bottom
  pub high : s.bottom ≤ℤ f.high.y
  pub clear : IsClear rects s
  pub most : IsMost rects f x (x +ℤ pos 1) s.bottom s.top

-- the columns are covered from bottom to top, between which the boxes over them lie that may be covered
pub record IsWindow (rects : List Rect) (f : Frame) (from to bottom top : ℤ) : Type 0 where
  pub low : f.low.y ≤ℤ bottom
  pub high : bottom ≤ℤ f.high.y
  pub clear : (i j : ℤ) → from ≤ℤ i → i <ℤ to → bottom ≤ℤ j → j <ℤ top → HasCellInSome rects i j
  pub most : IsMost rects f from to bottom top

-- the strip begins here, and its rows are those of all columns from the frame's high corner up to each of its own
pub record IsLink (rects : List Rect) (f : Frame) (from : ℤ) (s : Strip) : Type 0 where
  pub left : s.left ≡ from
  pub longer : s.left <ℤ s.right
  pub each : (to : ℤ) → s.left <ℤ to → to ≤ℤ s.right → IsWindow rects f f.high.x to s.bottom s.top

-- such strips, one after another
abbrev pub AreStripsUpTo : List Rect → Frame → ℤ → List Strip → ℤ → Type 0
AreStripsUpTo rects f from [] to = from ≡ to
AreStripsUpTo rects f from (s ∷ ss) to = IsLink rects f from s × AreStripsUpTo rects f s.right ss to

-- strips to the right of the frame's high corner: up to some column, behind which no box of the frame is covered that ends before the limit
pub record AreRights (rects : List Rect) (f : Frame) (strips : List Strip) (limit : ℤ) : Type 0 where
  pub reach : ℤ
  pub chain : AreStripsUpTo rects f f.high.x strips reach
  pub ends : (to y : ℤ) → reach <ℤ to → to ≤ℤ limit → f.low.y ≤ℤ y → y ≤ℤ f.high.y → CoversColumns rects f f.high.x to y → ⊥

-- the last strip begins before this column
abbrev pub EndsBefore : List Strip → ℤ → Type 0
EndsBefore strips to = (rest : List Strip) (last : Strip) → strips ≡ rest ++ (last ∷ []) → last.left <ℤ to

-- no box of the frame that stands at this column is covered
abbrev pub NoBoxAt : List Rect → Frame → ℤ → Type 0
NoBoxAt rects f x = (y : ℤ) → HasBoxAt rects f (point x y) → ⊥
