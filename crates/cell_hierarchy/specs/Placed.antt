-- Things of a cell that stands somewhere below the top.
use Rattle.std.specs.Prelude.{◌≡◌, ℕ, ◌+◌, Bool, true, List, [], ◌∷◌, ◌++◌}
use Rattle.std.specs.Str.{IsAscii}
use Rattle.or_geom.specs.declared.shape.Point.{Point}
use Rattle.or_geom.specs.declared.place.Place.{Place}
use Rattle.or_geom.specs.Place.{placed, IsWithin}
use Rattle.gds_library.specs.declared.library.Structure.{Structure}
use Rattle.tech_rules.specs.declared.tech.Layer.{Layer}
use Rattle.element_drawing.specs.PlainLabel.{PlainLabel}
use Rattle.cell_chains.specs.Instances.{Item}
use Rattle.cell_hierarchy.specs.FlatSet.{IsMoved}
use Rattle.cell_hierarchy.specs.Things.{Thing, MovesThing, IsFlatThing, DrawsThing}
use Rattle.cell_hierarchy.specs.Things.Thing.{AShape, ALabel, APoint}
use Rattle.cell_hierarchy.specs.Plain.{plain_label}
use Rattle.cell_hierarchy.specs.declared.flat.Label.{Label}
use Rattle.cell_hierarchy.specs.declared.drawing.OwnDrawing.{OwnDrawing}
use Rattle.cell_hierarchy.specs.declared.placement.Placement.{Placement}

-- the one path and below it the other, with a `/` between them where neither is empty
abbrev pub path_join : List ℕ → List ℕ → List ℕ
path_join [] inner = inner
path_join (b ∷ bs) [] = b ∷ bs
path_join (b ∷ bs) (c ∷ cs) = b ∷ (bs ++ (47 ∷ c ∷ cs))

-- the label of a cell that stands at the place and below the path
pub record IsLabelAt (path : List ℕ) (place : Place) (inner made : PlainLabel) : Type 0 where
  pub path_is : made.path ≡ path_join path inner.path
  pub name : made.name ≡ inner.name
  pub layer : made.layer ≡ inner.layer
  pub at : made.at ≡ placed place inner.at

-- what the first, in a cell that stands there, is in the top
abbrev pub IsThingAt : List ℕ → Place → Thing → Thing → Type 0
IsThingAt path place (AShape a) (AShape b) = IsMoved place a b
IsThingAt path place (AShape a) (ALabel b) = ⊥
IsThingAt path place (AShape a) (APoint b) = ⊥
IsThingAt path place (ALabel a) (AShape b) = ⊥
IsThingAt path place (ALabel a) (ALabel b) = IsLabelAt path place a b
IsThingAt path place (ALabel a) (APoint b) = ⊥
IsThingAt path place (APoint a) (AShape b) = ⊥
IsThingAt path place (APoint a) (ALabel b) = ⊥
IsThingAt path place (APoint a) (APoint b) = b ≡ placed place a

-- the label, at the place and below the path, makes the other; so does the point
abbrev pub LabelGives : List ℕ → Place → Label → PlainLabel → Type 0
LabelGives path place own made = IsLabelAt path place (plain_label own) made

abbrev pub PointGives : Place → Point → Point → Type 0
PointGives place own made = made ≡ placed place own

-- x is what one of the drawing's things is in the top
pub record IsOfDrawing (drawing : OwnDrawing) (at : Placement) (x : Thing) : Type 0 where
  pub inner : Thing
  pub own : DrawsThing drawing inner
  pub stands : IsThingAt at.path.now at.place inner x

-- x is what one of the flat things of the structure of this name is in the top
pub record IsOfCell (layers : List Layer) (kept : Bool) (structs : List Structure) (at : Placement) (name : List ℕ) (x : Thing) : Type 0 where
  pub inner : Thing
  pub flat : IsFlatThing layers kept structs name inner
  pub stands : IsThingAt at.path.now at.place inner x

-- x is what one of the flat things of the item's structure is in the top, where the item's own structure stands there
pub record IsOfItem (layers : List Layer) (kept : Bool) (structs : List Structure) (at : Placement) (item : Item) (x : Thing) : Type 0 where
  pub inner : Thing
  pub flat : IsFlatThing layers kept structs item.cell inner
  pub middle : Thing
  pub moved : MovesThing item inner middle
  pub stands : IsThingAt at.path.now at.place middle x

-- an item of this name and place in a cell that stands there; the name counts where labels are kept
pub record IsPlacedBelow (kept : Bool) (outer : Placement) (name : List ℕ) (place : Place) (made : Placement) : Type 0 where
  pub path : kept ≡ true → made.path.now ≡ path_join outer.path.now name
  pub ascii : IsAscii made.path.now
  pub applied : (p : Point) → placed made.place p ≡ placed outer.place (placed place p)
  pub bound : (m n : ℕ) → IsWithin m outer.place.at → IsWithin n place.at → IsWithin (m + n) made.place.at
