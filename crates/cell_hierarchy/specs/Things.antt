-- What is flattened: shapes, labels, and the points of labels, which are told also where the labels themselves aren't kept.
use Rattle.std.specs.Prelude.{◌≡◌, ◌⊎◌, ℕ, Bool, true, List, [], ◌∷◌, Contains, map}
use Rattle.or_geom.specs.declared.shape.Point.{Point}
use Rattle.or_geom.specs.declared.shape.Shape.{Shape}
use Rattle.or_geom.specs.Place.{placed}
use Rattle.gds_library.specs.declared.library.Element.{Element}
use Rattle.gds_library.specs.declared.library.Structure.{Structure}
use Rattle.tech_rules.specs.declared.tech.Layer.{Layer}
use Rattle.element_drawing.specs.PlainLabel.{PlainLabel}
use Rattle.element_drawing.specs.OwnLabels.{own_labels}
use Rattle.cell_chains.specs.Instances.{Item}
use Rattle.cell_chains.specs.Chains.{elements_of, IsItemOf}
use Rattle.cell_hierarchy.specs.FlatSet.{IsOwnShape, IsMoved, IsLabelMoved}
use Rattle.cell_hierarchy.specs.Plain.{plain_label}
use Rattle.cell_hierarchy.specs.declared.flat.Label.{Label}
use Rattle.cell_hierarchy.specs.declared.drawing.OwnDrawing.{OwnDrawing}
use Rattle.cell_hierarchy.specs.declared.gathered.Gathered.{Gathered}

pub data Thing : Type 0 where
  AShape : Shape → Thing
  ALabel : PlainLabel → Thing
  APoint : Point → Thing

-- p is the point of one of the elements' own labels
pub record IsOwnPoint (layers : List Layer) (elements : List Element) (p : Point) : Type 0 where
  pub text : PlainLabel
  pub among : Contains (own_labels layers elements) text
  pub is : text.at ≡ p

-- the elements draw it themselves; labels count where they are kept
abbrev pub IsOwnThing : List Layer → Bool → List Element → Thing → Type 0
IsOwnThing layers kept es (AShape s) = IsOwnShape layers es s
IsOwnThing layers kept es (ALabel l) = (kept ≡ true) × Contains (own_labels layers es) l
IsOwnThing layers kept es (APoint p) = IsOwnPoint layers es p

-- the item takes the first over as the second
abbrev pub MovesThing : Item → Thing → Thing → Type 0
MovesThing item (AShape a) (AShape b) = IsMoved item.place a b
MovesThing item (AShape a) (ALabel b) = ⊥
MovesThing item (AShape a) (APoint b) = ⊥
MovesThing item (ALabel a) (AShape b) = ⊥
MovesThing item (ALabel a) (ALabel b) = IsLabelMoved item a b
MovesThing item (ALabel a) (APoint b) = ⊥
MovesThing item (APoint a) (AShape b) = ⊥
MovesThing item (APoint a) (ALabel b) = ⊥
MovesThing item (APoint a) (APoint b) = b ≡ placed item.place a

-- it stands at the end of the chain that begins at the structure of this name
abbrev pub IsThingBy : List Layer → Bool → List Structure → List ℕ → List Item → Thing → Type 0
IsThingBy layers kept structs name [] x = IsOwnThing layers kept (elements_of structs name) x
IsThingBy layers kept structs name (item ∷ items) x =
    IsItemOf structs name item × (inner : Thing) × IsThingBy layers kept structs item.cell items inner × MovesThing item inner x

pub record IsFlatThing (layers : List Layer) (kept : Bool) (structs : List Structure) (name : List ℕ) (x : Thing) : Type 0 where
  pub chain : List Item
  pub stands : IsThingBy layers kept structs name chain x

-- it is one of these shapes, labels or points
abbrev pub IsListedThing : List Shape → List Label → List Point → Thing → Type 0
IsListedThing shapes labels points (AShape s) = Contains shapes s
IsListedThing shapes labels points (ALabel l) = Contains (map plain_label labels) l
IsListedThing shapes labels points (APoint p) = Contains points p

-- it is drawn
abbrev pub DrawsThing : OwnDrawing → Thing → Type 0
DrawsThing drawing x = IsListedThing drawing.shapes.items drawing.labels.items drawing.points.items x

-- it was gathered
abbrev pub HasThing : Gathered → Thing → Type 0
HasThing gathered x = IsListedThing gathered.shapes.items gathered.labels.items gathered.points.items x

-- what was gathered grew by exactly the things that have P
pub record GatheredGrows (old new : Gathered) (P : Thing → Type 0) : Type 0 where
  pub only : (x : Thing) → HasThing new x → HasThing old x ⊎ P x
  pub stays : (x : Thing) → HasThing old x → HasThing new x
  pub each : (x : Thing) → P x → HasThing new x
