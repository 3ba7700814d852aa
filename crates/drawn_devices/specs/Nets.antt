-- Nets of shapes and diffusion cells.
use Rattle.std.specs.Prelude.{◌≡◌, ℕ, List, Contains}
use Rattle.or_geom.specs.declared.shape.Point.{Point}
use Rattle.or_geom.specs.declared.shape.Shape.{Shape}
use Rattle.or_geom.specs.Covered.{HasCell}
use Rattle.tech_rules.specs.declared.tech.Tech.{Tech}
use Rattle.tech_rules.specs.Touch.{IsCutTo, Touch}
use Rattle.drawn_devices.specs.Cells.{ShareSide}
use Rattle.drawn_devices.specs.Diffusion.{IsActive, IsDiffusion}
use Rattle.tech_rules.specs.Linked.{AreLinked}

-- what nets are made of: a shape as it is drawn, or a unit cell of diffusion on a layer
pub data Member : Type 0 where
  Drawn : Shape → Member
  Diffused : ℕ → Point → Member

-- the shapes on other than active layers, and the diffusion cells in place of those on active layers
abbrev pub IsMember : Tech → List Shape → Member → Type 0
IsMember tech shapes (Drawn shape) = Contains shapes shape × (IsActive tech.devices shape.layer → ⊥)
IsMember tech shapes (Diffused layer cell) = IsDiffusion tech.devices shapes layer cell

-- the cut connects the layer, and the cell lies in the cut
pub record IsUnderCut (tech : Tech) (cut : Shape) (layer : ℕ) (cell : Point) : Type 0 where
  pub connects : IsCutTo tech.connects cut.layer layer
  pub inside : HasCell cut.rect cell.x cell.y

-- Shapes touch as ever. Two diffusion cells of one layer touch where they share a side, and a diffusion cell touches a shape
-- of a cut where the cut connects its layer and the cell lies in the shape.
abbrev pub MembersTouch : Tech → Member → Member → Type 0
MembersTouch tech (Drawn a) (Drawn b) = Touch tech.connects a b
MembersTouch tech (Drawn cut) (Diffused layer cell) = IsUnderCut tech cut layer cell
MembersTouch tech (Diffused layer cell) (Drawn cut) = IsUnderCut tech cut layer cell
MembersTouch tech (Diffused l a) (Diffused m b) = (l ≡ m) × ShareSide a b

-- some finite list of members leads from one to the other, each touching the next
abbrev pub AreOnDrawnNet : Tech → List Shape → Member → Member → Type 0
AreOnDrawnNet tech shapes a b = AreLinked (IsMember tech shapes) (MembersTouch tech) a b
