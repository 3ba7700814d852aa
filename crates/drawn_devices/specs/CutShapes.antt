-- The shapes of a cell with its active shapes cut by gates, and the connections among them.
use Rattle.std.specs.Prelude.{◌≡◌, ◌⊎◌, ◌↔◌, ℕ, List, Contains}
use Rattle.std.specs.List.Sorted.{IsStrictlySortedBy}
use Rattle.or_geom.specs.declared.shape.Point.{Point}
use Rattle.or_geom.specs.declared.shape.Shape.{Shape}
use Rattle.or_geom.specs.Covered.{HasCell}
use Rattle.or_geom.specs.ShapeOrder.{shape_order}
use Rattle.tech_rules.specs.declared.tech.Connect.{Connect}
use Rattle.tech_rules.specs.declared.tech.Device.{Device}
use Rattle.tech_rules.specs.declared.tech.Tech.{Tech}
use Rattle.tech_rules.specs.Touch.{IsConductor, IsCutTo}
use Rattle.drawn_devices.specs.Cells.{LiesOn}
use Rattle.drawn_devices.specs.Diffusion.{IsActive, IsDiffusion}
use Rattle.drawn_devices.specs.Nets.{Member, Drawn, Diffused}

-- In order and once: the shapes on other than active layers, and on each active layer boxes that have exactly its diffusion
-- cells.
pub record AreCutShapes (devices : List Device) (shapes cut : List Shape) : Type 0 where
  pub rise : IsStrictlySortedBy shape_order cut
  pub drawn : (s : Shape) → (IsActive devices s.layer → ⊥) → Contains cut s ↔ Contains shapes s
  pub diffused : (layer : ℕ) (cell : Point) → IsActive devices layer → LiesOn cut layer cell ↔ IsDiffusion devices shapes layer cell

-- the shape is the member, or it has the member's cell
abbrev pub StandsIn : Member → Shape → Type 0
StandsIn (Drawn a) s = a ≡ s
StandsIn (Diffused layer cell) s = (layer ≡ s.layer) × HasCell s.rect cell.x cell.y

-- Active layers are conductors too, and no cuts; but a conductor may be a cut that connects itself, which changes nothing.
pub record AreCutConnections (tech : Tech) (connections : List Connect) : Type 0 where
  pub conductor : (layer : ℕ) → IsConductor connections layer ↔ (IsConductor tech.connects layer ⊎ IsActive tech.devices layer)
  pub kept : (cut other : ℕ) → (IsActive tech.devices cut → ⊥) → IsCutTo tech.connects cut other → IsCutTo connections cut other
  pub only : (cut other : ℕ) → IsCutTo connections cut other → (cut ≡ other) ⊎ (IsCutTo tech.connects cut other × (IsActive tech.devices cut → ⊥))
