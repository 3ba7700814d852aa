-- When a channel is sound.
use Rattle.std.specs.Prelude.{◌≡◌, ◌↔◌, List, Contains}
use Rattle.or_geom.specs.declared.shape.Point.{Point}
use Rattle.or_geom.specs.declared.shape.Rect.{Rect}
use Rattle.or_geom.specs.declared.shape.Shape.{Shape}
use Rattle.or_geom.specs.Covered.{HasCell}
use Rattle.tech_rules.specs.declared.tech.Device.{Device}
use Rattle.tech_rules.specs.declared.tech.Tech.{Tech}
use Rattle.tech_rules.specs.Touch.{ShareArea}
use Rattle.drawn_devices.specs.declared.drawn.Flow.{Flow}
use Rattle.drawn_devices.specs.Channels.{ChannelOf}
use Rattle.drawn_devices.specs.Diffusion.{IsActive}
use Rattle.drawn_devices.specs.Nets.{Drawn, AreOnDrawnNet}
use Rattle.drawn_devices.specs.Sides.{IsPassed}

-- the cells of the channel in which this one lies are those of the box
abbrev pub IsBoxOf : List Shape → Device → Point → Rect → Type 0
IsBoxOf shapes device cell box = (p : Point) → HasCell box p.x p.y ↔ ChannelOf shapes device cell p

-- the shape is one of the device's gate layer that shares area with the box
pub record IsGateOf (shapes : List Shape) (device : Device) (box : Rect) (gate : Shape) : Type 0 where
  pub listed : Contains shapes gate
  pub on : gate.layer ≡ device.gate
  pub over : ShareArea gate.rect box

-- The channel in which the cell lies is sound: it is a box with two opposite sides open and the other two shut; its gate
-- layer is no device's active layer; and the gates over it are on one net.
pub record IsSoundChannel (tech : Tech) (shapes : List Shape) (device : Device) (cell : Point) (box : Rect) (flow : Flow) : Type 0 where
  pub is : IsBoxOf shapes device cell box
  pub passed : IsPassed tech shapes device.active box flow
  pub drawn : IsActive tech.devices device.gate → ⊥
  pub one : (a b : Shape) → IsGateOf shapes device box a → IsGateOf shapes device box b → AreOnDrawnNet tech shapes (Drawn a) (Drawn b)
