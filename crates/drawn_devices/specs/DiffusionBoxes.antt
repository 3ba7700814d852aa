-- Boxes that have the diffusion of a layer.
use Rattle.std.specs.Prelude.{◌≡◌, ◌⊎◌, ◌↔◌, ℕ, List, Contains, take}
use Rattle.or_geom.specs.declared.shape.Point.{Point}
use Rattle.or_geom.specs.declared.shape.Rect.{Rect}
use Rattle.or_geom.specs.declared.shape.Shape.{Shape}
use Rattle.or_geom.specs.Covered.{HasCell, HasCellInSome}
use Rattle.or_geom.specs.Gathering.{SomeHas}
use Rattle.tech_rules.specs.declared.tech.Device.{Device}
use Rattle.drawn_devices.specs.Cells.{LiesOn}
use Rattle.drawn_devices.specs.Diffusion.{IsActive, IsDiffusion}

-- the device has this active layer, and one of its gates has the cell
pub record IsGateAt (shapes : List Shape) (layer : ℕ) (cell : Point) (device : Device) : Type 0 where
  pub on : device.active ≡ layer
  pub gate : LiesOn shapes device.gate cell

-- the boxes have exactly the cells in gates of devices with this active layer
abbrev pub AreGatesOver : List Device → List Shape → ℕ → List Rect → Type 0
AreGatesOver devices shapes layer gates = (cell : Point) → HasCellInSome gates cell.x cell.y ↔ SomeHas (IsGateAt shapes layer cell) devices

-- they have exactly its diffusion cells
abbrev pub AreDiffusionBoxes : List Device → List Shape → ℕ → List Rect → Type 0
AreDiffusionBoxes devices shapes layer boxes = (cell : Point) → HasCellInSome boxes cell.x cell.y ↔ IsDiffusion devices shapes layer cell

-- a shape on an active layer all of whose cells are diffusion
pub record IsDiffusionShape (devices : List Device) (shapes : List Shape) (s : Shape) : Type 0 where
  pub active : IsActive devices s.layer
  pub each : (cell : Point) → HasCell s.rect cell.x cell.y → IsDiffusion devices shapes s.layer cell

-- the list grew by such shapes, which have all diffusion cells of the first devices' active layers
pub record IsDiffusionAdded (devices : List Device) (shapes : List Shape) (count : ℕ) (old new : List Shape) : Type 0 where
  pub kept : (s : Shape) → Contains old s → Contains new s
  pub only : (s : Shape) → Contains new s → Contains old s ⊎ IsDiffusionShape devices shapes s
  pub all : (layer : ℕ) (cell : Point) → IsActive (take count devices) layer → IsDiffusion devices shapes layer cell → LiesOn new layer cell
