-- Diffusion: active shapes where no gate lies over them.
use Rattle.std.specs.Prelude.{◌≡◌, ℕ, List, Contains}
use Rattle.or_geom.specs.declared.shape.Point.{Point}
use Rattle.or_geom.specs.declared.shape.Shape.{Shape}
use Rattle.or_geom.specs.Gathering.{SomeHas}
use Rattle.tech_rules.specs.declared.tech.Device.{Device}
use Rattle.drawn_devices.specs.Cells.{LiesOn}

-- the layer is some device's active layer
abbrev pub IsActive : List Device → ℕ → Type 0
IsActive devices layer = SomeHas (λ (device : Device). device.active ≡ layer) devices

-- The unit cell is a diffusion cell of the layer: it lies in a shape of the layer, which is a device's active layer, and in
-- no shape of the gate layer of a device with that active layer.
pub record IsDiffusion (devices : List Device) (shapes : List Shape) (layer : ℕ) (cell : Point) : Type 0 where
  pub active : IsActive devices layer
  pub drawn : LiesOn shapes layer cell
  pub clear : (device : Device) → Contains devices device → device.active ≡ layer → LiesOn shapes device.gate cell → ⊥
