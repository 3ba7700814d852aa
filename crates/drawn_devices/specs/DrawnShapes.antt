-- The shapes that stay as they are drawn.
use Rattle.std.specs.Prelude.{◌≡◌, List}
use Rattle.or_geom.specs.declared.shape.Shape.{Shape}
use Rattle.tech_rules.specs.declared.tech.Device.{Device}
use Rattle.drawn_devices.specs.Diffusion.{IsActive}

-- the shape itself, where it is on other than an active layer
abbrev pub GivesDrawn : List Device → Shape → Shape → Type 0
GivesDrawn devices shape given = (given ≡ shape) × (IsActive devices shape.layer → ⊥)
