-- The connections that stand for those of a technology among cut shapes.
use Rattle.std.specs.Prelude.{◌≡◌, ◌⊎◌, ℕ, List, [], ◌∷◌}
use Rattle.or_geom.specs.Gathering.{SomeGives}
use Rattle.tech_rules.specs.declared.tech.Connect.{Connect}
use Rattle.tech_rules.specs.declared.tech.Device.{Device}
use Rattle.drawn_devices.specs.Diffusion.{IsActive}

-- of the layer with itself
abbrev pub alone : ℕ → Connect
alone layer = record { cut = layer; to = layer ∷ [] }

abbrev pub GivesAlone : ℕ → Connect → Type 0
GivesAlone layer given = given ≡ alone layer

abbrev pub GivesDevice : Device → Connect → Type 0
GivesDevice device given = given ≡ alone device.active

-- the connection, or where its cut is an active layer each of its other layers alone
abbrev pub GivesConnection : List Device → Connect → Connect → Type 0
GivesConnection devices connect given = (IsActive devices connect.cut × SomeGives GivesAlone connect.to given) ⊎ ((IsActive devices connect.cut → ⊥) × (given ≡ connect))
