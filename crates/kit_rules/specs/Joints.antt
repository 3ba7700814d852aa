-- Which connections may speak of the layers of wires.
use Rattle.std.specs.Prelude.{◌≡◌, ◌⊎◌, ◌<◌, ℕ, ◌+◌, Contains, Some, slice_get, slice_index}
use Rattle.tech_rules.specs.declared.tech.Connect.{Connect}
use Rattle.tech_rules.specs.declared.tech.Wire.{Wire}

-- the layer is the metal below or the metal above the cut of this index
abbrev pub IsBeside : Wire → ℕ → ℕ → Type 0
IsBeside wire index layer = (layer ≡ slice_index wire.metals index) ⊎ (layer ≡ slice_index wire.metals (index + 1))

-- the connection, where it is one of the wires' cut of this index, connects only metals beside this cut
abbrev pub IsBesideAt : Wire → Connect → ℕ → Type 0
IsBesideAt wire connect index = slice_get wire.cuts index ≡ Some connect.cut → (layer : ℕ) → Contains connect.to layer → IsBeside wire index layer

-- No metal is the cut of the connection, no cut of the wires is connected by it, and where it is one of a cut of the wires it
-- connects only the metals beside this cut.
pub record IsWireJoint (wire : Wire) (connect : Connect) : Type 0 where
  pub no_metal : Contains wire.metals connect.cut → ⊥
  pub no_cut : (layer : ℕ) → Contains connect.to layer → Contains wire.cuts layer → ⊥
  pub beside : (index : ℕ) → index < 3 → IsBesideAt wire connect index
