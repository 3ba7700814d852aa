-- Which design rules may speak of the layers of wires.
use Rattle.std.specs.Prelude.{◌≡◌, ◌⊎◌, ◌<◌, ℕ, ◌+◌, ℤ, ◌≤ℤ◌, List, Contains, Some, slice_get, slice_index}
use Rattle.tech_rules.specs.declared.tech.Rule.{Rule}
use Rattle.tech_rules.specs.declared.tech.Rule.TheVariants.{Width, Space, Enclose}
use Rattle.tech_rules.specs.declared.tech.Wire.{Wire}
use Rattle.leaf_shapes.specs.Outline.{IsWireLayer}

-- a space rule of one layer with itself; for a cut of the wires its minimum is at most the space between wires
pub record IsOwnSpace (wire : Wire) (layer other : ℕ) (min : ℤ) : Type 0 where
  pub one : layer ≡ other
  pub cut : Contains wire.cuts layer → min ≤ℤ wire.space

-- the metal below or the metal above this cut of the wires is listed
pub record IsEnclosedCut (wire : Wire) (by : List ℕ) (cut index : ℕ) : Type 0 where
  pub below : index < 3
  pub is : slice_get wire.cuts index ≡ Some cut
  pub by_metal : Contains by (slice_index wire.metals index) ⊎ Contains by (slice_index wire.metals (index + 1))

-- A rule that the wires of every macro keep wherever those of the smallest macros do: one that isn't about a layer of wires; a
-- width rule; a space rule of one layer with itself; an enclose rule of a cut by a metal beside it.
abbrev pub IsWireRule : Wire → Rule → Type 0
IsWireRule wire (Width layer min) = Unit {0}
IsWireRule wire (Space layer other min) = ((IsWireLayer wire layer → ⊥) × (IsWireLayer wire other → ⊥)) ⊎ IsOwnSpace wire layer other min
IsWireRule wire (Enclose layer by min) = (IsWireLayer wire layer → ⊥) ⊎ ((index : ℕ) × IsEnclosedCut wire by layer index)
