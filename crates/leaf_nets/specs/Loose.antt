-- The loose shapes of a cell: those that are on no net of a pin, in the cell by itself.
use Rattle.std.specs.Prelude.{◌≡◌, ◌⊎◌, ◌↔◌, ℕ, List, Contains}
use Rattle.or_geom.specs.declared.shape.Shape.{Shape}
use Rattle.or_geom.specs.Gathering.{SomeHas}
use Rattle.tech_rules.specs.declared.tech.Connect.{Connect}
use Rattle.tech_rules.specs.Net.{AreOnOneNet}
use Rattle.cell_hierarchy.specs.Plain.{FlatLists}
use Rattle.leaf_nets.specs.RightPins.{BindsForPin}

-- the connection is one of a cut on the layer, or connects the layer
abbrev pub IsJoint : ℕ → Connect → Type 0
IsJoint layer connect = (connect.cut ≡ layer) ⊎ Contains connect.to layer

-- a shape on a conductor or a cut that isn't on the net of any of the pins
pub record IsLoose (connections : List Connect) (lists : FlatLists) (pins : List (List ℕ)) (shape : Shape) : Type 0 where
  pub listed : Contains lists.shapes shape
  pub on : SomeHas (IsJoint shape.layer) connections
  pub free : (pin : List ℕ) (bound : Shape) → Contains pins pin → BindsForPin lists pin bound → AreOnOneNet connections lists.shapes shape bound → ⊥

-- exactly the loose shapes
abbrev pub AreLoose : List Connect → FlatLists → List (List ℕ) → List Shape → Type 0
AreLoose connections lists pins loose = (shape : Shape) → Contains loose shape ↔ IsLoose connections lists pins shape
