-- Which pins of a cell its labels name rightly, in the cell by itself.
use Rattle.std.specs.Prelude.{◌≡◌, ℕ, ◌<◌, List, Contains, Some, slice_get}
use Rattle.or_geom.specs.declared.shape.Shape.{Shape}
use Rattle.tech_rules.specs.declared.tech.Connect.{Connect}
use Rattle.tech_rules.specs.Net.{AreOnOneNet}
use Rattle.element_drawing.specs.PlainLabel.{PlainLabel}
use Rattle.label_binding.specs.Binding.{Binds, BindsNone}
use Rattle.label_binding.specs.BoundPlaces.{label_anchor}
use Rattle.cell_hierarchy.specs.Plain.{FlatLists}
use Rattle.leaf_shapes.specs.Candidates.{IsLabelOfPin}

-- a label of the pin binds the shape
pub record BindsForPin (lists : FlatLists) (pin : List ℕ) (shape : Shape) : Type 0 where
  pub label : PlainLabel
  pub listed : Contains lists.labels label
  pub of : IsLabelOfPin pin label
  pub binds : Binds lists.shapes (label_anchor label) shape

-- each label of the pin binds a shape
abbrev pub IsBound : FlatLists → List ℕ → Type 0
IsBound lists pin = (label : PlainLabel) → Contains lists.labels label → IsLabelOfPin pin label → BindsNone lists.shapes (label_anchor label) → ⊥

-- all shapes that its labels bind are on one net
abbrev pub IsOneNet : List Connect → FlatLists → List ℕ → Type 0
IsOneNet connections lists pin = (s t : Shape) → BindsForPin lists pin s → BindsForPin lists pin t → AreOnOneNet connections lists.shapes s t

-- no shape that a label of one pin binds is on one net with one that a label of the other binds
abbrev pub AreOnOtherNets : List Connect → FlatLists → List ℕ → List ℕ → Type 0
AreOnOtherNets connections lists pin other = (s t : Shape) → BindsForPin lists pin s → BindsForPin lists other t → AreOnOneNet connections lists.shapes s t → ⊥

-- The labels of the pin at this place are right, alone and with those of the pins before it.
pub record IsRightPin (connections : List Connect) (lists : FlatLists) (pins : List (List ℕ)) (place : ℕ) (pin : List ℕ) : Type 0 where
  pub bound : IsBound lists pin
  pub one : IsOneNet connections lists pin
  pub apart : (earlier : ℕ) (other : List ℕ) → earlier < place → slice_get pins earlier ≡ Some other → AreOnOtherNets connections lists other pin

-- those of the pins before this place are right
abbrev pub ArePinsRightBefore : List Connect → FlatLists → List (List ℕ) → ℕ → Type 0
ArePinsRightBefore connections lists pins count = (place : ℕ) (pin : List ℕ) → place < count → slice_get pins place ≡ Some pin → IsRightPin connections lists pins place pin

-- the labels of all pins are right
abbrev pub AreRightPins : List Connect → FlatLists → List (List ℕ) → Type 0
AreRightPins connections lists pins = (place : ℕ) (pin : List ℕ) → slice_get pins place ≡ Some pin → IsRightPin connections lists pins place pin

-- the first pin whose labels aren't right
pub record IsFirstWrongPin (connections : List Connect) (lists : FlatLists) (pins : List (List ℕ)) (pin : List ℕ) : Type 0 where
  pub place : ℕ
  pub here : slice_get pins place ≡ Some pin
  pub wrong : IsRightPin connections lists pins place pin → ⊥
  pub before : ArePinsRightBefore connections lists pins place
