-- What a structure takes over from the structures to which its elements refer.
use Rattle.std.specs.Prelude.{ℕ, ◌<◌, List}
use Rattle.or_geom.specs.declared.shape.Shape.{Shape}
use Rattle.element_drawing.specs.PlainLabel.{PlainLabel}
use Rattle.gds_library.specs.declared.library.Element.{Element}
use Rattle.cell_chains.specs.Instances.{Item}
use Rattle.cell_chains.specs.Chains.{IsItemFrom}
use Rattle.cell_hierarchy.specs.FlatSet.{IsMoved, IsLabelMoved}

-- one of the numbers below n has P with x
pub record SomeBelow {X : Type 0} (P : ℕ → X → Type 0) (n : ℕ) (x : X) : Type 0 where
  pub index : ℕ
  pub below : index < n
  pub has : P index x

abbrev pub MovesShape : Item → Shape → Shape → Type 0
MovesShape item inner s = IsMoved item.place inner s

abbrev pub MovesLabel : Item → PlainLabel → PlainLabel → Type 0
MovesLabel item inner label = IsLabelMoved item inner label

-- an item of the elements takes x over from what is flat in its structure
pub record IsTaken {X : Type 0} (Moves : Item → X → X → Type 0) (In : List ℕ → X → Type 0) (n : ℕ) (es : List Element) (x : X) : Type 0 where
  pub item : Item
  pub stands : IsItemFrom n es item
  pub inner : X
  pub is_there : In item.cell inner
  pub moved : Moves item inner x
