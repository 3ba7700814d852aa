-- When two shapes touch, under the connections of a technology.
use Rattle.std.specs.Prelude.{◌≡◌, ◌⊎◌, ℕ, ℤ, List, Contains}
use Rattle.or_geom.specs.declared.shape.Rect.{Rect}
use Rattle.or_geom.specs.declared.shape.Shape.{Shape}
use Rattle.or_geom.specs.Covered.{HasCell}
use Rattle.or_geom.specs.Joined.{AreJoined}
use Rattle.or_geom.specs.Gathering.{SomeHas}
use Rattle.tech_rules.specs.declared.tech.Connect.{Connect}

-- a conductor is a layer that some cut connects
abbrev pub IsConductor : List Connect → ℕ → Type 0
IsConductor connections layer = SomeHas (λ (connect : Connect). Contains connect.to layer) connections

-- the connection is one of this cut layer, and the other layer is one of those that it connects
pub record Joins (cut other : ℕ) (connect : Connect) : Type 0 where
  pub by : connect.cut ≡ cut
  pub to : Contains connect.to other

-- the cut layer connects the other layer
abbrev pub IsCutTo : List Connect → ℕ → ℕ → Type 0
IsCutTo connections cut other = SomeHas (Joins cut other) connections

-- a unit cell lies in both boxes
pub record ShareArea (a b : Rect) : Type 0 where
  pub x : ℤ
  pub y : ℤ
  pub in_a : HasCell a x y
  pub in_b : HasCell b x y

-- both are on one conductor layer and are joined
pub record TouchOnLayer (connections : List Connect) (a b : Shape) : Type 0 where
  pub one_layer : a.layer ≡ b.layer
  pub conductor : IsConductor connections a.layer
  pub joined : AreJoined a.rect b.rect

-- one is on a cut layer, the other on a layer which that cut connects, and their boxes share area
pub record TouchByCut (connections : List Connect) (cut other : Shape) : Type 0 where
  pub connects : IsCutTo connections cut.layer other.layer
  pub area : ShareArea cut.rect other.rect

abbrev pub Touch : List Connect → Shape → Shape → Type 0
Touch connections a b = TouchOnLayer connections a b ⊎ (TouchByCut connections a b ⊎ TouchByCut connections b a)
