-- What is on one net under some connections and among some shapes is so under more connections and among more shapes.
use Rattle.std.proofs.Common.{inl, inr, ℕ, List, [], ◌∷◌, Contains, refl}
use Rattle.or_geom.specs.declared.shape.Shape.{Shape}
use Rattle.tech_rules.specs.declared.tech.Connect.{Connect}
use Rattle.tech_rules.specs.Touch.{IsConductor, IsCutTo, Touch}
use Rattle.tech_rules.specs.Net.{AreOnOneNet}
use Rattle.tech_rules.proofs.LinkedLaws.{linked_map}

-- each layer that a cut connects under the one is connected by it under the other
abbrev pub ConnectsToo : List Connect → List Connect → Type 0
ConnectsToo connections others = (cut layer : ℕ) → IsCutTo connections cut layer → IsCutTo others cut layer

-- a conductor is connected by some cut
pub by_cut : (connections : List Connect) (layer : ℕ) → IsConductor connections layer → (cut : ℕ) × IsCutTo connections cut layer
by_cut [] layer none = absurd none
by_cut (c ∷ cs) layer (inl to) = (c.cut, inl (record { by = refl; to = to }))
by_cut (c ∷ cs) layer (inr later) = let found = by_cut cs layer later in (found.0, inr found.1)

pub of_cut : (connections : List Connect) (cut layer : ℕ) → IsCutTo connections cut layer → IsConductor connections layer
of_cut [] cut layer none = absurd none
of_cut (c ∷ cs) cut layer (inl j) = inl j.to
of_cut (c ∷ cs) cut layer (inr later) = inr (of_cut cs cut layer later)

pub conductor_too : (connections others : List Connect) → ConnectsToo connections others → (layer : ℕ) → IsConductor connections layer → IsConductor others layer
conductor_too connections others too layer conductor = let cut = by_cut connections layer conductor in of_cut others cut.0 layer (too cut.0 layer cut.1)

pub touch_too : (connections others : List Connect) → ConnectsToo connections others → (s t : Shape) → Touch connections s t → Touch others s t
touch_too connections others too s t (inl touch) = inl (record { one_layer = touch.one_layer; conductor = conductor_too connections others too s.layer touch.conductor; joined = touch.joined })
touch_too connections others too s t (inr (inl touch)) = inr (inl (record { connects = too s.layer t.layer touch.connects; area = touch.area }))
touch_too connections others too s t (inr (inr touch)) = inr (inr (record { connects = too t.layer s.layer touch.connects; area = touch.area }))

-- The net is one among more shapes, under more connections.
pub net_lifted : (connections others : List Connect) (shapes more : List Shape) → ConnectsToo connections others → ((s : Shape) → Contains shapes s → Contains more s) → (s t : Shape) → AreOnOneNet connections shapes s t → AreOnOneNet others more s t
net_lifted connections others shapes more too listed s t net = linked_map (Contains shapes) (Touch connections) (Contains more) (Touch others) (λ (u : Shape). u) listed (λ u v touch. touch_too connections others too u v touch) s t net
