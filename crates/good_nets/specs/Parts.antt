-- A layout as parts: instances of cells at places, with nets on their ports, and wires of nets. What is known of one whose nets are
-- right, and how a part of another stands in for a part.
use Rattle.std.specs.Prelude.{◌≡◌, ◌⊎◌, ◌↔◌, ℕ, ℤ, List, Contains, Some, slice_get, map}
use Rattle.or_geom.specs.declared.shape.Point.{Point}
use Rattle.or_geom.specs.declared.shape.Shape.{Shape}
use Rattle.or_geom.specs.declared.place.Place.{Place}
use Rattle.or_geom.specs.Place.{placed}
use Rattle.netlist.specs.declared.rows.RowPin.{RowPin}
use Rattle.element_drawing.specs.PlainLabel.{PlainLabel}
use Rattle.tech_rules.specs.declared.tech.Connect.{Connect}
use Rattle.tech_rules.specs.Touch.{Touch}
use Rattle.cell_hierarchy.specs.FlatSet.{IsMoved}
use Rattle.net_extractor.specs.PlainNetLabel.{PlainNetLabel}
use Rattle.net_extractor.specs.Extraction.{AreNetsUnder}
use Rattle.net_extractor.specs.Difference.{AreAlike}
use Rattle.good_nets.specs.Ports.{ArePortsRight, IsOnPort, IsPlain, upright_place}
use Rattle.good_nets.specs.Seen.{IsLabelledAt}

-- Of each instance the flat shapes of its cell, its place, which shapes of the cell the labels of a port bind, and the nets on the
-- ports in order; and the wires of each net. Twins are one instance that is given in two ways.
pub record Parts (N : Type 0) : Type 1 where
  pub Instance : Type 0
  pub Twin : Instance → Instance → Type 0
  pub cell : Instance → List Shape
  pub place : Instance → Place
  pub Bound : Instance → ℕ → Shape → Type 0
  pub ports : Instance → List N
  pub Wire : N → Shape → Type 0

-- the same cell at the same place, with the same nets
pub record AreTwins {N : Type 0} (parts : Parts N) (i j : parts.Instance) : Type 0 where
  pub cell : parts.cell j ≡ parts.cell i
  pub place : parts.place j ≡ parts.place i
  pub bound : (port : ℕ) (inner : Shape) → parts.Bound i port inner ↔ parts.Bound j port inner
  pub ports : parts.ports j ≡ parts.ports i

module _ {N : Type 0} (connections : List Connect) (parts : Parts N) where
  -- the inner shape of the instance's cell stands as this shape
  pub record IsShapeOf (i : parts.Instance) (inner s : Shape) : Type 0 where
    pub listed : Contains (parts.cell i) inner
    pub moved : IsMoved (parts.place i) inner s

  -- the inner shape is on the net of the port, in the cell by itself
  abbrev pub IsOnPortOf : parts.Instance → ℕ → Shape → Type 0
  IsOnPortOf i port inner = IsOnPort connections (parts.cell i) (parts.Bound i) port inner

  -- it is on the net of no port
  abbrev pub IsFree : parts.Instance → Shape → Type 0
  IsFree i inner = (port : ℕ) → IsOnPortOf i port inner → ⊥

  -- a shape of an instance that is on the net of a port which has this net
  pub record IsOfInstance (n : N) (s : Shape) : Type 0 where
    pub i : parts.Instance
    pub inner : Shape
    pub is : IsShapeOf i inner s
    pub port : ℕ
    pub on : IsOnPortOf i port inner
    pub has : slice_get (parts.ports i) port ≡ Some n

  -- The shapes of a net.
  abbrev pub IsOfNet : N → Shape → Type 0
  IsOfNet n s = IsOfInstance n s ⊎ parts.Wire n s

  -- a shape of another instance, or a wire
  pub record IsOfOther (i : parts.Instance) (s : Shape) : Type 0 where
    pub other : parts.Instance
    pub differ : parts.Twin i other → ⊥
    pub inner : Shape
    pub is : IsShapeOf other inner s

  abbrev pub IsOutside : parts.Instance → Shape → Type 0
  IsOutside i s = IsOfOther i s ⊎ ((n : N) × parts.Wire n s)

  -- The shapes are those of the parts, cells stand upright or mirrored, and their labels name ports rightly. Each shape on the net of a port touches a
  -- shape on it: a conductor itself, a cut a conductor.
  pub record AreParts (shapes : List Shape) : Type 0 where
    pub all : (s : Shape) → Contains shapes s → ((i : parts.Instance) × (inner : Shape) × IsShapeOf i inner s) ⊎ ((n : N) × parts.Wire n s)
    pub stands : (i : parts.Instance) (inner s : Shape) → IsShapeOf i inner s → Contains shapes s
    pub wires : (n : N) (s : Shape) → parts.Wire n s → Contains shapes s
    pub plain : (i : parts.Instance) → IsPlain (parts.place i)
    pub right : (i : parts.Instance) → ArePortsRight connections (parts.cell i) (parts.Bound i)
    pub ported : (i : parts.Instance) (port : ℕ) (inner : Shape) → parts.Bound i port inner → (n : N) × (slice_get (parts.ports i) port ≡ Some n)
    pub turned : (i j : parts.Instance) → parts.Twin i j → parts.Twin j i
    pub twins : (i j : parts.Instance) → parts.Twin i j → AreTwins parts i j
    pub reached : (i : parts.Instance) (port : ℕ) (inner : Shape) → Contains (parts.cell i) inner → IsOnPortOf i port inner → (z : Shape) × Contains (parts.cell i) z × IsOnPortOf i port z × Touch connections z inner

  -- In such a layout labels and rows don't differ, labels of ports stay on their nets, no free shape touches one outside of its instance, and each wire is
  -- joined with a label of a port of its net.
  pub record AreRightParts (shapes : List Shape) (plain : List PlainLabel) (labels : List PlainNetLabel) (pins : List RowPin) : Type 1 where
    pub parts_are : AreParts shapes
    pub nets : AreNetsUnder connections shapes plain labels
    pub alike : AreAlike labels pins
    -- the rows of a port
    pub Row : parts.Instance → ℕ → RowPin → Type 0
    pub row : (i : parts.Instance) (port : ℕ) (n : N) → slice_get (parts.ports i) port ≡ Some n → (p : RowPin) × Row i port p
    pub listed : (i : parts.Instance) (port : ℕ) (p : RowPin) → Row i port p → Contains pins p
    pub same : (i j : parts.Instance) (a b : ℕ) (m n : N) (p q : RowPin) → slice_get (parts.ports i) a ≡ Some m → slice_get (parts.ports j) b ≡ Some n → Row i a p → Row j b q → p.net ≡ q.net → m ≡ n
    pub labelled : (i : parts.Instance) (port : ℕ) (inner s : Shape) (p : RowPin) → parts.Bound i port inner → IsMoved (parts.place i) inner s → Row i port p → IsLabelledAt connections shapes labels p s
    pub apart : (i : parts.Instance) (inner s t : Shape) → IsShapeOf i inner s → IsFree i inner → IsOutside i t → Touch connections s t → ⊥
    pub wired : (n : N) (s : Shape) → parts.Wire n s → (i : parts.Instance) × (port : ℕ) × (p : RowPin) × (slice_get (parts.ports i) port ≡ Some n) × Row i port p × IsLabelledAt connections shapes labels p s

-- The other layout's instance has the same cell, stands so much further right and up, and shows the nets of this one by the function f, which may merge
-- nets but not split them.
pub record StandsIn {N : Type 0} (parts window : Parts N) (f : N → N) (dx dy : ℤ) (i : parts.Instance) (j : window.Instance) : Type 0 where
  pub cell : window.cell j ≡ parts.cell i
  pub bound : (port : ℕ) (inner : Shape) → parts.Bound i port inner ↔ window.Bound j port inner
  pub ports : parts.ports i ≡ map f (window.ports j)
  pub place : (p : Point) → placed (window.place j) p ≡ placed (upright_place dx dy) (placed (parts.place i) p)

-- another layout, whose nets are right
pub record SeenLayout (N : Type 0) (connections : List Connect) : Type 1 where
  pub parts : Parts N
  pub shapes : List Shape
  pub plain : List PlainLabel
  pub labels : List PlainNetLabel
  pub pins : List RowPin
  pub right : AreRightParts connections parts shapes plain labels pins

-- two instances stand, moved, in a window
pub record ArePairSeen {N : Type 0} (connections : List Connect) (parts : Parts N) (i j : parts.Instance) : Type 1 where
  pub window : SeenLayout N connections
  pub f : N → N
  pub dx : ℤ
  pub dy : ℤ
  pub one : window.parts.Instance
  pub other : window.parts.Instance
  pub differ : window.parts.Twin one other → ⊥
  pub one_is : StandsIn parts window.parts f dx dy i one
  pub other_is : StandsIn parts window.parts f dx dy j other

-- an instance stands, moved, in a window, and what touches the wire there touches one that stands for it
pub record IsWireSeen {N : Type 0} (connections : List Connect) (parts : Parts N) (i : parts.Instance) (n : N) (t : Shape) : Type 1 where
  pub window : SeenLayout N connections
  pub f : N → N
  pub dx : ℤ
  pub dy : ℤ
  pub one : window.parts.Instance
  pub one_is : StandsIn parts window.parts f dx dy i one
  pub net : N
  pub named : f net ≡ n
  pub wire : Shape
  pub is : window.parts.Wire net wire
  pub keeps : (inner s s' : Shape) → IsShapeOf connections parts i inner s → IsMoved (upright_place dx dy) s s' → Touch connections s t → Touch connections s' wire

-- Whatever touches of two parts is seen in a window, and wires of different nets don't touch.
pub record AreSeen {N : Type 0} (connections : List Connect) (parts : Parts N) : Type 1 where
  pub pair : (i j : parts.Instance) (x y s t : Shape) → (parts.Twin i j → ⊥) → IsShapeOf connections parts i x s → IsShapeOf connections parts j y t → Touch connections s t → ArePairSeen connections parts i j
  pub wire : (i : parts.Instance) (x s t : Shape) (n : N) → IsShapeOf connections parts i x s → parts.Wire n t → Touch connections s t → IsWireSeen connections parts i n t
  pub wires : (m n : N) (s t : Shape) → parts.Wire m s → parts.Wire n t → Touch connections s t → m ≡ n
  pub wire_once : (m n : N) (s : Shape) → parts.Wire m s → parts.Wire n s → m ≡ n
  pub stable : (m n : N) → ((m ≡ n → ⊥) → ⊥) → m ≡ n
