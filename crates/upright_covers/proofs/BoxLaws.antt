-- What covers a box near a zone in one memory covers it in another, where the wires that do have their like there.
use Rattle.std.proofs.Common.{◌≡◌, ◌⊎◌, inl, inr, ◌∙◌, ℕ, ℤ, pos, ◌+ℤ◌, ◌-ℤ◌, ◌≤ℤ◌, ◌<ℤ◌, List, sym, subst, arith}
use Rattle.std.proofs.lemmas.Int.{ints}
use Rattle.or_geom.specs.declared.shape.Rect.{Rect}
use Rattle.or_geom.specs.declared.shape.Shape.{Shape}
use Rattle.or_geom.specs.Covered.{HasCell, HasCellInSome}
use Rattle.or_geom.proofs.CoverLaws.{cell_among}
use Rattle.shape_bins.specs.Layers.{rects_on, IsCoveredBy}
use Rattle.shape_bins.proofs.CoverLaws.{on_rects, shape_over}
use Rattle.tech_rules.specs.declared.tech.Rule.{Rule}
use Rattle.tech_rules.specs.declared.tech.Wire.{Wire}
use Rattle.cell_builder.specs.Flat.{IsShapeTaken}
use Rattle.sram_netlist.specs.Organization.{Organization}
use Rattle.sram_netlist.specs.Netlist.{role}
use Rattle.sram_netlist.specs.BitCells.{BitCells}
use Rattle.macro_layout.specs.LayoutKit.{LayoutKit}
use Rattle.macro_layout.specs.Places.{Floorplan, leaf_cell}
use Rattle.macro_layout.specs.Floorplan.{Tracks}
use Rattle.macro_layout.specs.Layout.{IsOfLeaf}
use Rattle.local_report.specs.Moved.{IsMovedBy}
use Rattle.good_places.specs.Leaves.{Zone, zone_of, LiesNear, AreNearZones}
use Rattle.good_places.specs.Seen.{AreCompared}
use Rattle.leaf_shapes.specs.Outline.{IsWireLayer}
use Rattle.good_places.proofs.LaidLaws.{in_zone}
use Rattle.good_places.proofs.LookLaws.{shape_moves}
use Rattle.good_wires.specs.Drawn.{IsDrawnWire}
use Rattle.good_wires.specs.Kept.{HasDrawnShapes}
use Rattle.good_wires.proofs.ClearLaws.{ZoneKind, zone_kind}

-- the unit cell lies in the zone
pub record IsCellIn (z : Zone) (x y : ℤ) : Type 0 where
  pub left : z.left ≤ℤ x
  pub right : x <ℤ z.right
  pub low : z.low ≤ℤ y
  pub high : y <ℤ z.high

cell_in : (z : Zone) (r : Rect) (x y : ℤ) → LiesNear (pos 0) z r → HasCell r x y → IsCellIn z x y
cell_in z r x y l c = record {
  left = let p = l.left in let q = c.left in omega (arith, ints, p, q);
  right = let p = l.right in let q = c.right in omega (arith, ints, p, q);
  low = let p = l.low in let q = c.low in omega (arith, ints, p, q);
  high = let p = l.high in let q = c.high in omega (arith, ints, p, q);
}

module _ (Flat : List ℕ → Shape → Type 0) (plan : Organization) (kit : LayoutKit) (bits : BitCells) (wire : Wire) (tracks : Tracks) (f : Floorplan) (by : ℤ) (shapes : List Shape) (h : HasDrawnShapes Flat plan kit bits wire tracks f by shapes) where
  -- the cell lies in a shape of a leaf instance, and so in the instance's zone
  pub record IsLeafCell (layer : ℕ) (x y : ℤ) : Type 0 where
    pub shape : Shape
    pub on : shape.layer ≡ layer
    pub holds : HasCell shape.rect x y
    pub of : IsOfLeaf plan kit bits f IsShapeTaken Flat shape
    pub within : IsCellIn (zone_of plan kit f of.leaf of.place) x y
    pub kind : ZoneKind plan kit wire tracks f h.drawn (zone_of plan kit f of.leaf of.place)

  -- or in a wire
  pub record IsWireCell (layer : ℕ) (x y : ℤ) : Type 0 where
    pub shape : Shape
    pub on : shape.layer ≡ layer
    pub holds : HasCell shape.rect x y
    pub is : IsDrawnWire plan kit wire tracks f shape

  pub leaf_lies : (a : Shape) → IsWireLayer wire a.layer → (o : IsOfLeaf plan kit bits f IsShapeTaken Flat a) → LiesNear (pos 0) (zone_of plan kit f o.leaf o.place) a.rect
  leaf_lies a own o = in_zone plan kit wire f (pos 0) h.drawn.laid o.leaf o.place o.taken.inner a o.has o.stands (h.inside o.leaf o.taken.inner o.has o.taken.has (subst (IsWireLayer wire) o.taken.moved.layer own)) o.taken.moved

  pub cell_kind : (layer : ℕ) (x y : ℤ) → IsWireLayer wire layer → HasCellInSome (rects_on layer shapes) x y → IsLeafCell layer x y ⊎ IsWireCell layer x y
  cell_kind layer x y own has =
      let s = shape_over layer shapes x y has in
      elim ((h.has layer own s.shape s.on).0 s.there) [
        | inl wired ↦ inr (record { shape = s.shape; on = s.on; holds = s.holds; is = wired })
        | inr o ↦ inl (record {
          shape = s.shape;
          on = s.on;
          holds = s.holds;
          of = o;
          within = cell_in (zone_of plan kit f o.leaf o.place) s.shape.rect x y (leaf_lies s.shape (subst (IsWireLayer wire) (sym s.on) own) o) s.holds;
          kind = zone_kind plan kit wire tracks f h.drawn o.leaf o.place o.has o.stands;
        })
      ]

  pub wire_covers : (layer : ℕ) (x y : ℤ) → IsWireLayer wire layer → IsWireCell layer x y → HasCellInSome (rects_on layer shapes) x y
  wire_covers layer x y own w = cell_among (rects_on layer shapes) w.shape.rect x y (on_rects layer shapes w.shape ((h.has layer own w.shape w.on).1 (inl w.is)) w.on) w.holds

-- a cell of a box that lies near a zone, in another zone
pub cells_near : (d reach : ℤ) (z near : Zone) (box : Rect) (x y : ℤ) → LiesNear d near box → d ≤ℤ reach → HasCell box x y → IsCellIn z x y → AreNearZones reach z near
cells_near d reach z near box x y l le has inside = record {
  left = let p = l.right in let q = has.right in let r = inside.left in omega (arith, ints, p, q, r, le);
  right = let p = l.left in let q = has.left in let r = inside.right in omega (arith, ints, p, q, r, le);
  low = let p = l.high in let q = has.high in let r = inside.low in omega (arith, ints, p, q, r, le);
  high = let p = l.low in let q = has.low in let r = inside.high in omega (arith, ints, p, q, r, le);
}

module _ (Flat : List ℕ → Shape → Type 0) (rules : List Rule) (plan other : Organization) (kit : LayoutKit) (bits : BitCells) (f g : Floorplan) (wire : Wire) (tracks many : Tracks) (by reach : ℤ) (here there : Zone) (from to : List Shape)
    (c : AreCompared Flat rules plan other kit bits f g wire by reach here there from) (flat : HasDrawnShapes Flat plan kit bits wire tracks f by to) (flat_there : HasDrawnShapes Flat other kit bits wire many g by from) where
  -- a shape of a leaf instance that may be felt covers, moved, what it covers there
  leaf_kept : (layer : ℕ) (x y : ℤ) → IsWireLayer wire layer → (l : IsLeafCell Flat other kit bits wire many g by from flat_there layer x y) → AreNearZones reach (zone_of other kit g l.of.leaf l.of.place) there → HasCellInSome (rects_on layer to) (x +ℤ c.alike.right) (y +ℤ c.alike.up)
  leaf_kept layer x y own l near =
      let o = l.of in
      let m = shape_moves Flat plan kit bits f c.alike.right c.alike.up (role other o.leaf) (leaf_cell other kit bits o.leaf) o.place o.taken.inner l.shape (c.alike.to o.leaf o.place o.has o.stands near) o.taken.has o.taken.moved in
      let at = m.moved.2 in
      let holds = l.holds in
      cell_among (rects_on layer to) m.moved.0.rect (x +ℤ c.alike.right) (y +ℤ c.alike.up) (on_rects layer to m.moved.0 ((flat.has layer own m.moved.0 (m.moved.1 ∙ l.on)).1 (inr m.of)) (m.moved.1 ∙ l.on)) (shift l.shape.rect m.moved.0.rect at holds)
    where
      shift : (r m : Rect) → IsMovedBy c.alike.right c.alike.up r m → HasCell r x y → HasCell m (x +ℤ c.alike.right) (y +ℤ c.alike.up)
      shift r m at h = record {
        left = let p = at.x1 in let q = h.left in omega (arith, ints, p, q);
        right = let p = at.x2 in let q = h.right in omega (arith, ints, p, q);
        low = let p = at.y1 in let q = h.low in omega (arith, ints, p, q);
        high = let p = at.y2 in let q = h.high in omega (arith, ints, p, q);
      }

  -- so do the wires, where each that covers a cell of the box covers it, moved, here
  pub box_kept : (layer : ℕ) (d : ℤ) (box : Rect) → IsWireLayer wire layer → LiesNear d there box → d ≤ℤ reach
      → ((x y : ℤ) → HasCell box x y → IsWireCell Flat other kit bits wire many g by from flat_there layer x y → IsWireCell Flat plan kit bits wire tracks f by to flat layer (x +ℤ c.alike.right) (y +ℤ c.alike.up))
      → (moved : Rect) → IsMovedBy c.alike.right c.alike.up box moved → IsCoveredBy layer from box → IsCoveredBy layer to moved
  box_kept layer d box own lies le wires moved at covered x y has =
      let there_x = x -ℤ c.alike.right in
      let there_y = y -ℤ c.alike.up in
      let inside : HasCell box there_x there_y = back has in
      let kept : HasCellInSome (rects_on layer to) (there_x +ℤ c.alike.right) (there_y +ℤ c.alike.up) = elim (cell_kind Flat other kit bits wire many g by from flat_there layer there_x there_y own (covered there_x there_y inside)) [
        | inl l ↦ leaf_kept layer there_x there_y own l (cells_near d reach (zone_of other kit g l.of.leaf l.of.place) there box there_x there_y lies le inside l.within)
        | inr w ↦ wire_covers Flat plan kit bits wire tracks f by to flat layer (there_x +ℤ c.alike.right) (there_y +ℤ c.alike.up) own (wires there_x there_y inside w)
      ] in
      subst (λ (z : ℤ). HasCellInSome (rects_on layer to) z y) (same x c.alike.right) (subst (λ (z : ℤ). HasCellInSome (rects_on layer to) (there_x +ℤ c.alike.right) z) (same y c.alike.up) kept)
    where
      same : (z d : ℤ) → (z -ℤ d) +ℤ d ≡ z
      same z d = omega (arith, ints)

      back : HasCell moved x y → HasCell box (x -ℤ c.alike.right) (y -ℤ c.alike.up)
      back h = record {
        left = let p = at.x1 in let q = h.left in omega (arith, ints, p, q);
        right = let p = at.x2 in let q = h.right in omega (arith, ints, p, q);
        low = let p = at.y1 in let q = h.low in omega (arith, ints, p, q);
        high = let p = at.y2 in let q = h.high in omega (arith, ints, p, q);
      }
