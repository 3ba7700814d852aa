-- Shapes of leaf instances are seen in another memory as they stand.
use Rattle.std.proofs.Common.{◌≡◌, inr, ℕ, ℤ, pos, ◌+ℤ◌, ◌≤ℤ◌, List, sym, subst, arith}
use Rattle.std.specs.Prelude.{Contains}
use Rattle.std.proofs.lemmas.Int.{ints}
use Rattle.or_geom.specs.declared.shape.Rect.{Rect}
use Rattle.or_geom.specs.declared.shape.Shape.{Shape}
use Rattle.or_geom.specs.declared.place.Place.{Place}
use Rattle.shape_bins.specs.Meets.{Overlap}
use Rattle.tech_rules.specs.declared.tech.Rule.{Rule}
use Rattle.tech_rules.specs.declared.tech.Wire.{Wire}
use Rattle.tile_checker.specs.Breaks.{AreNear, IsGrown}
use Rattle.cell_hierarchy.specs.FlatSet.{IsFlatShape}
use Rattle.sram_netlist.specs.Organization.{Organization}
use Rattle.sram_netlist.specs.Instances.{LeafInstance}
use Rattle.sram_netlist.specs.Netlist.{role}
use Rattle.sram_netlist.specs.BitCells.{BitCells}
use Rattle.macro_layout.specs.LayoutKit.{LayoutKit}
use Rattle.macro_layout.specs.Places.{Floorplan, leaf_cell}
use Rattle.local_report.specs.Moved.{IsMovedBy, OverlapsMoved}
use Rattle.local_report.specs.Seen.{HasPartner}
use Rattle.local_report.specs.Alike.{LookAlike, HasImage}
use Rattle.local_report.specs.Local.{IsImageIn, IsWidthSeen, IsSpaceSeen, IsEncloseSeen}
use Rattle.local_report.proofs.AlikeLaws.{alike_keeps_width, alike_keeps_enclose, alike_keeps_space}
use Rattle.local_report.proofs.SpaceLaws.{grown_rect}
use Rattle.good_places.specs.Leaves.{Zone, zone_of, HasLeavesOn, HasLeavesAndWires, LiesNear, AreNearZones}
use Rattle.good_places.specs.Seen.{IsInZone, AreCompared, LeafWidthsAreSeen, LeafSpacesAreSeen, LeafEnclosuresAreSeen}
use Rattle.good_places.proofs.LaidLaws.{in_zone}
use Rattle.good_places.proofs.ZoneLaws.{near_zones, near_zones_moved}
use Rattle.good_places.proofs.LookLaws.{look_alike, look_alike_with, shape_moves, HasMovedShape}

module _ (Flat : List ℕ → Shape → Type 0) (rules : List Rule) (plan other : Organization) (kit : LayoutKit) (bits : BitCells) (f g : Floorplan) (wire : Wire) (by reach : ℤ) (here there : Zone) (from to : List Shape)
    (c : AreCompared Flat rules plan other kit bits f g wire by reach here there from) where
  abbrev right : ℤ
  right = c.alike.right

  abbrev up : ℤ
  up = c.alike.up

  -- the shape lies near its zone
  pub lies : (a : Shape) → IsInZone Flat plan kit bits f here a → LiesNear by here a.rect
  lies a i = subst (λ (z : Zone). LiesNear by z a.rect) i.zone (in_zone plan kit wire f by c.laid i.of.leaf i.of.place i.of.taken.inner a i.of.has i.of.stands (c.passes i.of.leaf i.of.taken.inner i.of.has i.of.taken.has) i.of.taken.moved)

  pub near_itself : (a : Shape) (min : ℤ) → pos 1 ≤ℤ min → (min +ℤ (by +ℤ by)) ≤ℤ reach → LiesNear by here a.rect → AreNearZones reach here here
  near_itself a min some short l =
      let wide = a.rect.wide in
      let tall = a.rect.tall in
      let p = l.left in
      let q = l.right in
      let r = l.low in
      let s = l.high in
      record { left = omega (arith, ints, some, short, wide, p, q); right = omega (arith, ints, some, short, wide, p, q); low = omega (arith, ints, some, short, tall, r, s); high = omega (arith, ints, some, short, tall, r, s) }

  -- its image
  pub image : (a : Shape) (min : ℤ) → pos 1 ≤ℤ min → (min +ℤ (by +ℤ by)) ≤ℤ reach → IsInZone Flat plan kit bits f here a → HasMovedShape Flat other kit bits g c.alike.left c.alike.down a
  image a min some short i =
      shape_moves Flat other kit bits g c.alike.left c.alike.down (role plan i.of.leaf) (leaf_cell plan kit bits i.of.leaf) i.of.place i.of.taken.inner a
      (c.alike.from i.of.leaf i.of.place i.of.has i.of.stands (subst (λ (z : Zone). AreNearZones reach z here) (sym i.zone) (near_itself a min some short (lies a i)))) i.of.taken.has i.of.taken.moved

  pub moved_back : (a m : Rect) → IsMovedBy c.alike.left c.alike.down a m → IsMovedBy right up m a
  moved_back a m at =
      let x = c.alike.back_x in
      let y = c.alike.back_y in
      record {
        x1 = let e = at.x1 in omega (arith, ints, e, x);
        y1 = let e = at.y1 in omega (arith, ints, e, y);
        x2 = let e = at.x2 in omega (arith, ints, e, x);
        y2 = let e = at.y2 in omega (arith, ints, e, y);
      }

  pub lies_there : (a m : Rect) → IsMovedBy right up m a → LiesNear by here a → LiesNear by there m
  lies_there a m at l =
      let s = c.alike.same in
      record {
        left = let e = at.x1 in let p = l.left in let q = s.left in omega (arith, ints, e, p, q);
        right = let e = at.x2 in let p = l.right in let q = s.right in omega (arith, ints, e, p, q);
        low = let e = at.y1 in let p = l.low in let q = s.low in omega (arith, ints, e, p, q);
        high = let e = at.y2 in let p = l.high in let q = s.high in omega (arith, ints, e, p, q);
      }

  -- a layer that only leaf cells draw on looks alike around the shape
  pub looks : (layer : ℕ) (min : ℤ) (a m frame : Rect) → (min +ℤ (by +ℤ by)) ≤ℤ reach → HasLeavesOn layer Flat other kit bits g from → HasLeavesOn layer Flat plan kit bits f to → LiesNear by here a → IsMovedBy right up m a → IsGrown min a frame
      → LookAlike layer frame right up from to
  looks layer min a m frame short has_from has_to l at grown =
      look_alike Flat plan other kit bits f g layer frame right up c.alike.left c.alike.down from to
      (λ (leaf : LeafInstance) (place : Place). AreNearZones reach (zone_of other kit g leaf place) there)
      (λ (leaf : LeafInstance) (place : Place). AreNearZones reach (zone_of plan kit f leaf place) here)
      c.alike.back_x c.alike.back_y has_from has_to
      (λ leaf place inner s has stands flat moved over. near_zones_moved by min reach right up there (zone_of other kit g leaf place) m a s.rect frame short (lies_there a m at l) (in_zone other kit wire g by c.laid_there leaf place inner s has stands (c.passes_there leaf inner has flat) moved) at grown over)
      (λ leaf place inner s has stands flat moved over. near_zones by min reach here (zone_of plan kit f leaf place) a s.rect frame short l (in_zone plan kit wire f by c.laid leaf place inner s has stands (c.passes leaf inner has flat) moved) grown over)
      c.alike.to c.alike.from

  is_image : (a : Shape) (h : HasMovedShape Flat other kit bits g c.alike.left c.alike.down a) → HasLeavesOn a.layer Flat other kit bits g from → IsImageIn rules right up from h.moved.0 a
  is_image a h has = record { clean = c.clean; there = (has h.moved.0 h.moved.1).1 h.of; layer = h.moved.1; moved = moved_back a.rect h.moved.0.rect h.moved.2 }

  pub width_seen : (layer : ℕ) (min : ℤ) (a : Shape) → pos 1 ≤ℤ min → (min +ℤ (by +ℤ by)) ≤ℤ reach → HasLeavesOn layer Flat other kit bits g from → HasLeavesOn layer Flat plan kit bits f to → a.layer ≡ layer → IsInZone Flat plan kit bits f here a → IsWidthSeen rules layer min to a
  width_seen layer min a some short has_from has_to on i =
      let h = image a min some short i in
      let at = moved_back a.rect h.moved.0.rect h.moved.2 in
      let frame = grown_rect min a.rect some in
      record {
        dx = right;
        dy = up;
        from = from;
        image = h.moved.0;
        is = is_image a h (subst (λ (n : ℕ). HasLeavesOn n Flat other kit bits g from) (sym on) has_from);
        sees = alike_keeps_width layer min right up from to h.moved.0.rect a.rect frame.0 at frame.1 (looks layer min a.rect h.moved.0.rect frame.0 short has_from has_to (lies a i) at frame.1);
      }

  pub space_seen : (min : ℤ) (a b : Shape) → pos 1 ≤ℤ min → (min +ℤ (by +ℤ by)) ≤ℤ reach → HasLeavesOn a.layer Flat other kit bits g from → HasLeavesOn a.layer Flat plan kit bits f to → HasLeavesOn b.layer Flat other kit bits g from → HasLeavesOn b.layer Flat plan kit bits f to
      → IsInZone Flat plan kit bits f here a → Contains to b → AreNear min a.rect b.rect → IsSpaceSeen rules min to a b
  space_seen min a b some short has_from_a has_to_a has_from_b has_to_b i listed near =
      let h = image a min some short i in
      let at = moved_back a.rect h.moved.0.rect h.moved.2 in
      let frame = grown_rect min a.rect some in
      record {
        dx = right;
        dy = up;
        from = from;
        image = h.moved.0;
        is = is_image a h has_from_a;
        sees = alike_keeps_space min right up from to h.moved.0 a b frame.0 some at frame.1 listed near (looks a.layer min a.rect h.moved.0.rect frame.0 short has_from_a has_to_a (lies a i) at frame.1) (looks b.layer min a.rect h.moved.0.rect frame.0 short has_from_b has_to_b (lies a i) at frame.1);
      }

  pub enclose_seen : (listed : List ℕ) (min : ℤ) (a : Shape) → pos 1 ≤ℤ min → (min +ℤ (by +ℤ by)) ≤ℤ reach → HasLeavesOn a.layer Flat other kit bits g from → ((layer : ℕ) → Contains listed layer → HasLeavesOn layer Flat other kit bits g from)
      → ((layer : ℕ) → Contains listed layer → HasLeavesOn layer Flat plan kit bits f to) → IsInZone Flat plan kit bits f here a → IsEncloseSeen rules listed min to a
  enclose_seen listed min a some short has_from all_from all_to i =
      let h = image a min some short i in
      let at = moved_back a.rect h.moved.0.rect h.moved.2 in
      let frame = grown_rect min a.rect some in
      record {
        dx = right;
        dy = up;
        from = from;
        image = h.moved.0;
        is = is_image a h has_from;
        sees = alike_keeps_enclose listed min right up from to h.moved.0.rect a.rect frame.0 at frame.1 (λ layer one. looks layer min a.rect h.moved.0.rect frame.0 short (all_from layer one) (all_to layer one) (lies a i) at frame.1);
      }

-- A space rule on layers with wires: of a shape in the zone, where wires that reach so far have images

module _ (Flat : List ℕ → Shape → Type 0) (rules : List Rule) (plan other : Organization) (kit : LayoutKit) (bits : BitCells) (f g : Floorplan) (wire : Wire) (by reach : ℤ) (here there : Zone) (from to : List Shape)
    (c : AreCompared Flat rules plan other kit bits f g wire by reach here there from) (WireThere WireHere : Shape → Type 0) where
  -- wires of the layer that reach into the frame have images in it
  pub record WiresMove (layer : ℕ) (frame : Rect) : Type 0 where
    pub onto : (b : Shape) → WireThere b → b.layer ≡ layer → OverlapsMoved frame c.alike.right c.alike.up b.rect → HasImage frame c.alike.right c.alike.up to b
    pub off : (b : Shape) → WireHere b → b.layer ≡ layer → Overlap b.rect frame → HasPartner frame c.alike.right c.alike.up from b

  looks_with : (layer : ℕ) (min : ℤ) (a m frame : Rect) → (min +ℤ (by +ℤ by)) ≤ℤ reach → HasLeavesAndWires layer Flat other kit bits g WireThere from → HasLeavesAndWires layer Flat plan kit bits f WireHere to → WiresMove layer frame → LiesNear by here a → IsMovedBy c.alike.right c.alike.up m a → IsGrown min a frame
      → LookAlike layer frame c.alike.right c.alike.up from to
  looks_with layer min a m frame short has_from has_to wires l at grown =
      look_alike_with Flat plan other kit bits f g layer frame c.alike.right c.alike.up c.alike.left c.alike.down from to
      (λ (leaf : LeafInstance) (place : Place). AreNearZones reach (zone_of other kit g leaf place) there)
      (λ (leaf : LeafInstance) (place : Place). AreNearZones reach (zone_of plan kit f leaf place) here) WireThere WireHere
      c.alike.back_x c.alike.back_y has_from has_to wires.onto wires.off
      (λ leaf place inner s has stands flat moved over. near_zones_moved by min reach c.alike.right c.alike.up there (zone_of other kit g leaf place) m a s.rect frame short (lies_there Flat rules plan other kit bits f g wire by reach here there from to c a m at l)
      (in_zone other kit wire g by c.laid_there leaf place inner s has stands (c.passes_there leaf inner has flat) moved) at grown over)
      (λ leaf place inner s has stands flat moved over. near_zones by min reach here (zone_of plan kit f leaf place) a s.rect frame short l (in_zone plan kit wire f by c.laid leaf place inner s has stands (c.passes leaf inner has flat) moved) grown over)
      c.alike.to c.alike.from

  pub space_seen_with : (min : ℤ) (a b : Shape) → pos 1 ≤ℤ min → (min +ℤ (by +ℤ by)) ≤ℤ reach → b.layer ≡ a.layer → HasLeavesAndWires a.layer Flat other kit bits g WireThere from → HasLeavesAndWires a.layer Flat plan kit bits f WireHere to
      → ((h : HasMovedShape Flat other kit bits g c.alike.left c.alike.down a) → IsMovedBy c.alike.right c.alike.up h.moved.0.rect a.rect → (frame : Rect) → IsGrown min a.rect frame → WiresMove a.layer frame) → IsInZone Flat plan kit bits f here a → Contains to b → AreNear min a.rect b.rect → IsSpaceSeen rules min to a b
  space_seen_with min a b some short same has_from has_to wires i listed near =
      let h = image Flat rules plan other kit bits f g wire by reach here there from to c a min some short i in
      let at = moved_back Flat rules plan other kit bits f g wire by reach here there from to c a.rect h.moved.0.rect h.moved.2 in
      let frame = grown_rect min a.rect some in
      let look = looks_with a.layer min a.rect h.moved.0.rect frame.0 short has_from has_to (wires h at frame.0 frame.1) (lies Flat rules plan other kit bits f g wire by reach here there from to c a i) at frame.1 in
      record {
        dx = c.alike.right;
        dy = c.alike.up;
        from = from;
        image = h.moved.0;
        is = record { clean = c.clean; there = (has_from h.moved.0 h.moved.1).1 (inr h.of); layer = h.moved.1; moved = at };
        sees = alike_keeps_space min c.alike.right c.alike.up from to h.moved.0 a b frame.0 some at frame.1 listed near look (subst (λ (n : ℕ). LookAlike n frame.0 c.alike.right c.alike.up from to) (sym same) look);
      }

pub leaf_widths_are_seen : LeafWidthsAreSeen
leaf_widths_are_seen layers structs rules plan other kit bits f g wire by reach here there from to c = width_seen (IsFlatShape layers structs) rules plan other kit bits f g wire by reach here there from to c

pub leaf_spaces_are_seen : LeafSpacesAreSeen
leaf_spaces_are_seen layers structs rules plan other kit bits f g wire by reach here there from to c = space_seen (IsFlatShape layers structs) rules plan other kit bits f g wire by reach here there from to c

pub leaf_enclosures_are_seen : LeafEnclosuresAreSeen
leaf_enclosures_are_seen layers structs rules plan other kit bits f g wire by reach here there from to c = enclose_seen (IsFlatShape layers structs) rules plan other kit bits f g wire by reach here there from to c
