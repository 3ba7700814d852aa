-- Rectangles near a zone, and wires that cover in another memory what they cover near it; a wire that is seen beside an instance.
use Rattle.std.specs.Prelude.{◌≡◌, ◌⊎◌, ℤ, ◌<ℤ◌, ◌≤ℤ◌, ◌+ℤ◌}
use Rattle.or_geom.specs.declared.shape.Rect.{Rect}
use Rattle.or_geom.specs.declared.shape.Shape.{Shape}
use Rattle.sram_netlist.specs.Nets.{Net}
use Rattle.sram_netlist.specs.Netlist.{role}
use Rattle.good_places.specs.Beside.{moved_place}
use Rattle.good_places.specs.Leaves.{Zone}
use Rattle.good_nets.specs.Parts.{StandsIn}
use Rattle.kit_nets.specs.StatedParts.{Source, Standing, stated_parts}

-- the rectangle is nearer to the zone than so much
pub record IsNearZone (by : ℤ) (zone : Zone) (r : Rect) : Type 0 where
  pub left : zone.left <ℤ (r.x2 +ℤ by)
  pub right : r.x1 <ℤ (zone.right +ℤ by)
  pub low : zone.low <ℤ (r.y2 +ℤ by)
  pub high : r.y1 <ℤ (zone.high +ℤ by)

-- The other wire is on the same layer, and as far as the zone goes, grown by so much, it covers what the wire covers, so much further right and up.
pub record CoversThere (by dx dy : ℤ) (zone : Zone) (t other : Shape) : Type 0 where
  pub layer : other.layer ≡ t.layer
  pub left : (other.rect.x1 ≤ℤ (t.rect.x1 +ℤ dx)) ⊎ ((other.rect.x1 +ℤ by) ≤ℤ (zone.left +ℤ dx))
  pub right : ((t.rect.x2 +ℤ dx) ≤ℤ other.rect.x2) ⊎ (((zone.right +ℤ dx) +ℤ by) ≤ℤ other.rect.x2)
  pub low : (other.rect.y1 ≤ℤ (t.rect.y1 +ℤ dy)) ⊎ ((other.rect.y1 +ℤ by) ≤ℤ (zone.low +ℤ dy))
  pub high : ((t.rect.y2 +ℤ dy) ≤ℤ other.rect.y2) ⊎ (((zone.high +ℤ dy) +ℤ by) ≤ℤ other.rect.y2)

-- An instance stands, moved, in the other memory, and shows its nets there by the function; and the wire of the net has one that covers as much near the
-- instance's zone.
pub record IsWireThere (s w : Source) (by : ℤ) (zone : Zone) (i : Standing s) (n : Net) (t : Shape) : Type 0 where
  pub f : Net → Net
  pub dx : ℤ
  pub dy : ℤ
  pub one : Standing w
  pub one_is : StandsIn (stated_parts s) (stated_parts w) f dx dy i one
  pub one_at : one.place ≡ moved_place dx dy i.place
  pub one_role : role w.plan one.leaf ≡ role s.plan i.leaf
  pub net : Net
  pub named : f net ≡ n
  pub wire : Shape
  pub is : (stated_parts w).Wire net wire
  pub covers : CoversThere by dx dy zone t wire
