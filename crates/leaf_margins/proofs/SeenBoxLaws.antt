-- What width and enclose rules see of a leaf shape on layers of wires is seen in its small memory.
use Rattle.std.proofs.Common.{◌≡◌, inl, inr, ℕ, ◌<◌, ℤ, pos, ◌+ℤ◌, ◌≤ℤ◌, List, refl, sym, subst, arith}
use Rattle.std.specs.Prelude.{Contains, slice_index}
use Rattle.std.proofs.lemmas.Int.{ints}
use Rattle.or_geom.specs.declared.shape.Rect.{Rect}
use Rattle.or_geom.specs.declared.shape.Shape.{Shape}
use Rattle.or_geom.specs.Containing.{HoldsRect}
use Rattle.shape_bins.specs.Layers.{IsCoveredBy}
use Rattle.cell_roles.specs.declared.role.Role.{Role}
use Rattle.tech_rules.specs.declared.tech.Rule.{Rule}
use Rattle.tech_rules.specs.declared.tech.Wire.{Wire}
use Rattle.cell_builder.specs.Flat.{IsShapeTaken}
use Rattle.sram_netlist.specs.Organization.{Organization}
use Rattle.sram_netlist.specs.BitCells.{Alike}
use Rattle.macro_layout.specs.LayoutKit.{LayoutKit}
use Rattle.macro_layout.specs.Places.{Floorplan}
use Rattle.macro_layout.specs.Floorplan.{Tracks}
use Rattle.macro_layout.specs.Layout.{IsOfLeaf}
use Rattle.local_report.specs.Moved.{IsMovedBy, LiesAround}
use Rattle.local_report.specs.Local.{IsWidthSeen}
use Rattle.good_places.specs.Leaves.{Zone, zone_of, LiesNear, ReachesNeighboursOnly}
use Rattle.good_places.specs.Kinds.{AreOfOneKind}
use Rattle.good_places.specs.Seen.{AreCompared, AreAlikeZones, IsMovedZone}
use Rattle.good_places.specs.Zones.{IsLaid}
use Rattle.good_places.specs.Windows.{with_bits, IsWindowOf, IsWrittenPlan}
use Rattle.leaf_shapes.specs.Outline.{IsWireLayer}
use Rattle.good_places.proofs.WindowLaws.{leaves_have_windows}
use Rattle.good_places.proofs.SeenLaws.{image, moved_back}
use Rattle.leaf_margins.specs.Memories.{IsMetalOrCut, HasMemoryShapes, IsCleanLayout}
use Rattle.upright_covers.proofs.BoxLaws.{leaf_lies}
use Rattle.upright_covers.proofs.AtLaws.{IsBoxAt}
use Rattle.leaf_margins.proofs.LayerBoxLaws.{layer_kept}

-- a box around a shape that passes a zone by so much
pub box_at : (wire : Wire) (reach q min : ℤ) (z : Zone) (r box : Rect) → pos 1 ≤ℤ min → pos 1 ≤ℤ wire.space → pos 0 ≤ℤ q → q ≤ℤ wire.space → (min +ℤ (q +ℤ q)) ≤ℤ reach → LiesNear q z r → HoldsRect box r → LiesAround min r box → IsBoxAt wire reach z z (q +ℤ min) box
box_at wire reach q min z r box some space low few near l holds around =
    let wide = r.wide in
    let tall = r.tall in
    let a = l.left in
    let b = l.right in
    let c = l.low in
    let d = l.high in
    let lies : LiesNear (q +ℤ min) z box = record {
      left = let e = around.left in omega (arith, ints, a, e);
      right = let e = around.right in omega (arith, ints, b, e);
      low = let e = around.low in omega (arith, ints, c, e);
      high = let e = around.high in omega (arith, ints, d, e);
    } in
    record {
      lies = lies;
      stands = lies;
      zones = record { left = omega (arith, ints, wide, a, b, near, some); right = omega (arith, ints, wide, a, b, near, some); low = omega (arith, ints, tall, c, d, near, some); high = omega (arith, ints, tall, c, d, near, some) };
      felt = omega (arith, ints, near, low);
      left = let e = holds.right in omega (arith, ints, wide, a, e, few);
      right = let e = holds.left in omega (arith, ints, wide, b, e, few);
      low = let e = holds.high in omega (arith, ints, tall, c, e, few);
      high = let e = holds.low in omega (arith, ints, tall, d, e, few);
    }

pub lies_moved : (q dx dy : ℤ) (here there : Zone) (a r : Rect) → IsMovedZone dx dy there here → IsMovedBy dx dy r a → LiesNear q here a → LiesNear q there r
lies_moved q dx dy here there a r s at i = record {
  left = let e = at.x1 in let p = i.left in let z = s.left in omega (arith, ints, e, p, z);
  right = let e = at.x2 in let p = i.right in let z = s.right in omega (arith, ints, e, p, z);
  low = let e = at.y1 in let p = i.low in let z = s.low in omega (arith, ints, e, p, z);
  high = let e = at.y2 in let p = i.high in let z = s.high in omega (arith, ints, e, p, z);
}

module _ (Met Top Out : Role → ℕ → Type 0) (drop : Role → ℕ) (Flat : List ℕ → Shape → Type 0) (rules : List Rule) (plan : Organization) (kit : LayoutKit) (bit : List ℕ) (wire : Wire) (tracks : Tracks) (f : Floorplan) (by reach : ℤ) (to : List Shape) (p : IsWrittenPlan plan) (short : ReachesNeighboursOnly kit wire reach) (low : pos 0 ≤ℤ by)
    (memory : HasMemoryShapes Met Top Out drop Flat plan kit (Alike bit) wire tracks f by to) (metals : (k : ℕ) → k < 4 → Contains wire.metals (slice_index wire.metals k)) (windows : (other : Organization) → IsWindowOf plan other → IsCleanLayout Met Top Out drop Flat rules other kit (Alike bit) wire by) where
  -- the window of a leaf instance, by its numbers, with its layout
  pub record IsSeenIn (here : Zone) : Type 0 where
    pub word : ℕ
    pub write : ℕ
    pub masks : ℕ
    pub layout : IsCleanLayout Met Top Out drop Flat rules (with_bits plan word write masks) kit (Alike bit) wire by
    pub there : Zone
    pub compared : AreCompared Flat rules plan (with_bits plan word write masks) kit (Alike bit) f layout.floorplan wire by reach here there layout.shapes
    pub kinds : AreOfOneKind reach plan (with_bits plan word write masks) kit f layout.floorplan here there

  abbrev IsThere : Zone → Organization → Type 0
  IsThere here other = (g : Floorplan) → IsLaid other kit wire g → (zone : Zone) × AreAlikeZones reach plan other kit (Alike bit) f g here zone × AreOfOneKind reach plan other kit f g here zone

  sized : (here : Zone) (word write masks : ℕ) → IsWindowOf plan (with_bits plan word write masks) → IsThere here (with_bits plan word write masks) → IsSeenIn here
  sized here word write masks is there =
      let c = windows (with_bits plan word write masks) is in
      let z = there c.floorplan c.has.flat.drawn.laid in
      record { word = word; write = write; masks = masks; layout = c; there = z.0; compared = record { laid = memory.flat.drawn.laid; laid_there = c.has.flat.drawn.laid; clean = c.clean; alike = z.1; passes = memory.flat.passes; passes_there = c.has.flat.passes }; kinds = z.2 }

  by_numbers : (here : Zone) (other : Organization) → IsWindowOf plan other → IsThere here other → IsSeenIn here
  by_numbers here other (inl (k, some, few, e)) there = sized here k k 0 (subst (IsWindowOf plan) e (inl (k, some, few, e))) (subst (IsThere here) e there)
  by_numbers here other (inr e) there = sized here 3 1 3 (subst (IsWindowOf plan) e (inr e)) (subst (IsThere here) e there)

  pub seen_in : (a : Shape) (o : IsOfLeaf plan kit (Alike bit) f IsShapeTaken Flat a) → IsSeenIn (zone_of plan kit f o.leaf o.place)
  seen_in a o = let w = leaves_have_windows plan kit bit wire f reach p memory.flat.drawn.laid short o.leaf o.place o.has o.stands in by_numbers (zone_of plan kit f o.leaf o.place) w.other w.is w.there

  pub own_of : (layer : ℕ) → IsMetalOrCut wire layer → IsWireLayer wire layer
  own_of layer (inl (k, few, e)) = inl (subst (Contains wire.metals) (sym e) (metals k few))
  own_of layer (inr (k, few, e)) = inr (subst (Contains wire.cuts) (sym e) (memory.flat.drawn.three k few))

  -- a box around a shape inside the zone that a layer of wires covers there is covered, moved, here
  pub inner_box : (here : Zone) (s : IsSeenIn here) (min : ℤ) (a r box : Rect) → pos 1 ≤ℤ min → min ≤ℤ wire.width → (min +ℤ (by +ℤ by)) ≤ℤ reach → LiesNear (pos 0) here a → IsMovedBy s.compared.alike.right s.compared.alike.up r a → HoldsRect box r → LiesAround min r box
      → (layer : ℕ) → IsMetalOrCut wire layer → (moved : Rect) → IsMovedBy s.compared.alike.right s.compared.alike.up box moved → IsCoveredBy layer s.layout.shapes box → IsCoveredBy layer to moved
  inner_box here s min a r box some few near lies at holds around layer is moved moves covered =
      layer_kept Met Top Out drop Flat rules plan kit (Alike bit) wire s.word s.write s.masks tracks s.layout.tracks f s.layout.floorplan by reach s.layout.shapes to short memory s.layout.has metals here s.there s.compared s.kinds layer is (pos 0 +ℤ min) box
      (record {
        some = omega (arith, ints, some);
        at = box_at wire reach (pos 0) min s.there r box some memory.flat.drawn.laid.sizes.space.from (omega (arith, ints)) (let sp = memory.flat.drawn.laid.sizes.space.from in omega (arith, ints, sp)) (omega (arith, ints, near, low)) (lies_moved (pos 0) s.compared.alike.right s.compared.alike.up here s.there a r s.compared.alike.same at lies) holds around;
        close = let sp = memory.flat.drawn.laid.sizes.space.from in omega (arith, ints, few, sp);
      })
      moved moves covered

  pub width_seen : (layer : ℕ) (min : ℤ) (a : Shape) → IsMetalOrCut wire layer → pos 1 ≤ℤ min → min ≤ℤ wire.width → (min +ℤ (by +ℤ by)) ≤ℤ reach → a.layer ≡ layer → IsOfLeaf plan kit (Alike bit) f IsShapeTaken Flat a → IsWidthSeen rules layer min to a
  width_seen layer min a is some few near on o =
      let s = seen_in a o in
      let own : IsWireLayer wire a.layer = subst (IsWireLayer wire) (sym on) (own_of layer is) in
      let h = image Flat rules plan (with_bits plan s.word s.write s.masks) kit (Alike bit) f s.layout.floorplan wire by reach (zone_of plan kit f o.leaf o.place) s.there s.layout.shapes to s.compared a min some near (record { of = o; zone = refl }) in
      let at = moved_back Flat rules plan (with_bits plan s.word s.write s.masks) kit (Alike bit) f s.layout.floorplan wire by reach (zone_of plan kit f o.leaf o.place) s.there s.layout.shapes to s.compared a.rect h.moved.0.rect h.moved.2 in
      record {
        dx = s.compared.alike.right;
        dy = s.compared.alike.up;
        from = s.layout.shapes;
        image = h.moved.0;
        is = record { clean = s.layout.clean; there = (s.layout.has.flat.has a.layer own h.moved.0 h.moved.1).1 (inr h.of); layer = h.moved.1; moved = at };
        sees = λ box holds around moved moves covered. inner_box (zone_of plan kit f o.leaf o.place) s min a.rect h.moved.0.rect box some few near (leaf_lies Flat plan kit (Alike bit) wire tracks f by to memory.flat a own o) at holds around layer is moved moves covered;
      }
