-- Enclose rules by layers of wires are kept, of layers without wires, where the small memories keep them.
use Rattle.std.proofs.Common.{◌≡◌, ◌⊎◌, inl, inr, ℕ, ◌<◌, ℤ, pos, ◌+ℤ◌, ◌-ℤ◌, ◌≤ℤ◌, ◌<ℤ◌, List, refl, sym, subst, arith}
use Rattle.std.specs.Prelude.{Contains, slice_index}
use Rattle.std.proofs.lemmas.Int.{ints, by_lt_z}
use Rattle.or_geom.specs.declared.shape.Rect.{Rect}
use Rattle.or_geom.specs.declared.shape.Shape.{Shape}
use Rattle.shape_bins.specs.Layers.{IsCoveredBy}
use Rattle.cell_roles.specs.declared.role.Role.{Role}
use Rattle.tech_rules.specs.declared.tech.Rule.{Rule}
use Rattle.tech_rules.specs.declared.tech.Rule.TheVariants.{Enclose}
use Rattle.tech_rules.specs.declared.tech.Wire.{Wire}
use Rattle.tile_checker.specs.Breaks.{IsGrown}
use Rattle.cell_hierarchy.specs.FlatSet.{IsFlatShape}
use Rattle.sram_netlist.specs.Organization.{Organization}
use Rattle.sram_netlist.specs.BitCells.{Alike}
use Rattle.macro_layout.specs.LayoutKit.{LayoutKit}
use Rattle.macro_layout.specs.Places.{Floorplan}
use Rattle.macro_layout.specs.Floorplan.{Tracks}
use Rattle.local_report.specs.Moved.{IsMovedBy}
use Rattle.local_report.specs.Local.{KeepsRule}
use Rattle.good_places.specs.Leaves.{Zone, zone_of, LiesNear, ReachesNeighboursOnly}
use Rattle.good_places.specs.Plain.{IsPlain}
use Rattle.good_places.specs.Windows.{with_bits, IsWindowOf, IsWrittenPlan}
use Rattle.good_places.proofs.SeenLaws.{image, moved_back, lies}
use Rattle.good_wires.specs.Kept.{IsAmong}
use Rattle.leaf_margins.specs.Memories.{IsMetalOrCut, HasMemoryShapes, IsCleanLayout}
use Rattle.leaf_margins.specs.Encloses.{EnclosuresByWiresAreKept}
use Rattle.upright_covers.proofs.AtLaws.{IsBoxAt}
use Rattle.leaf_margins.proofs.SeenBoxLaws.{IsSeenIn, seen_in, box_at, lies_moved}
use Rattle.leaf_margins.proofs.LayerBoxLaws.{layer_kept}
use Rattle.leaf_margins.proofs.WideBoxLaws.{layer_wide}
use Rattle.leaf_margins.proofs.CutEncloseLaws.{plain_cover, grown_around, grown_holds}

module _ (Met Top Out : Role → ℕ → Type 0) (drop : Role → ℕ) (Flat : List ℕ → Shape → Type 0) (rules : List Rule) (plan : Organization) (kit : LayoutKit) (bit : List ℕ) (wire : Wire) (tracks : Tracks) (f : Floorplan) (by reach : ℤ) (to : List Shape) (p : IsWrittenPlan plan) (short : ReachesNeighboursOnly kit wire reach) (low : pos 0 ≤ℤ by) (few : by ≤ℤ wire.space)
    (memory : HasMemoryShapes Met Top Out drop Flat plan kit (Alike bit) wire tracks f by to) (metals : (k : ℕ) → k < 4 → Contains wire.metals (slice_index wire.metals k)) (windows : (other : Organization) → IsWindowOf plan other → IsCleanLayout Met Top Out drop Flat rules other kit (Alike bit) wire by) (tall : (role : Role) → (wire.width +ℤ wire.width) <ℤ pos (kit.height role)) where
  abbrev Seen : Zone → Type 0
  Seen here = IsSeenIn Met Top Out drop Flat rules plan kit bit wire tracks f by reach to p short low memory metals windows here

  -- a grown shape that passes the zone by as much as shapes do is covered here, moved, where a layer of wires covers it there
  outer_box : (here : Zone) (s : Seen here) (min : ℤ) (a r grown : Rect) → pos 1 ≤ℤ min → (min +ℤ (by +ℤ by)) ≤ℤ reach → LiesNear by here a → IsMovedBy s.compared.alike.right s.compared.alike.up r a → IsGrown min r grown → (layer : ℕ) → IsMetalOrCut wire layer → (moved : Rect) → IsMovedBy s.compared.alike.right s.compared.alike.up grown moved
      → IsCoveredBy layer s.layout.shapes grown → IsCoveredBy layer to moved
  outer_box here s min a r grown some near l at is layer wired moved moves covered = by_lt_z (wire.space +ℤ wire.width) (by +ℤ min)
      (λ far. layer_wide Met Top Out drop Flat rules plan kit (Alike bit) wire s.word s.write s.masks tracks s.layout.tracks f s.layout.floorplan by reach s.layout.shapes to short memory s.layout.has metals tall here s.there s.compared s.kinds layer wired (by +ℤ min) grown
      (record { at = box; wide = wider grown.x1 grown.x2 r.x1 r.x2 is.left is.right r.wide far; high = wider grown.y1 grown.y2 r.y1 r.y2 is.low is.high r.tall far }) moved moves covered)
      (λ close. layer_kept Met Top Out drop Flat rules plan kit (Alike bit) wire s.word s.write s.masks tracks s.layout.tracks f s.layout.floorplan by reach s.layout.shapes to short memory s.layout.has metals here s.there s.compared s.kinds layer wired (by +ℤ min) grown (record { some = omega (arith, ints, some, low); at = box; close = close }) moved moves covered)
    where
      box : IsBoxAt wire reach s.there s.there (by +ℤ min) grown
      box = box_at wire reach by min s.there r grown some memory.flat.drawn.laid.sizes.space.from low few near (lies_moved by s.compared.alike.right s.compared.alike.up here s.there a r s.compared.alike.same at l) (grown_holds min r grown some is) (grown_around min r grown is)

      wider : (g1 g2 r1 r2 : ℤ) → g1 ≡ r1 -ℤ min → g2 ≡ r2 +ℤ min → r1 <ℤ r2 → (wire.space +ℤ wire.width) <ℤ (by +ℤ min) → (g1 +ℤ wire.width) <ℤ g2
      wider g1 g2 r1 r2 p q lt far = omega (arith, ints, p, q, lt, far, few, some)

  pub kept : (layer : ℕ) (min : ℤ) (listed : List ℕ) → IsPlain wire layer → pos 1 ≤ℤ min → (min +ℤ (by +ℤ by)) ≤ℤ reach → ((other : ℕ) → Contains listed other → IsPlain wire other ⊎ IsMetalOrCut wire other) → KeepsRule rules to (Enclose layer listed min)
  kept layer min listed plain some near kinds a there on =
      let own : IsPlain wire a.layer = subst (IsPlain wire) (sym on) plain in
      let o = (memory.leaves a.layer own a refl).0 there in
      let s = seen_in Met Top Out drop Flat rules plan kit bit wire tracks f by reach to p short low memory metals windows a o in
      let here = zone_of plan kit f o.leaf o.place in
      let h = image Flat rules plan (with_bits plan s.word s.write s.masks) kit (Alike bit) f s.layout.floorplan wire by reach here s.there s.layout.shapes to s.compared a min some near (record { of = o; zone = refl }) in
      let at = moved_back Flat rules plan (with_bits plan s.word s.write s.masks) kit (Alike bit) f s.layout.floorplan wire by reach here s.there s.layout.shapes to s.compared a.rect h.moved.0.rect h.moved.2 in
      let outer = lies Flat rules plan (with_bits plan s.word s.write s.masks) kit (Alike bit) f s.layout.floorplan wire by reach here s.there s.layout.shapes to s.compared a (record { of = o; zone = refl }) in
      inr (record {
        dx = s.compared.alike.right;
        dy = s.compared.alike.up;
        from = s.layout.shapes;
        image = h.moved.0;
        is = record { clean = s.layout.clean; there = (s.layout.has.leaves a.layer own h.moved.0 h.moved.1).1 h.of; layer = h.moved.1; moved = at };
        sees = λ other grown one grows moved moves covered. elim (kinds other one) [
          | inl plain_other ↦ plain_cover Flat rules plan (with_bits plan s.word s.write s.masks) kit (Alike bit) f s.layout.floorplan wire by reach here s.there s.layout.shapes to s.compared other min a.rect h.moved.0.rect grown some near (s.layout.has.leaves other plain_other) (memory.leaves other plain_other) outer at grows moved moves covered
          | inr wired ↦ outer_box here s min a.rect h.moved.0.rect grown some near outer at grows other wired moved moves covered
        ];
      })

pub enclosures_by_wires_are_kept : EnclosuresByWiresAreKept
enclosures_by_wires_are_kept ports tops outs drop layers structs rules plan kit bit wire tracks f by reach to p short low few memory metals windows tall layer min listed plain some near kinds =
    kept (IsAmong ports) (IsAmong tops) (IsAmong outs) drop (IsFlatShape layers structs) rules plan kit bit wire tracks f by reach to p short low few memory metals windows tall layer min listed plain some near kinds
