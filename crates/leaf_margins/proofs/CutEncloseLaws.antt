-- Enclose rules of the cuts between wires are kept where the small memories keep them.
use Rattle.std.proofs.Common.{◌≡◌, ◌⊎◌, inl, inr, ℕ, ◌+◌, ◌<◌, ℤ, pos, ◌+ℤ◌, ◌≤ℤ◌, List, [], ◌∷◌, refl, sym, subst, arith}
use Rattle.std.specs.Prelude.{Contains, slice_index}
use Rattle.std.proofs.lemmas.Int.{ints}
use Rattle.or_geom.specs.declared.shape.Rect.{Rect}
use Rattle.or_geom.specs.declared.shape.Shape.{Shape}
use Rattle.or_geom.proofs.ListLaws.{contains_none, contains_cases, contains_first}
use Rattle.or_geom.specs.Containing.{HoldsRect}
use Rattle.cell_roles.specs.declared.role.Role.{Role}
use Rattle.tech_rules.specs.declared.tech.Rule.{Rule}
use Rattle.tech_rules.specs.declared.tech.Rule.TheVariants.{Enclose}
use Rattle.tech_rules.specs.declared.tech.Wire.{Wire}
use Rattle.tech_rules.specs.WireRules.{margin}
use Rattle.tech_rules.proofs.WireLaws.{two_margins}
use Rattle.tile_checker.specs.Breaks.{IsGrown}
use Rattle.cell_hierarchy.specs.FlatSet.{IsFlatShape}
use Rattle.cell_builder.specs.Flat.{IsShapeTaken}
use Rattle.sram_netlist.specs.Organization.{Organization}
use Rattle.sram_netlist.specs.BitCells.{BitCells, Alike}
use Rattle.macro_layout.specs.LayoutKit.{LayoutKit}
use Rattle.macro_layout.specs.Places.{Floorplan}
use Rattle.macro_layout.specs.Floorplan.{Tracks}
use Rattle.macro_layout.specs.Layout.{IsOfLeaf}
use Rattle.local_report.specs.Moved.{IsMovedBy, LiesAround}
use Rattle.local_report.specs.Seen.{KeepsCover}
use Rattle.local_report.specs.Alike.{LookAlike}
use Rattle.local_report.specs.Local.{KeepsRule, IsEncloseSeen}
use Rattle.local_report.proofs.AlikeLaws.{alike_keeps_enclose}
use Rattle.local_report.proofs.SpaceLaws.{grown_rect}
use Rattle.good_places.specs.Leaves.{Zone, zone_of, LiesNear, HasLeavesOn, ReachesNeighboursOnly}
use Rattle.leaf_shapes.specs.Outline.{IsWireLayer}
use Rattle.good_places.specs.Plain.{IsPlain}
use Rattle.good_places.specs.Seen.{AreCompared}
use Rattle.good_places.specs.Windows.{with_bits, IsWindowOf, IsWrittenPlan}
use Rattle.good_places.proofs.SeenLaws.{image, moved_back, lies, looks}
use Rattle.good_wires.specs.Drawn.{IsDrawnWire}
use Rattle.good_wires.specs.Held.{DoRailsReach}
use Rattle.good_wires.specs.Kept.{IsAmong}
use Rattle.good_wires.proofs.HeldLaws.{wire_layer}
use Rattle.good_wires.proofs.OwnLaws.{wire_cuts_are_enclosed}
use Rattle.leaf_margins.specs.Memories.{IsMetalOrCut, HasMemoryShapes, IsCleanLayout}
use Rattle.leaf_margins.specs.Encloses.{CutEnclosuresAreKept}
use Rattle.upright_covers.proofs.BoxLaws.{leaf_lies}
use Rattle.leaf_margins.proofs.SeenBoxLaws.{seen_in, own_of, inner_box}

pub grown_around : (min : ℤ) (r g : Rect) → IsGrown min r g → LiesAround min r g
grown_around min r g is = record { left = let e = is.left in omega (arith, ints, e); low = let e = is.low in omega (arith, ints, e); right = let e = is.right in omega (arith, ints, e); high = let e = is.high in omega (arith, ints, e) }

pub grown_holds : (min : ℤ) (r g : Rect) → pos 1 ≤ℤ min → IsGrown min r g → HoldsRect g r
grown_holds min r g some is = record { left = let e = is.left in omega (arith, ints, e, some); right = let e = is.right in omega (arith, ints, e, some); low = let e = is.low in omega (arith, ints, e, some); high = let e = is.high in omega (arith, ints, e, some) }

-- a layer on which only leaf cells draw covers the shape, grown, here where it covers it there
pub plain_cover : (Flat : List ℕ → Shape → Type 0) (rules : List Rule) (plan other : Organization) (kit : LayoutKit) (bits : BitCells) (f g : Floorplan) (wire : Wire) (by reach : ℤ) (here there : Zone) (from to : List Shape) (c : AreCompared Flat rules plan other kit bits f g wire by reach here there from)
    → (layer : ℕ) (min : ℤ) (a m grown : Rect) → pos 1 ≤ℤ min → (min +ℤ (by +ℤ by)) ≤ℤ reach → HasLeavesOn layer Flat other kit bits g from → HasLeavesOn layer Flat plan kit bits f to → LiesNear by here a → IsMovedBy c.alike.right c.alike.up m a → IsGrown min m grown
    → KeepsCover c.alike.right c.alike.up layer from to grown
plain_cover Flat rules plan other kit bits f g wire by reach here there from to c layer min a m grown some near has_from has_to l at is =
    let frame = grown_rect min a some in
    let look = looks Flat rules plan other kit bits f g wire by reach here there from to c layer min a m frame.0 near has_from has_to l at frame.1 in
    alike_keeps_enclose (layer ∷ []) min c.alike.right c.alike.up from to m a frame.0 at frame.1
    (λ n one. subst (λ (k : ℕ). LookAlike k frame.0 c.alike.right c.alike.up from to) (sym (only n one)) look)
    layer grown (contains_first layer []) is
  where
    only : (n : ℕ) → Contains (layer ∷ []) n → n ≡ layer
    only n one = elim (contains_cases layer [] n one) [ inl e ↦ e | inr none ↦ absurd (contains_none n none) ]

-- half of what a wire is wider than a cut is no more than a wire's width
margin_few : (w c e min : ℤ) → w ≡ c +ℤ (e +ℤ e) → pos 1 ≤ℤ c → pos 1 ≤ℤ min → min ≤ℤ e → min ≤ℤ w
margin_few w c e min two cut some le = omega (arith, ints, two, cut, some, le)

module _ (Met Top Out : Role → ℕ → Type 0) (drop : Role → ℕ) (Flat : List ℕ → Shape → Type 0) (rules : List Rule) (plan : Organization) (kit : LayoutKit) (bit : List ℕ) (wire : Wire) (tracks : Tracks) (f : Floorplan) (by reach : ℤ) (to : List Shape) (p : IsWrittenPlan plan) (short : ReachesNeighboursOnly kit wire reach) (low : pos 0 ≤ℤ by)
    (memory : HasMemoryShapes Met Top Out drop Flat plan kit (Alike bit) wire tracks f by to) (metals : (k : ℕ) → k < 4 → Contains wire.metals (slice_index wire.metals k)) (windows : (other : Organization) → IsWindowOf plan other → IsCleanLayout Met Top Out drop Flat rules other kit (Alike bit) wire by) where
  -- the enclosure of a leaf shape on a layer of wires
  enclose_seen : (listed : List ℕ) (min : ℤ) (a : Shape) → IsMetalOrCut wire a.layer → ((layer : ℕ) → Contains listed layer → IsPlain wire layer ⊎ IsMetalOrCut wire layer) → pos 1 ≤ℤ min → min ≤ℤ wire.width → (min +ℤ (by +ℤ by)) ≤ℤ reach → IsOfLeaf plan kit (Alike bit) f IsShapeTaken Flat a → IsEncloseSeen rules listed min to a
  enclose_seen listed min a is kinds some few near o =
      let s = seen_in Met Top Out drop Flat rules plan kit bit wire tracks f by reach to p short low memory metals windows a o in
      let here = zone_of plan kit f o.leaf o.place in
      let own : IsWireLayer wire a.layer = own_of Met Top Out drop Flat rules plan kit bit wire tracks f by reach to p short low memory metals windows a.layer is in
      let h = image Flat rules plan (with_bits plan s.word s.write s.masks) kit (Alike bit) f s.layout.floorplan wire by reach here s.there s.layout.shapes to s.compared a min some near (record { of = o; zone = refl }) in
      let at = moved_back Flat rules plan (with_bits plan s.word s.write s.masks) kit (Alike bit) f s.layout.floorplan wire by reach here s.there s.layout.shapes to s.compared a.rect h.moved.0.rect h.moved.2 in
      let outer = lies Flat rules plan (with_bits plan s.word s.write s.masks) kit (Alike bit) f s.layout.floorplan wire by reach here s.there s.layout.shapes to s.compared a (record { of = o; zone = refl }) in
      record {
        dx = s.compared.alike.right;
        dy = s.compared.alike.up;
        from = s.layout.shapes;
        image = h.moved.0;
        is = record { clean = s.layout.clean; there = (s.layout.has.flat.has a.layer own h.moved.0 h.moved.1).1 (inr h.of); layer = h.moved.1; moved = at };
        sees = λ layer grown one grows moved moves covered. elim (kinds layer one) [
          | inl plain ↦
              plain_cover Flat rules plan (with_bits plan s.word s.write s.masks) kit (Alike bit) f s.layout.floorplan wire by reach here s.there s.layout.shapes to s.compared layer min a.rect h.moved.0.rect grown some near (s.layout.has.leaves layer plain) (memory.leaves layer plain) outer at grows moved moves covered
          | inr wired ↦
              inner_box Met Top Out drop Flat rules plan kit bit wire tracks f by reach to p short low memory metals windows here s min a.rect h.moved.0.rect grown some few near (leaf_lies Flat plan kit (Alike bit) wire tracks f by to memory.flat a own o) at (grown_holds min h.moved.0.rect grown some grows) (grown_around min h.moved.0.rect grown grows) layer
              wired moved moves covered
        ];
      }

  pub kept : DoRailsReach plan kit wire tracks.column f → (k : ℕ) (min : ℤ) (listed : List ℕ) → k < 3 → pos 1 ≤ℤ min → min ≤ℤ margin wire → (min +ℤ (by +ℤ by)) ≤ℤ reach
      → Contains listed (slice_index wire.metals k) ⊎ Contains listed (slice_index wire.metals (k + 1)) → ((layer : ℕ) → Contains listed layer → IsPlain wire layer ⊎ IsMetalOrCut wire layer) → KeepsRule rules to (Enclose (slice_index wire.cuts k) listed min)
  kept taps k min listed few some le near metal kinds a there on = elim ((memory.flat.has a.layer own a refl).0 there) [
    | inl wired ↦ inl (wire_cuts_are_enclosed plan kit wire tracks f to memory.flat.drawn p.words taps all_wires k min listed few some le metal a wired)
    | inr leaf ↦ inr (enclose_seen listed min a is kinds some (margin_few wire.width wire.cut (margin wire) min (two_margins wire memory.flat.drawn.laid.sizes) memory.flat.drawn.laid.sizes.cut.from some le) near leaf)
  ] where
    is : IsMetalOrCut wire a.layer
    is = inr (k, few, on)

    own : IsWireLayer wire a.layer
    own = own_of Met Top Out drop Flat rules plan kit bit wire tracks f by reach to p short low memory metals windows a.layer is

    all_wires : (s : Shape) → IsDrawnWire plan kit wire tracks f s → Contains to s
    all_wires s wired = (memory.flat.has s.layer (own_of Met Top Out drop Flat rules plan kit bit wire tracks f by reach to p short low memory metals windows s.layer (wire_layer plan kit wire tracks f memory.flat.drawn p.words taps s wired)) s refl).1 (inl wired)

pub cut_enclosures_are_kept : CutEnclosuresAreKept
cut_enclosures_are_kept ports tops outs drop layers structs rules plan kit bit wire tracks f by reach to p short low memory metals windows taps k min listed few some le near metal kinds =
    kept (IsAmong ports) (IsAmong tops) (IsAmong outs) drop (IsFlatShape layers structs) rules plan kit bit wire tracks f by reach to p short low memory metals windows taps k min listed few some le near metal kinds
