-- Rules that name no layer of wires are kept where the small memories keep them.
use Rattle.std.proofs.Common.{◌≡◌, ◌⊎◌, inl, inr, ℕ, ℤ, pos, ◌+ℤ◌, ◌≤ℤ◌, List, refl, sym, subst}
use Rattle.std.specs.Prelude.{Contains}
use Rattle.or_geom.specs.declared.shape.Shape.{Shape}
use Rattle.tech_rules.specs.declared.tech.Rule.{Rule}
use Rattle.tech_rules.specs.declared.tech.Rule.TheVariants.{Width, Space, Enclose}
use Rattle.tech_rules.specs.declared.tech.Wire.{Wire}
use Rattle.tile_checker.specs.Breaks.{BreaksSpace}
use Rattle.cell_hierarchy.specs.FlatSet.{IsFlatShape}
use Rattle.cell_builder.specs.Flat.{IsShapeTaken}
use Rattle.sram_netlist.specs.Organization.{Organization}
use Rattle.sram_netlist.specs.BitCells.{Alike}
use Rattle.macro_layout.specs.LayoutKit.{LayoutKit}
use Rattle.macro_layout.specs.Places.{Floorplan}
use Rattle.macro_layout.specs.Layout.{IsOfLeaf}
use Rattle.local_report.specs.Local.{KeepsRule, IsWidthSeen, IsSpaceSeen, IsEncloseSeen}
use Rattle.good_places.specs.Leaves.{Zone, zone_of, ReachesNeighboursOnly}
use Rattle.good_places.specs.Seen.{IsInZone, AreCompared}
use Rattle.good_places.specs.Windows.{IsWindowOf, IsWrittenPlan}
use Rattle.good_places.specs.Plain.{IsPlain, IsPlainRule, HasFlatShapes, IsCleanMemory, PlainRulesAreKept}
use Rattle.good_places.proofs.SeenLaws.{width_seen, space_seen, enclose_seen}
use Rattle.good_places.proofs.WindowLaws.{leaves_have_windows}

module _ (Flat : List ℕ → Shape → Type 0) (rules : List Rule) (plan : Organization) (kit : LayoutKit) (bit : List ℕ) (wire : Wire) (f : Floorplan) (by reach : ℤ) (to : List Shape) (p : IsWrittenPlan plan) (short : ReachesNeighboursOnly kit wire reach)
    (flat : HasFlatShapes Flat plan kit (Alike bit) wire f by to) (windows : (other : Organization) → IsWindowOf plan other → IsCleanMemory Flat rules other kit (Alike bit) wire by) where
  -- the window of a shape's leaf instance, with its clean layout
  record IsSeenIn (here : Zone) : Type 0 where
    pub other : Organization
    pub memory : IsCleanMemory Flat rules other kit (Alike bit) wire by
    pub there : Zone
    pub compared : AreCompared Flat rules plan other kit (Alike bit) f memory.floorplan wire by reach here there memory.shapes

  seen_in : (a : Shape) → (o : IsOfLeaf plan kit (Alike bit) f IsShapeTaken Flat a) → IsSeenIn (zone_of plan kit f o.leaf o.place)
  seen_in a o =
      let w = leaves_have_windows plan kit bit wire f reach p flat.laid short o.leaf o.place o.has o.stands in
      let c = windows w.other w.is in
      let z = w.there c.floorplan c.flat.laid in
      record { other = w.other; memory = c; there = z.0; compared = record { laid = flat.laid; laid_there = c.flat.laid; clean = c.clean; alike = z.1; passes = flat.passes; passes_there = c.flat.passes } }

  in_zone : (a : Shape) (o : IsOfLeaf plan kit (Alike bit) f IsShapeTaken Flat a) → IsInZone Flat plan kit (Alike bit) f (zone_of plan kit f o.leaf o.place) a
  in_zone a o = record { of = o; zone = refl }

  width : (layer : ℕ) (min : ℤ) (a : Shape) → IsPlain wire layer → pos 1 ≤ℤ min → (min +ℤ (by +ℤ by)) ≤ℤ reach → Contains to a → a.layer ≡ layer → IsWidthSeen rules layer min to a
  width layer min a plain some near there on =
      let o = (flat.leaves layer plain a on).0 there in
      let s = seen_in a o in
      width_seen Flat rules plan s.other kit (Alike bit) f s.memory.floorplan wire by reach (zone_of plan kit f o.leaf o.place) s.there s.memory.shapes to s.compared layer min a some near (s.memory.flat.leaves layer plain) (flat.leaves layer plain) on (in_zone a o)

  enclose : (layer : ℕ) (listed : List ℕ) (min : ℤ) (a : Shape) → IsPlain wire layer → ((other : ℕ) → Contains listed other → IsPlain wire other) → pos 1 ≤ℤ min → (min +ℤ (by +ℤ by)) ≤ℤ reach → Contains to a → a.layer ≡ layer → IsEncloseSeen rules listed min to a
  enclose layer listed min a plain all some near there on =
      let own : IsPlain wire a.layer = subst (IsPlain wire) (sym on) plain in
      let o = (flat.leaves a.layer own a refl).0 there in
      let s = seen_in a o in
      enclose_seen Flat rules plan s.other kit (Alike bit) f s.memory.floorplan wire by reach (zone_of plan kit f o.leaf o.place) s.there s.memory.shapes to s.compared listed min a some near (s.memory.flat.leaves a.layer own)
      (λ other one. s.memory.flat.leaves other (all other one)) (λ other one. flat.leaves other (all other one)) (in_zone a o)

  both_plain : (layer other m n : ℕ) → IsPlain wire layer → IsPlain wire other → ((m ≡ layer) × (n ≡ other)) ⊎ ((m ≡ other) × (n ≡ layer)) → IsPlain wire m × IsPlain wire n
  both_plain layer other m n a b (inl e) = (subst (IsPlain wire) (sym e.0) a, subst (IsPlain wire) (sym e.1) b)
  both_plain layer other m n a b (inr e) = (subst (IsPlain wire) (sym e.0) b, subst (IsPlain wire) (sym e.1) a)

  space : (layer other : ℕ) (min : ℤ) (a b : Shape) → IsPlain wire layer → IsPlain wire other → pos 1 ≤ℤ min → (min +ℤ (by +ℤ by)) ≤ℤ reach → Contains to a → Contains to b → BreaksSpace layer other min to a b → IsSpaceSeen rules min to a b
  space layer other min a b plain plain2 some near here there broken =
      let plains = both_plain layer other a.layer b.layer plain plain2 broken.on in
      let o = (flat.leaves a.layer plains.0 a refl).0 here in
      let s = seen_in a o in
      space_seen Flat rules plan s.other kit (Alike bit) f s.memory.floorplan wire by reach (zone_of plan kit f o.leaf o.place) s.there s.memory.shapes to s.compared min a b some near (s.memory.flat.leaves a.layer plains.0) (flat.leaves a.layer plains.0)
      (s.memory.flat.leaves b.layer plains.1) (flat.leaves b.layer plains.1) (in_zone a o) there broken.near

  pub kept : (rule : Rule) → IsPlainRule wire by reach rule → KeepsRule rules to rule
  kept (Width layer min) r = λ a there on. inr (width layer min a r.0 r.1 r.2 there on)
  kept (Space layer other min) r = λ a b here there broken. inl (space layer other min a b r.0 r.1 r.2 r.3 here there broken)
  kept (Enclose layer listed min) r = λ a there on. inr (enclose layer listed min a r.0 r.1 r.2 r.3 there on)

pub plain_rules_are_kept : PlainRulesAreKept
plain_rules_are_kept layers structs rules plan kit bit wire f by reach to p short flat windows rule r = kept (IsFlatShape layers structs) rules plan kit bit wire f by reach to p short flat windows rule r
