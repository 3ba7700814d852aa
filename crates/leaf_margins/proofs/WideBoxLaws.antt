-- A box that is wider and higher than a wire, and that a layer of wires covers near a zone in a small memory, is covered in the memory.
use Rattle.std.proofs.Common.{◌≡◌, inl, inr, ℕ, zero, suc, ◌<◌, ℤ, pos, ◌+ℤ◌, ◌-ℤ◌, ◌≤ℤ◌, ◌<ℤ◌, List, sym, subst, arith}
use Rattle.std.specs.Prelude.{Contains, slice_index}
use Rattle.std.specs.Int.{int_min}
use Rattle.std.proofs.lemmas.Int.{ints, clamps, by_lt_z}
use Rattle.or_geom.specs.declared.shape.Rect.{Rect}
use Rattle.or_geom.specs.declared.shape.Shape.{Shape}
use Rattle.or_geom.specs.Covered.{HasCell}
use Rattle.or_geom.specs.Containing.{HoldsRect}
use Rattle.shape_bins.specs.Layers.{rects_on, IsCoveredBy}
use Rattle.cell_roles.specs.declared.role.Role.{Role}
use Rattle.tech_rules.specs.declared.tech.Rule.{Rule}
use Rattle.tech_rules.specs.declared.tech.Wire.{Wire}
use Rattle.sram_netlist.specs.Organization.{Organization}
use Rattle.sram_netlist.specs.BitCells.{BitCells}
use Rattle.macro_layout.specs.LayoutKit.{LayoutKit}
use Rattle.macro_layout.specs.Places.{Floorplan}
use Rattle.macro_layout.specs.Floorplan.{Tracks}
use Rattle.macro_layout.specs.Wires.{trunk_x}
use Rattle.local_report.specs.Moved.{IsMovedBy}
use Rattle.local_report.proofs.MovedLaws.{part_covered}
use Rattle.good_places.specs.Leaves.{Zone, LiesNear, ReachesNeighboursOnly}
use Rattle.good_places.specs.Kinds.{AreOfOneKind}
use Rattle.good_places.specs.Seen.{AreCompared}
use Rattle.leaf_shapes.specs.Outline.{IsWireLayer}
use Rattle.good_places.specs.Windows.{with_bits}
use Rattle.good_wires.proofs.ClearLaws.{ZoneKind}
use Rattle.supply_bars.proofs.PairedLaws.{ArePaired}
use Rattle.leaf_margins.specs.Memories.{IsMetalOrCut, HasMemoryShapes}
use Rattle.upright_covers.proofs.BoxLaws.{IsWireCell, box_kept}
use Rattle.upright_covers.proofs.AtLaws.{IsBoxAt}
use Rattle.upright_covers.proofs.SecondBoxLaws.{row_of_branches}
use Rattle.upright_covers.proofs.FourthBoxLaws.{fourth_cases}
use Rattle.level_covers.proofs.FirstBoxLaws.{first_kept}
use Rattle.level_covers.proofs.BarColumnLaws.{bar_column}
use Rattle.leaf_margins.proofs.LayerBoxLaws.{paired, zone_is, tap_zones, cut_kept}
use Rattle.level_covers.proofs.ThirdBoxLaws.{third_kept}

-- numbers
clip_wide : (x1 x2 x e dx : ℤ) → x1 ≤ℤ x → x <ℤ x2 → (x +ℤ dx) <ℤ e → x1 <ℤ int_min x2 (e -ℤ dx)
clip_wide x1 x2 x e dx a k l = omega (arith, ints, clamps, a, k, l)

clip_cell : (x x2 e dx : ℤ) → x <ℤ x2 → (x +ℤ dx) <ℤ e → x <ℤ int_min x2 (e -ℤ dx)
clip_cell x x2 e dx a k = omega (arith, ints, clamps, a, k)

clip_less : (x2 e dx : ℤ) → int_min x2 (e -ℤ dx) ≤ℤ x2
clip_less x2 e dx = omega (arith, ints, clamps)

clip_end : (x2 e dx : ℤ) → (int_min x2 (e -ℤ dx) +ℤ dx) ≤ℤ e
clip_end x2 e dx = omega (arith, ints, clamps)

less_more : (a b c : ℤ) → a ≤ℤ b → b ≤ℤ c → a ≤ℤ c
less_more a b c p q = omega (arith, ints, p, q)

clip_near : (tl tr hr x2 u w s reach dx : ℤ) → tl <ℤ (x2 +ℤ s) → tl <ℤ (tr +ℤ reach) → reach ≤ℤ (s +ℤ (w +ℤ s)) → hr ≡ tr +ℤ dx → (hr +ℤ s) ≤ℤ u → tl <ℤ (int_min x2 ((u +ℤ w) -ℤ dx) +ℤ s)
clip_near tl tr hr x2 u w s reach dx left near reaches moved before = omega (arith, ints, clamps, left, near, reaches, moved, before)

-- what of a box stands before an end, as the zone's right end does
record IsClipped (wire : Wire) (reach d dx end : ℤ) (there : Zone) (box part : Rect) : Type 0 where
  pub holds : HoldsRect box part
  pub at : IsBoxAt wire reach there there d part
  pub ends : (part.x2 +ℤ dx) ≤ℤ end
  pub cells : (x y : ℤ) → HasCell box x y → (x +ℤ dx) <ℤ end → HasCell part x y

clipped : (wire : Wire) (reach d dx u : ℤ) (here there : Zone) (box : Rect) → IsBoxAt wire reach there there d box → reach ≤ℤ (wire.space +ℤ (wire.width +ℤ wire.space)) → here.right ≡ there.right +ℤ dx → (here.right +ℤ wire.space) ≤ℤ u → (x : ℤ) → box.x1 ≤ℤ x → x <ℤ box.x2 → (x +ℤ dx) <ℤ (u +ℤ wire.width)
    → (part : Rect) × IsClipped wire reach d dx (u +ℤ wire.width) there box part
clipped wire reach d dx u here there box at reaches moved before x from_x to_x lt = (
  part,
  record {
    holds = record { left = same box.x1; right = clip_less box.x2 (u +ℤ wire.width) dx; low = same box.y1; high = same box.y2 };
    at = record { lies = lies; stands = lies; zones = at.zones; felt = at.felt; left = clip_near there.left there.right here.right box.x2 u wire.width wire.space reach dx at.left at.zones.left reaches moved before; right = at.right; low = at.low; high = at.high };
    ends = clip_end box.x2 (u +ℤ wire.width) dx;
    cells = λ v y inside under. record { left = inside.left; right = clip_cell v box.x2 (u +ℤ wire.width) dx inside.right under; low = inside.low; high = inside.high };
  },
) where
  same : (z : ℤ) → z ≤ℤ z
  same z = omega (arith, ints)

  part : Rect
  part = record { x1 = box.x1; y1 = box.y1; x2 = int_min box.x2 ((u +ℤ wire.width) -ℤ dx); y2 = box.y2; wide = clip_wide box.x1 box.x2 x (u +ℤ wire.width) dx from_x to_x lt; tall = box.tall }

  lies : LiesNear d there part
  lies = record { left = at.lies.left; right = less_more part.x2 box.x2 (there.right +ℤ d) (clip_less box.x2 (u +ℤ wire.width) dx) at.lies.right; low = at.lies.low; high = at.lies.high }

module _ (Met Top Out : Role → ℕ → Type 0) (drop : Role → ℕ) (Flat : List ℕ → Shape → Type 0) (rules : List Rule) (plan : Organization) (kit : LayoutKit) (bits : BitCells) (wire : Wire) (word write masks : ℕ) (tracks many : Tracks) (f g : Floorplan) (by reach : ℤ) (from to : List Shape) (short : ReachesNeighboursOnly kit wire reach)
    (memory : HasMemoryShapes Met Top Out drop Flat plan kit bits wire tracks f by to) (window : HasMemoryShapes Met Top Out drop Flat (with_bits plan word write masks) kit bits wire many g by from) (metals : (k : ℕ) → k < 4 → Contains wire.metals (slice_index wire.metals k))
    (tall : (role : Role) → (wire.width +ℤ wire.width) <ℤ pos (kit.height role)) (here there : Zone) (c : AreCompared Flat rules plan (with_bits plan word write masks) kit bits f g wire by reach here there from) (kinds : AreOfOneKind reach plan (with_bits plan word write masks) kit f g here there) where
  abbrev other : Organization
  other = with_bits plan word write masks

  abbrev dx : ℤ
  dx = c.alike.right

  abbrev dy : ℤ
  dy = c.alike.up

  abbrev pair : ArePaired other plan kit wire g f reach dx dy there here
  pair = paired Met Top Out drop Flat rules plan kit bits wire word write masks tracks many f g by reach from to short memory window metals here there c kinds

  abbrev kind : ZoneKind other kit wire many g window.flat.drawn there
  kind = zone_is Met Top Out drop Flat rules plan kit bits wire word write masks tracks many f g by reach from to short memory window metals here there c kinds

  -- it is wider and higher than a wire, and may be felt
  pub record IsWideBox (d : ℤ) (box : Rect) : Type 0 where
    pub at : IsBoxAt wire reach there there d box
    pub wide : (box.x1 +ℤ wire.width) <ℤ box.x2
    pub high : (box.y1 +ℤ wire.width) <ℤ box.y2

  abbrev Kept : ℕ → Rect → Type 0
  Kept layer box = (x y : ℤ) → HasCell box x y → IsWireCell Flat other kit bits wire many g by from window.flat layer x y → IsWireCell Flat plan kit bits wire tracks f by to memory.flat layer (x +ℤ dx) (y +ℤ dy)

  abbrev end : ℤ
  end = trunk_x plan kit wire f +ℤ wire.width

  metal_own : (k : ℕ) → k < 4 → IsWireLayer wire (slice_index wire.metals k)
  metal_own k few = inl (metals k few)

  first_wide : (d : ℤ) (box : Rect) → IsWideBox d box → IsCoveredBy (slice_index wire.metals 0) from box → Kept (slice_index wire.metals 0) box
  first_wide d box b covered x y inside w = by_lt_z (x +ℤ dx) end
      (λ lt.
      let part = clipped wire reach d dx (trunk_x plan kit wire f) here there box b.at short.wires pair.moved.right pair.end_there x inside.left inside.right lt in
      first_kept Flat plan other kit bits wire tracks many f g by reach from to short memory.flat window.flat (metal_own 0 (omega arith)) dx dy here there pair d part.0 part.1.at (part_covered (rects_on (slice_index wire.metals 0) from) box part.0 part.1.holds covered) part.1.ends x y (part.1.cells x y inside lt) w)
      (λ ge.
      let high = b.high in
      let narrow = bar_column Flat plan other kit bits wire tracks many f g by reach from to short memory.flat window.flat (metal_own 0 (omega arith)) tall dx dy here there c.alike.to pair d box b.at covered x y inside ge in
      absurd (no_room box.y1 box.y2 high narrow))
    where
      no_room : (a z : ℤ) → (a +ℤ wire.width) <ℤ z → z ≤ℤ (a +ℤ wire.width) → ⊥
      no_room a z lt le = omega (arith, ints, lt, le)

  no_width : (box : Rect) → (box.x1 +ℤ wire.width) <ℤ box.x2 → box.x2 ≤ℤ (box.x1 +ℤ wire.width) → ⊥
  no_width box lt le = omega (arith, ints, lt, le)

  metal_wide : (k : ℕ) (few : k < 4) (d : ℤ) (box : Rect) → IsWideBox d box → IsCoveredBy (slice_index wire.metals k) from box → Kept (slice_index wire.metals k) box
  metal_wide zero few d box b covered = first_wide d box b covered
  metal_wide (suc zero) few d box b covered = λ x y inside w.
      absurd (no_width box b.wide (row_of_branches Met Flat plan other kit bits wire tracks many f g by reach from to short memory.flat window.flat memory.branches window.branches (metal_own 1 (omega arith)) dx dy there there c.alike.to kind d box b.at covered x y inside w))
  metal_wide (suc (suc zero)) few d box b covered =
      third_kept Flat plan kit bits wire word write masks plan.word_size plan.write_size plan.masks tracks many f g by reach from to short memory.flat window.flat (metal_own 2 (omega arith)) dx dy here there c.alike.same (tap_zones Met Top Out drop Flat rules plan kit bits wire word write masks tracks many f g by reach from to short memory window metals here there c kinds) d box b.at covered
  metal_wide (suc (suc (suc zero))) few d box b covered = λ x y inside w.
      elim (fourth_cases Top Out drop Flat plan other kit bits wire tracks many f g by reach from to short memory.flat window.flat memory.tops window.tops (metal_own 3 (omega arith)) dx dy there there c.alike.to kind d box b.at covered x y inside w) [
        | inl narrow ↦ absurd (no_width box b.wide narrow)
        | inr found ↦ found
      ]
  metal_wide (suc (suc (suc (suc k)))) few d box b covered = absurd (omega (arith, few))

  pub layer_wide : (layer : ℕ) → IsMetalOrCut wire layer → (d : ℤ) (box : Rect) → IsWideBox d box → (moved : Rect) → IsMovedBy dx dy box moved → IsCoveredBy layer from box → IsCoveredBy layer to moved
  layer_wide layer (inl (k, few, e)) d box b moved at covered =
      subst (λ (n : ℕ). IsCoveredBy n to moved) (sym e)
      (box_kept Flat rules plan other kit bits f g wire tracks many by reach here there from to c memory.flat window.flat (slice_index wire.metals k) d box (metal_own k few) b.at.lies b.at.felt (metal_wide k few d box b (subst (λ (n : ℕ). IsCoveredBy n from box) e covered)) moved at (subst (λ (n : ℕ). IsCoveredBy n from box) e covered))
  layer_wide layer (inr (k, few, e)) d box b moved at covered =
      subst (λ (n : ℕ). IsCoveredBy n to moved) (sym e)
      (box_kept Flat rules plan other kit bits f g wire tracks many by reach here there from to c memory.flat window.flat (slice_index wire.cuts k) d box (inr (window.flat.drawn.three k few)) b.at.lies b.at.felt
      (cut_kept Met Top Out drop Flat rules plan kit bits wire word write masks tracks many f g by reach from to short memory window metals here there c kinds k few d box b.at (subst (λ (n : ℕ). IsCoveredBy n from box) e covered)) moved at (subst (λ (n : ℕ). IsCoveredBy n from box) e covered))
