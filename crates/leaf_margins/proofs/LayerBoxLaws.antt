-- A box that a layer of wires covers near a zone in a small memory is covered in the memory.
use Rattle.std.proofs.Common.{◌≡◌, inl, inr, ℕ, zero, suc, ◌<◌, ℤ, pos, ◌+ℤ◌, ◌≤ℤ◌, List, refl, sym, ap, subst, arith}
use Rattle.std.specs.Prelude.{Contains, slice_index}
use Rattle.std.proofs.lemmas.Int.{ints}
use Rattle.or_geom.specs.declared.shape.Rect.{Rect}
use Rattle.or_geom.specs.declared.shape.Shape.{Shape}
use Rattle.or_geom.specs.Covered.{HasCell}
use Rattle.shape_bins.specs.Layers.{IsCoveredBy}
use Rattle.cell_roles.specs.declared.role.Role.{Role}
use Rattle.cell_roles.specs.declared.role.Role.TheVariants.{Inv}
use Rattle.tech_rules.specs.declared.tech.Rule.{Rule}
use Rattle.tech_rules.specs.declared.tech.Wire.{Wire}
use Rattle.sram_netlist.specs.Organization.{Organization}
use Rattle.sram_netlist.specs.BitCells.{BitCells}
use Rattle.macro_layout.specs.LayoutKit.{LayoutKit}
use Rattle.macro_layout.specs.Places.{Floorplan}
use Rattle.macro_layout.specs.Floorplan.{Tracks, column_channel_y}
use Rattle.macro_layout.specs.Wires.{trunk_x}
use Rattle.local_report.specs.Moved.{IsMovedBy}
use Rattle.good_places.specs.Beside.{HaveOneLeftPart}
use Rattle.good_places.specs.Leaves.{Zone, ReachesNeighboursOnly}
use Rattle.good_places.specs.Kinds.{AreOfOneKind}
use Rattle.good_places.specs.Seen.{AreCompared}
use Rattle.leaf_shapes.specs.Outline.{IsWireLayer}
use Rattle.good_places.specs.Windows.{with_bits}
use Rattle.good_wires.proofs.ClearLaws.{ZoneKind, IsBankZone, column_in, front_in, slice_in}
use Rattle.supply_bars.proofs.PairedLaws.{ArePaired, paired_back, zone_back}
use Rattle.supply_bars.proofs.KindLaws.{kinds_are_paired}
use Rattle.tap_spaces.proofs.TapWindowLaws.{AreTapZones, zones_back}
use Rattle.leaf_margins.specs.Memories.{IsMetalOrCut, HasMemoryShapes}
use Rattle.upright_covers.proofs.BoxLaws.{IsWireCell, box_kept}
use Rattle.upright_covers.proofs.AtLaws.{IsBoxAt}
use Rattle.upright_covers.proofs.SecondBoxLaws.{second_kept}
use Rattle.upright_covers.proofs.FourthBoxLaws.{fourth_kept}
use Rattle.leaf_margins.proofs.CutBoxLaws.{cut_out}
use Rattle.level_covers.proofs.FirstBoxLaws.{first_kept}
use Rattle.leaf_margins.proofs.FirstCutBoxLaws.{first_cut_out}
use Rattle.level_covers.proofs.ThirdBoxLaws.{third_kept}

module _ (Met Top Out : Role → ℕ → Type 0) (drop : Role → ℕ) (Flat : List ℕ → Shape → Type 0) (rules : List Rule) (plan : Organization) (kit : LayoutKit) (bits : BitCells) (wire : Wire) (word write masks : ℕ) (tracks many : Tracks) (f g : Floorplan) (by reach : ℤ) (from to : List Shape) (short : ReachesNeighboursOnly kit wire reach)
    (memory : HasMemoryShapes Met Top Out drop Flat plan kit bits wire tracks f by to) (window : HasMemoryShapes Met Top Out drop Flat (with_bits plan word write masks) kit bits wire many g by from) (metals : (k : ℕ) → k < 4 → Contains wire.metals (slice_index wire.metals k))
    (here there : Zone) (c : AreCompared Flat rules plan (with_bits plan word write masks) kit bits f g wire by reach here there from) (kinds : AreOfOneKind reach plan (with_bits plan word write masks) kit f g here there) where
  abbrev other : Organization
  other = with_bits plan word write masks

  abbrev dx : ℤ
  dx = c.alike.right

  abbrev dy : ℤ
  dy = c.alike.up

  one_left : HaveOneLeftPart plan other
  one_left = record { groups = refl; col_bits = refl; bank_bits = refl }

  swap : (a b : ℤ) → a +ℤ b ≡ pos 0 → b +ℤ a ≡ pos 0
  swap a b e = omega (arith, ints, e)

  pub paired : ArePaired other plan kit wire g f reach dx dy there here
  paired =
      paired_back plan other kit wire f g reach c.alike.left c.alike.down dx dy here there (swap dx c.alike.left c.alike.back_x) (swap dy c.alike.down c.alike.back_y)
      (kinds_are_paired plan other kit wire tracks many f g memory.flat.drawn window.flat.drawn reach short one_left c.alike.left c.alike.down here there (zone_back dx dy c.alike.left c.alike.down there here c.alike.back_x c.alike.back_y c.alike.same) kinds)

  same : (z : ℤ) → z ≤ℤ z
  same z = omega (arith, ints)

  from_is : (a b : ℤ) → a ≡ b → b ≤ℤ a
  from_is a b e = omega (arith, ints, e)

  -- what stands in the small memory's zone
  pub zone_is : ZoneKind other kit wire many g window.flat.drawn there
  zone_is = elim kinds [
    | inl z ↦ inl (z.bank, subst (IsBankZone other kit wire many g window.flat.drawn z.bank) (sym z.there_is) (column_in other kit wire many g window.flat.drawn z.bank z.d z.below z.edge.there), from_is there.low g.column_y (ap (λ (q : Zone). q.low) z.there_is))
    | inr rest ↦ elim rest [
      | inl z ↦ inl (z.bank, subst (IsBankZone other kit wire many g window.flat.drawn z.bank) (sym z.there_is) (front_in other kit wire many g window.flat.drawn z.bank z.below), from_is there.low g.column_y (ap (λ (q : Zone). q.low) z.there_is))
      | inr more ↦ elim more [
        | inl z ↦ inr (inl (
          z.bank,
          subst (IsBankZone other kit wire many g window.flat.drawn z.bank) (sym z.there_is) (slice_in other kit wire many g window.flat.drawn z.bank z.j z.below z.edge.there),
          from_is there.low g.write_y (ap (λ (q : Zone). q.low) z.there_is),
          from_is (column_channel_y kit g) there.high (sym (ap (λ (q : Zone). q.high) z.there_is)),
        ))
        | inr z ↦ inr (inr (from_is there.low (pos 0) (ap (λ (q : Zone). q.low) z.there_is), from_is (pos (kit.height Inv)) there.high (sym (ap (λ (q : Zone). q.high) z.there_is)), paired.end_here))
      ]
    ]
  ]

  pub tap_zones : AreTapZones other plan kit g f there here
  tap_zones = zones_back plan word write masks kit f g here there (elim kinds [
    | inl z ↦ inl z
    | inr rest ↦ elim rest [
      | inl z ↦ inr (inl z)
      | inr more ↦ elim more [
        | inl z ↦ inr (inr (inl z))
        | inr z ↦ inr (inr (inr (record { here_high = from_is (pos (kit.height Inv)) here.high (sym (ap (λ (q : Zone). q.high) z.here_is)); there_high = from_is (pos (kit.height Inv)) there.high (sym (ap (λ (q : Zone). q.high) z.there_is)) })))
      ]
    ]
  ])

  -- what the box has to keep to: above, below and to the right no more than a space and a wire's width
  pub record IsCloseBox (d : ℤ) (box : Rect) : Type 0 where
    pub some : pos 1 ≤ℤ d
    pub at : IsBoxAt wire reach there there d box
    pub close : d ≤ℤ (wire.space +ℤ wire.width)

  abbrev pub Kept : ℕ → Rect → Type 0
  Kept layer box = (x y : ℤ) → HasCell box x y → IsWireCell Flat other kit bits wire many g by from window.flat layer x y → IsWireCell Flat plan kit bits wire tracks f by to memory.flat layer (x +ℤ dx) (y +ℤ dy)

  metal_own : (k : ℕ) → k < 4 → IsWireLayer wire (slice_index wire.metals k)
  metal_own k few = inl (metals k few)

  cut_own : (k : ℕ) → k < 3 → IsWireLayer wire (slice_index wire.cuts k)
  cut_own k few = inr (window.flat.drawn.three k few)

  past : (b z d : ℤ) → b ≤ℤ (z +ℤ d) → d ≤ℤ (wire.space +ℤ wire.width) → b ≤ℤ (z +ℤ (wire.space +ℤ wire.width))
  past b z d a e = omega (arith, ints, a, e)

  past_trunk : (b t h u d : ℤ) → b ≤ℤ (t +ℤ d) → d ≤ℤ (wire.space +ℤ wire.width) → h ≡ t +ℤ dx → (h +ℤ wire.space) ≤ℤ u → (b +ℤ dx) ≤ℤ (u +ℤ wire.width)
  past_trunk b t h u d a e m k = omega (arith, ints, a, e, m, k)

  metal_kept : (k : ℕ) (few : k < 4) (d : ℤ) (box : Rect) → IsCloseBox d box → IsCoveredBy (slice_index wire.metals k) from box → Kept (slice_index wire.metals k) box
  metal_kept zero few d box b covered =
      first_kept Flat plan other kit bits wire tracks many f g by reach from to short memory.flat window.flat (metal_own 0 (omega arith)) dx dy here there paired d box b.at covered (past_trunk box.x2 there.right here.right (trunk_x plan kit wire f) d b.at.lies.right b.close paired.moved.right paired.end_there)
  metal_kept (suc zero) few d box b covered =
      second_kept Met Flat plan other kit bits wire tracks many f g by reach from to short memory.flat window.flat memory.branches window.branches (metal_own 1 (omega arith)) dx dy there there c.alike.to zone_is d box b.at covered (past box.y2 there.high d b.at.lies.high b.close)
  metal_kept (suc (suc zero)) few d box b covered =
      third_kept Flat plan kit bits wire word write masks plan.word_size plan.write_size plan.masks tracks many f g by reach from to short memory.flat window.flat (metal_own 2 (omega arith)) dx dy here there c.alike.same tap_zones d box b.at covered
  metal_kept (suc (suc (suc zero))) few d box b covered =
      fourth_kept Top Out drop Flat plan other kit bits wire tracks many f g by reach from to short memory.flat window.flat memory.tops window.tops (metal_own 3 (omega arith)) dx dy there there c.alike.to zone_is d box b.at covered (past there.low box.y1 d b.at.lies.low b.close)
  metal_kept (suc (suc (suc (suc k)))) few d box b covered = absurd (omega (arith, few))

  pub cut_kept : (k : ℕ) → k < 3 → (d : ℤ) (box : Rect) → IsBoxAt wire reach there there d box → IsCoveredBy (slice_index wire.cuts k) from box → Kept (slice_index wire.cuts k) box
  cut_kept zero few d box b covered x y inside w = absurd (first_cut_out Flat other kit bits wire many g by reach from window.flat (cut_own 0 few) there there zone_is d box b covered x y inside w)
  cut_kept (suc k) few d box b covered x y inside w = absurd (cut_out Flat other kit bits wire many g by reach from window.flat (suc k) few (omega arith) (cut_own (suc k) few) there there zone_is d box b covered x y inside w)

  pub layer_kept : (layer : ℕ) → IsMetalOrCut wire layer → (d : ℤ) (box : Rect) → IsCloseBox d box → (moved : Rect) → IsMovedBy dx dy box moved → IsCoveredBy layer from box → IsCoveredBy layer to moved
  layer_kept layer (inl (k, few, e)) d box b moved at covered =
      subst (λ (n : ℕ). IsCoveredBy n to moved) (sym e)
      (box_kept Flat rules plan other kit bits f g wire tracks many by reach here there from to c memory.flat window.flat (slice_index wire.metals k) d box (metal_own k few) b.at.lies b.at.felt (metal_kept k few d box b (subst (λ (n : ℕ). IsCoveredBy n from box) e covered)) moved at (subst (λ (n : ℕ). IsCoveredBy n from box) e covered))
  layer_kept layer (inr (k, few, e)) d box b moved at covered =
      subst (λ (n : ℕ). IsCoveredBy n to moved) (sym e)
      (box_kept Flat rules plan other kit bits f g wire tracks many by reach here there from to c memory.flat window.flat (slice_index wire.cuts k) d box (cut_own k few) b.at.lies b.at.felt (cut_kept k few d box b.at (subst (λ (n : ℕ). IsCoveredBy n from box) e covered)) moved at (subst (λ (n : ℕ). IsCoveredBy n from box) e covered))
