-- The leaf cells of a kit fit its wires, and its metals are the first layers with their numbers.
use Rattle.std.proofs.Common.{◌≡◌, ℕ, zero, suc, ◌<◌, ℤ, pos, ◌+ℤ◌, ◌-ℤ◌, ◌≤ℤ◌, ◌<ℤ◌, List, Option, None, Some, refl, sym, ap, subst, ◌∙◌, arith}
use Rattle.std.specs.Prelude.{slice_get, slice_index, Contains, IfSome}
use Rattle.std.specs.List.{AllByRecursion}
use Rattle.std.proofs.lemmas.Int.{ints}
use Rattle.std.proofs.lemmas.Option.{same_Some}
use Rattle.or_geom.specs.declared.shape.Rect.{Rect}
use Rattle.or_geom.specs.declared.shape.Shape.{Shape}
use Rattle.or_geom.proofs.ListLaws.{all_contained, contained_at}
use Rattle.cell_roles.specs.declared.role.Role.{Role}
use Rattle.cell_roles.specs.declared.role.Role.TheVariants.{Bitcell, Precharge, Mux, Tie, Sense, Write, RowNand2, RowNand3, Driver, Nand2, Nand3, Inv, Dff, Delay}
use Rattle.cell_roles.specs.declared.leaf_role.LeafRole.TheVariants.{Common}
use Rattle.tech_rules.specs.declared.tech.Wire.{Wire}
use Rattle.tech_rules.specs.WireRules.{first_bad_index}
use Rattle.cell_hierarchy.specs.FlatSet.{IsFlatShape}
use Rattle.channel_router.specs.Apart.{AreSevenLayers}
use Rattle.sram_netlist.specs.Organization.{Organization}
use Rattle.sram_netlist.specs.Instances.{LeafInstance, BitAt, NandAt, DriverAt, PrechargeAt, WriteAt, SenseAt, MuxAt, TieAt, LogicAt}
use Rattle.sram_netlist.specs.Netlist.{role}
use Rattle.sram_netlist.specs.Membership.{HasLeafInstance}
use Rattle.sram_netlist.specs.BitCells.{BitCells}
use Rattle.leaf_shapes.specs.declared.demand.Metal.{Metal}
use Rattle.leaf_shapes.specs.declared.demand.Metal.TheVariants.{M1, M2, M3, M4}
use Rattle.leaf_shapes.specs.declared.fit.CellSize.{CellSize}
use Rattle.leaf_shapes.specs.declared.fit.Fit.{Fit}
use Rattle.leaf_shapes.specs.declared.fit.Fit.TheVariants.{Top, Bottom, TopAndBottom, Left, Right, LeftAndRight, Anywhere, LowerRail, UpperRail}
use Rattle.leaf_shapes.specs.declared.pins.LeafPin.{LeafPin}
use Rattle.leaf_shapes.specs.Demands.{PinDemand, draw, metal_layer, role_demands}
use Rattle.leaf_shapes.specs.Fits.{IsAcross, IsWireHigh, FitsCell}
use Rattle.leaf_tables.specs.declared.kit.Kit.{Kit}
use Rattle.leaf_tables.specs.declared.kit.Leaf.{Leaf}
use Rattle.leaf_tables.specs.Alignment.{height_in, width_in}
use Rattle.leaf_tables.specs.Kits.{IsKit}
use Rattle.leaf_tables.specs.Leaves.{size_of}
use Rattle.macro_layout.specs.Places.{leaf_cell}
use Rattle.floorplan.specs.LeafSides.{side_of, leaf_width, leaf_height}
use Rattle.floorplan.specs.LayoutOfKit.{layout_kit, pin_shape}
use Rattle.view_cover.specs.Bits.{LiesInCell, AreBitsInside}
use Rattle.view_cover.proofs.LayerLaws.{IsFirst, flat_numbered, numbered_first, cut_first}
use Rattle.view_cover.proofs.FitLaws.{IsLogicRole, FitsWires}
use Rattle.floorplan.proofs.DemandLaws.{wire_there, seven_in_kit}
use Rattle.view_cover.proofs.RoleLaws.{metal_there, role_leaf, width_is, kit_sides, drawn_inside, IsPinAt, demand_at, shape_of, pin_inside, square_or, found_pin}
use Rattle.view_cover.proofs.WholeLaws.{AreLayers}
use Rattle.leaf_tables.proofs.RoleLaws.{in_kit}

-- Which fits stand on which metal

-- on the second metal a shape is as wide as a wire, on the third as high as one
abbrev FitsMetal : Metal → Fit → Type 0
FitsMetal M2 Top = Unit {0}
FitsMetal M2 Bottom = Unit {0}
FitsMetal M2 TopAndBottom = Unit {0}
FitsMetal M2 fit = ⊥
FitsMetal M3 Anywhere = Unit {0}
FitsMetal M3 fit = ⊥
FitsMetal M1 fit = Unit {0}
FitsMetal M4 fit = Unit {0}

abbrev IsFitting : PinDemand → Type 0
IsFitting d = FitsMetal d.metal d.fit

all_fit : (role : Role) → AllByRecursion IsFitting (role_demands role)
all_fit Bitcell = (tt, (tt, (tt, (tt, (tt, tt)))))
all_fit Precharge = (tt, (tt, (tt, (tt, (tt, tt)))))
all_fit Mux = (tt, (tt, (tt, (tt, (tt, (tt, (tt, tt)))))))
all_fit Tie = (tt, (tt, (tt, (tt, (tt, (tt, tt))))))
all_fit Sense = (tt, (tt, (tt, (tt, (tt, (tt, tt))))))
all_fit Write = (tt, (tt, (tt, (tt, (tt, (tt, tt))))))
all_fit RowNand2 = (tt, (tt, (tt, (tt, (tt, tt)))))
all_fit RowNand3 = (tt, (tt, (tt, (tt, (tt, (tt, tt))))))
all_fit Driver = (tt, (tt, (tt, (tt, (tt, tt)))))
all_fit Nand2 = (tt, (tt, (tt, (tt, (tt, tt)))))
all_fit Nand3 = (tt, (tt, (tt, (tt, (tt, (tt, tt))))))
all_fit Inv = (tt, (tt, (tt, (tt, tt))))
all_fit Dff = (tt, (tt, (tt, (tt, (tt, tt)))))
all_fit Delay = (tt, (tt, (tt, (tt, tt))))

fit_at : (role : Role) (k : ℕ) (d : PinDemand) → slice_get (role_demands role) k ≡ Some d → IsFitting d
fit_at role k d at = all_contained IsFitting (role_demands role) d (all_fit role) (contained_at (role_demands role) k d at)

across_is : (fit : Fit) (w : ℤ) (size : CellSize) (r : Rect) → FitsMetal M2 fit → FitsCell fit w size r → IsAcross w r
across_is Top w size r on fits = fits.1
across_is Bottom w size r on fits = fits.1
across_is TopAndBottom w size r on fits = fits.2
across_is Left w size r on fits = absurd on
across_is Right w size r on fits = absurd on
across_is LeftAndRight w size r on fits = absurd on
across_is Anywhere w size r on fits = absurd on
across_is LowerRail w size r on fits = absurd on
across_is UpperRail w size r on fits = absurd on

upward_is : (fit : Fit) (w : ℤ) (size : CellSize) (r : Rect) → FitsMetal M3 fit → FitsCell fit w size r → IsWireHigh w r
upward_is Top w size r on fits = absurd on
upward_is Bottom w size r on fits = absurd on
upward_is TopAndBottom w size r on fits = absurd on
upward_is Left w size r on fits = absurd on
upward_is Right w size r on fits = absurd on
upward_is LeftAndRight w size r on fits = absurd on
upward_is Anywhere w size r on fits = fits
upward_is LowerRail w size r on fits = absurd on
upward_is UpperRail w size r on fits = absurd on

-- a demand whose layer is the second metal's is on it; the third's likewise
second_is : (wire : Wire) (m : Metal) → AreSevenLayers wire → metal_layer wire m ≡ slice_index wire.metals 1 → M2 ≡ m
second_is wire M1 seven e = absurd (seven.metals 0 1 (omega arith) (omega arith) e)
second_is wire M2 seven e = refl
second_is wire M3 seven e = absurd (seven.metals 1 2 (omega arith) (omega arith) (sym e))
second_is wire M4 seven e = absurd (seven.metals 1 3 (omega arith) (omega arith) (sym e))

third_is : (wire : Wire) (m : Metal) → AreSevenLayers wire → metal_layer wire m ≡ slice_index wire.metals 2 → M3 ≡ m
third_is wire M1 seven e = absurd (seven.metals 0 2 (omega arith) (omega arith) e)
third_is wire M2 seven e = absurd (seven.metals 1 2 (omega arith) (omega arith) e)
third_is wire M3 seven e = refl
third_is wire M4 seven e = absurd (seven.metals 2 3 (omega arith) (omega arith) (sym e))

-- each role has a lower rail
record HasLowerRail (role : Role) : Type 0 where
  k : ℕ
  name : List ℕ
  at : slice_get (role_demands role) k ≡ Some (draw name M1 LowerRail)

lower_rail : (role : Role) → HasLowerRail role
lower_rail Bitcell = record { k = 4; name = _; at = refl }
lower_rail Precharge = record { k = 4; name = _; at = refl }
lower_rail Mux = record { k = 5; name = _; at = refl }
lower_rail Tie = record { k = 4; name = _; at = refl }
lower_rail Sense = record { k = 5; name = _; at = refl }
lower_rail Write = record { k = 4; name = _; at = refl }
lower_rail RowNand2 = record { k = 4; name = _; at = refl }
lower_rail RowNand3 = record { k = 5; name = _; at = refl }
lower_rail Driver = record { k = 4; name = _; at = refl }
lower_rail Nand2 = record { k = 4; name = _; at = refl }
lower_rail Nand3 = record { k = 5; name = _; at = refl }
lower_rail Inv = record { k = 3; name = _; at = refl }
lower_rail Dff = record { k = 4; name = _; at = refl }
lower_rail Delay = record { k = 3; name = _; at = refl }

-- the first demand of these roles is on the second metal
record HasSecond (role : Role) : Type 0 where
  name : List ℕ
  fit : Fit
  at : slice_get (role_demands role) 0 ≡ Some (draw name M2 fit)

sense_second : HasSecond Sense
sense_second = record { name = _; fit = _; at = refl }

logic_second : (role : Role) → IsLogicRole role → HasSecond role
logic_second Nand2 is = record { name = _; fit = _; at = refl }
logic_second Nand3 is = record { name = _; fit = _; at = refl }
logic_second Inv is = record { name = _; fit = _; at = refl }
logic_second Dff is = record { name = _; fit = _; at = refl }
logic_second Delay is = record { name = _; fit = _; at = refl }
logic_second Bitcell is = absurd is
logic_second Precharge is = absurd is
logic_second Mux is = absurd is
logic_second Tie is = absurd is
logic_second Sense is = absurd is
logic_second Write is = absurd is
logic_second RowNand2 is = absurd is
logic_second RowNand3 is = absurd is
logic_second Driver is = absurd is

module _ (kit : Kit) (is : IsKit kit) where
  width_one : pos 1 ≤ℤ is.wire.width
  width_one = (wire_there kit is).sizes.width.from

  tall_is : (role : Role) → is.wire.width ≤ℤ pos (leaf_height kit role)
  tall_is role =
      let l = role_leaf kit is role in
      let rail = lower_rail role in
      let p = demand_at kit is role l.leaf l.there rail.k (draw rail.name M1 LowerRail) rail.at in
      let below = (pin_inside kit is role l.leaf l.there (draw rail.name M1 LowerRail) p.0 p.1).below in
      let fits = p.1.drawn.is.has.1.2 in
      omega (arith, ints, below, fits)

  across_at : (role : Role) (leaf : Leaf) (there : _) (d : PinDemand) (pin : LeafPin) → M2 ≡ d.metal → IsPinAt kit is role leaf there d pin → (pin.rect.x1 +ℤ is.wire.width) ≤ℤ pos (leaf_width kit role)
  across_at role leaf there d pin on p =
      let fit = fit_at role p.k d p.demanded in
      let across : pin.rect.x2 -ℤ pin.rect.x1 ≡ is.wire.width = across_is d.fit is.wire.width (size_of leaf) pin.rect (subst (λ (m : Metal). FitsMetal m d.fit) (sym on) fit) p.drawn.is.has.1 in
      let to = (pin_inside kit is role leaf there d pin p).to in
      omega (arith, ints, across, to)

  wide_is : (role : Role) → HasSecond role → (pos 0 +ℤ is.wire.width) ≤ℤ pos (leaf_width kit role)
  wide_is role second =
      let l = role_leaf kit is role in
      let p = demand_at kit is role l.leaf l.there 0 (draw second.name M2 second.fit) second.at in
      let room = across_at role l.leaf l.there (draw second.name M2 second.fit) p.0 refl p.1 in
      let from = (pin_inside kit is role l.leaf l.there (draw second.name M2 second.fit) p.0 p.1).from in
      omega (arith, ints, room, from)

  across : (role : Role) → HasSecond role → (port : ℕ) → (((layout_kit kit).pin role port 1).x1 +ℤ is.wire.width) ≤ℤ pos (leaf_width kit role)
  across role second port = square_or (λ (r : Rect). (r.x1 +ℤ is.wire.width) ≤ℤ pos (leaf_width kit role)) (pin_shape kit role port 1) (wide_is role second) (λ r e.
      let found = found_pin kit is role port 1 r e in
      subst (λ (q : Rect). (q.x1 +ℤ is.wire.width) ≤ℤ pos (leaf_width kit role)) found.rect
      (across_at role found.leaf found.there found.demand found.pin (second_is is.wire found.demand.metal (seven_in_kit kit is) (sym found.at.drawn.is.has.0 ∙ found.on)) found.at))

  upward : (port : ℕ) → (((layout_kit kit).pin Precharge port 2).y1 +ℤ is.wire.width) ≤ℤ pos (leaf_height kit Precharge)
  upward port = square_or (λ (r : Rect). (r.y1 +ℤ is.wire.width) ≤ℤ pos (leaf_height kit Precharge)) (pin_shape kit Precharge port 2) (let tall = tall_is Precharge in omega (arith, ints, tall)) (λ r e.
      let found = found_pin kit is Precharge port 2 r e in
      let on = third_is is.wire found.demand.metal (seven_in_kit kit is) (sym found.at.drawn.is.has.0 ∙ found.on) in
      let fit = fit_at Precharge found.at.k found.demand found.at.demanded in
      let tall : found.pin.rect.y2 -ℤ found.pin.rect.y1 ≡ is.wire.width = upward_is found.demand.fit is.wire.width (size_of found.leaf) found.pin.rect (subst (λ (m : Metal). FitsMetal m found.demand.fit) (sym on) fit) found.at.drawn.is.has.1 in
      let below = (pin_inside kit is Precharge found.leaf found.there found.demand found.pin found.at).below in
      subst (λ (q : Rect). (q.y1 +ℤ is.wire.width) ≤ℤ pos (leaf_height kit Precharge)) found.rect (omega (arith, ints, tall, below)))

  some_width : (role : Role) → pos 1 ≤ℤ pos (leaf_width kit role)
  some_width role =
      let l = role_leaf kit is role in
      let o = l.has.sized.outline in
      by o.shape.rect.x1 o.shape.rect.x2 l.leaf.width (pos (leaf_width kit role)) o.shape.rect.wide o.is.left o.is.right (width_is kit is role l.leaf l.there)
    where
      by : (x1 x2 w w2 : ℤ) → x1 <ℤ x2 → x1 ≡ pos 0 → x2 ≡ w → w2 ≡ w → pos 1 ≤ℤ w2
      by x1 x2 w w2 lt a b c = omega (arith, ints, lt, a, b, c)

  inside : (role : Role) (port metal : ℕ) → LiesInCell (leaf_width kit role) (leaf_height kit role) ((layout_kit kit).pin role port metal)
  inside role port metal = square_or (LiesInCell (leaf_width kit role) (leaf_height kit role)) (pin_shape kit role port metal) (record {
    from = omega (arith, ints);
    above = omega (arith, ints);
    to = some_width role;
    below = (let one = width_one in let tall = tall_is role in omega (arith, ints, one, tall));
  }) (λ r e.
      let found = found_pin kit is role port metal r e in
      subst (LiesInCell (leaf_width kit role) (leaf_height kit role)) found.rect (pin_inside kit is role found.leaf found.there found.demand found.pin found.at))

  heights : (a b : Role) → height_in kit.leaves a ≡ height_in kit.leaves b → leaf_height kit a ≡ leaf_height kit b
  heights a b e = ap side_of e

  widths : (a b : Role) → width_in kit.leaves a ≡ width_in kit.leaves b → leaf_width kit a ≡ leaf_width kit b
  widths a b e = ap side_of e

  logic_heights : (role : Role) → IsLogicRole role → leaf_height kit role ≡ leaf_height kit Inv
  logic_heights Nand2 at = sym (heights Inv Nand2 is.aligned.heights.1.1.1.1.0)
  logic_heights Nand3 at = heights Nand3 Nand2 is.aligned.heights.1.1.1.0 ∙ sym (heights Inv Nand2 is.aligned.heights.1.1.1.1.0)
  logic_heights Inv at = refl
  logic_heights Dff at = heights Dff Nand2 is.aligned.heights.1.1.1.1.1.0 ∙ sym (heights Inv Nand2 is.aligned.heights.1.1.1.1.0)
  logic_heights Delay at = heights Delay Nand2 is.aligned.heights.1.1.1.1.1.1.0 ∙ sym (heights Inv Nand2 is.aligned.heights.1.1.1.1.0)
  logic_heights Bitcell at = absurd at
  logic_heights Precharge at = absurd at
  logic_heights Mux at = absurd at
  logic_heights Tie at = absurd at
  logic_heights Sense at = absurd at
  logic_heights Write at = absurd at
  logic_heights RowNand2 at = absurd at
  logic_heights RowNand3 at = absurd at
  logic_heights Driver at = absurd at

  fits : FitsWires (layout_kit kit) is.wire
  fits = record {
    inside = inside;
    tall = tall_is;
    logic_across = λ role at. across role (logic_second role at);
    sense_across = across Sense sense_second;
    upward = upward;
    nand2 = heights RowNand2 Bitcell is.aligned.heights.0;
    nand3 = heights RowNand3 Bitcell is.aligned.heights.1.0;
    driver = heights Driver Bitcell is.aligned.heights.1.1.0;
    precharge = widths Precharge Bitcell is.aligned.widths.0;
    mux = widths Mux Bitcell is.aligned.widths.1.0;
    tie = widths Tie Bitcell is.aligned.widths.1.1.0;
    logic = logic_heights;
  }

  -- Layers

  sense_metal : (k : ℕ) (d : PinDemand) → slice_get (role_demands Sense) k ≡ Some d → IsFirst kit.tech.layers (metal_layer is.wire d.metal)
  sense_metal k d at =
      let l = role_leaf kit is Sense in
      let p = demand_at kit is Sense l.leaf l.there k d at in
      let h = in_kit kit Sense l.leaf is l.there in
      let flat = (h.sized.flat.flat.shapes_exact (shape_of p.0)).0 p.1.drawn.is.bound.binds.listed in
      subst (IsFirst kit.tech.layers) p.1.drawn.is.has.0 (numbered_first kit.tech.layers p.0.layer (flat_numbered kit.tech.layers kit.lib.structs h.cell (shape_of p.0) flat))

  metals_first : (metal : ℕ) → metal < 4 → IsFirst kit.tech.layers (slice_index is.wire.metals metal)
  metals_first zero lt = sense_metal 5 _ refl
  metals_first (suc zero) lt = sense_metal 0 _ refl
  metals_first (suc (suc zero)) lt = sense_metal 3 _ refl
  metals_first (suc (suc (suc zero))) lt = sense_metal 2 _ refl
  metals_first (suc (suc (suc (suc n)))) lt = absurd (omega (arith, lt))

  allowed : first_bad_index kit.tech is.wire ≡ None
  allowed = subst (λ (w : Option Wire). IfSome w (λ (x : Wire). first_bad_index kit.tech x ≡ None)) is.wired is.tech.allowed

  on_metal : (metal : ℕ) (s : Shape) → metal < 4 → s.layer ≡ slice_index is.wire.metals metal → Contains is.wire.metals s.layer
  on_metal metal s lt on = subst (Contains is.wire.metals) (sym on) (metal_there is.wire metal (wire_there kit is).four lt)

  leaf_inside : (role : Role) (metal : ℕ) (s : Shape) → metal < 4 → IsFlatShape kit.tech.layers kit.lib.structs ((layout_kit kit).cell role) s → s.layer ≡ slice_index is.wire.metals metal → LiesInCell (leaf_width kit role) (leaf_height kit role) s.rect
  leaf_inside role metal s lt flat on =
      let l = role_leaf kit is role in
      drawn_inside kit is.wire (Common role) (leaf_width kit role) (leaf_height kit role) (kit_sides kit is role l.leaf l.there) s flat (on_metal metal s lt on)

  -- a bit's cell stands in the place of a bitcell
  instance_inside : (plan : Organization) (bits : BitCells) → AreBitsInside kit is.wire plan bits → (leaf : LeafInstance) → HasLeafInstance plan leaf → (metal : ℕ) (s : Shape) → metal < 4
      → IsFlatShape kit.tech.layers kit.lib.structs (leaf_cell plan (layout_kit kit) bits leaf) s → s.layer ≡ slice_index is.wire.metals metal → LiesInCell (leaf_width kit (role plan leaf)) (leaf_height kit (role plan leaf)) s.rect
  instance_inside plan bits fits_place (BitAt b r c) has = λ metal s lt flat on. fits_place r c has.1.0 has.1.1 s flat (on_metal metal s lt on)
  instance_inside plan bits fits_place (NandAt b r) has = leaf_inside (role plan (NandAt b r))
  instance_inside plan bits fits_place (DriverAt b r) has = leaf_inside Driver
  instance_inside plan bits fits_place (PrechargeAt b c) has = leaf_inside Precharge
  instance_inside plan bits fits_place (WriteAt b i) has = leaf_inside Write
  instance_inside plan bits fits_place (SenseAt b i) has = leaf_inside Sense
  instance_inside plan bits fits_place (MuxAt b c) has = leaf_inside Mux
  instance_inside plan bits fits_place (TieAt b c) has = leaf_inside Tie
  instance_inside plan bits fits_place (LogicAt cell) has = leaf_inside (role plan (LogicAt cell))

  layers : (plan : Organization) (bits : BitCells) → AreBitsInside kit is.wire plan bits → AreLayers kit.tech.layers is.wire plan (layout_kit kit) bits (IsFlatShape kit.tech.layers kit.lib.structs)
  layers plan bits fits_place = record {
    seven = seven_in_kit kit is;
    metals = metals_first;
    cuts = cut_first kit.tech is.wire (wire_there kit is).three (wire_there kit is).four allowed;
    leaves = instance_inside plan bits fits_place;
  }

pub same_wire : (kit : Kit) (wire : Wire) (is : IsKit kit) → kit.tech.wire ≡ Some wire → is.wire ≡ wire
same_wire kit wire is wired = same_Some is.wire wire (sym is.wired ∙ wired)

pub kit_fits : (kit : Kit) (wire : Wire) → IsKit kit → kit.tech.wire ≡ Some wire → FitsWires (layout_kit kit) wire
kit_fits kit wire is wired = subst (FitsWires (layout_kit kit)) (same_wire kit wire is wired) (fits kit is)

pub kit_layers : (kit : Kit) (wire : Wire) (plan : Organization) (bits : BitCells) → IsKit kit → kit.tech.wire ≡ Some wire → AreBitsInside kit wire plan bits → AreLayers kit.tech.layers wire plan (layout_kit kit) bits (IsFlatShape kit.tech.layers kit.lib.structs)
kit_layers kit wire plan bits is wired = subst (λ (w : Wire). AreBitsInside kit w plan bits → AreLayers kit.tech.layers w plan (layout_kit kit) bits (IsFlatShape kit.tech.layers kit.lib.structs)) (same_wire kit wire is wired) (layers kit is plan bits)
