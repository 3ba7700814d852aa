-- In a kit whose pins are right each leaf cell is more than two wires high.
use Rattle.std.proofs.Common.{◌≡◌, ◌⊎◌, inl, inr, ◌∙◌, ℕ, ◌<◌, ℤ, pos, ◌+ℤ◌, ◌-ℤ◌, ◌≤ℤ◌, ◌<ℤ◌, List, Option, Some, None, refl, sym, subst, arith}
use Rattle.std.specs.Prelude.{Contains, slice_get, codes, slice_index}
use Rattle.std.proofs.lemmas.Int.{ints, by_lt_z}
use Rattle.or_geom.specs.declared.shape.Rect.{Rect}
use Rattle.or_geom.specs.declared.shape.Shape.{Shape}
use Rattle.or_geom.specs.Joined.{AreJoined}
use Rattle.or_geom.proofs.ListLaws.{contained_at}
use Rattle.cell_roles.specs.declared.role.Role.{Role}
use Rattle.cell_roles.specs.declared.role.Role.TheVariants.{Bitcell, Precharge, Mux, Tie, Sense, Write, RowNand2, RowNand3, Driver, Nand2, Nand3, Inv, Dff, Delay}
use Rattle.cell_roles.specs.declared.leaf_role.LeafRole.TheVariants.{Common}
use Rattle.cell_roles.specs.Roles.{role_ports}
use Rattle.tech_rules.specs.declared.tech.Wire.{Wire}
use Rattle.std.specs.Option.{IfSome}
use Rattle.tech_rules.specs.WireRules.{first_bad_index}
use Rattle.tech_rules.proofs.LinkedLaws.{linked_next}
use Rattle.tech_rules.specs.Touch.{Touch, IsConductor}
use Rattle.cell_hierarchy.specs.Plain.{FlatLists}
use Rattle.cell_hierarchy.specs.FlatLists.{AreFlatLists}
use Rattle.cell_hierarchy.proofs.OneListsLaws.{one_pair}
use Rattle.label_binding.specs.Binding.{Binds}
use Rattle.label_binding.specs.BoundPlaces.{label_anchor}
use Rattle.leaf_shapes.specs.declared.demand.Metal.TheVariants.{M1}
use Rattle.leaf_shapes.specs.declared.fit.Fit.{Fit}
use Rattle.leaf_shapes.specs.declared.fit.Fit.TheVariants.{LowerRail, UpperRail}
use Rattle.leaf_shapes.specs.Demands.{draw, role_demands}
use Rattle.leaf_shapes.specs.Fits.{FitsCell}
use Rattle.leaf_shapes.specs.Pins.{CellDrawing}
use Rattle.leaf_tables.specs.declared.kit.Kit.{Kit}
use Rattle.leaf_tables.specs.declared.kit.Leaf.{Leaf}
use Rattle.leaf_tables.specs.Alignment.{role_number}
use Rattle.leaf_tables.specs.Kits.{IsKit, source_of}
use Rattle.leaf_tables.specs.Leaves.{IsLeaf, drawing_in, size_of}
use Rattle.leaf_tables.proofs.RoleLaws.{role_there, in_kit, role_below}
use Rattle.leaf_nets.specs.Leaves.{HaveRightPins, HasRightPins}
use Rattle.leaf_nets.specs.RightPins.{BindsForPin}
use Rattle.macro_layout.specs.Floorplan.{column_role}
use Rattle.floorplan.specs.LeafSides.{leaf_height}
use Rattle.floorplan.proofs.DemandLaws.{wire_there}
use Rattle.floorplan.proofs.SideLaws.{height_is}
use Rattle.joined_nets.specs.Joints.{JoinsWires}
use Rattle.joined_nets.proofs.WireNetLaws.{item_there, place_below}
use Rattle.kit_nets.proofs.DemandLaws.{metal_conducts}
use Rattle.kit_nets.proofs.TechLaws.{wires_joined}
use Rattle.bar_spaces.proofs.OverLaws.{joined_at}
use Rattle.high_cells.specs.High.{CellsAreHigh, KitsHaveHighCells}

-- the demands and the ports of a role's supply rails
record HasRails (role : Role) : Type 0 where
  pub low_at : ℕ
  pub high_at : ℕ
  pub low_name : List ℕ
  pub high_name : List ℕ
  pub low : slice_get (role_demands role) low_at ≡ Some (draw low_name M1 LowerRail)
  pub high : slice_get (role_demands role) high_at ≡ Some (draw high_name M1 UpperRail)
  pub low_port : ℕ
  pub high_port : ℕ
  pub low_named : slice_get (role_ports role) low_port ≡ Some low_name
  pub high_named : slice_get (role_ports role) high_port ≡ Some high_name
  pub differ : (low_port < high_port) ⊎ (high_port < low_port)

rails : (role : Role) → HasRails role
rails Bitcell = record { low_at = 4; high_at = 3; low_name = codes "gnd"; high_name = codes "vdd"; low = refl; high = refl; low_port = 4; high_port = 3; low_named = refl; high_named = refl; differ = inr (omega arith) }
rails Precharge = record { low_at = 4; high_at = 3; low_name = codes "gnd"; high_name = codes "vdd"; low = refl; high = refl; low_port = 4; high_port = 3; low_named = refl; high_named = refl; differ = inr (omega arith) }
rails Mux = record { low_at = 5; high_at = 6; low_name = codes "vdd"; high_name = codes "gnd"; low = refl; high = refl; low_port = 5; high_port = 6; low_named = refl; high_named = refl; differ = inl (omega arith) }
rails Tie = record { low_at = 4; high_at = 5; low_name = codes "vdd"; high_name = codes "gnd"; low = refl; high = refl; low_port = 2; high_port = 3; low_named = refl; high_named = refl; differ = inl (omega arith) }
rails Sense = record { low_at = 5; high_at = 4; low_name = codes "gnd"; high_name = codes "vdd"; low = refl; high = refl; low_port = 5; high_port = 4; low_named = refl; high_named = refl; differ = inr (omega arith) }
rails Write = record { low_at = 4; high_at = 5; low_name = codes "vdd"; high_name = codes "gnd"; low = refl; high = refl; low_port = 4; high_port = 5; low_named = refl; high_named = refl; differ = inl (omega arith) }
rails RowNand2 = record { low_at = 4; high_at = 3; low_name = codes "gnd"; high_name = codes "vdd"; low = refl; high = refl; low_port = 4; high_port = 3; low_named = refl; high_named = refl; differ = inr (omega arith) }
rails RowNand3 = record { low_at = 5; high_at = 4; low_name = codes "gnd"; high_name = codes "vdd"; low = refl; high = refl; low_port = 5; high_port = 4; low_named = refl; high_named = refl; differ = inr (omega arith) }
rails Driver = record { low_at = 4; high_at = 3; low_name = codes "gnd"; high_name = codes "vdd"; low = refl; high = refl; low_port = 4; high_port = 3; low_named = refl; high_named = refl; differ = inr (omega arith) }
rails Nand2 = record { low_at = 4; high_at = 3; low_name = codes "gnd"; high_name = codes "vdd"; low = refl; high = refl; low_port = 4; high_port = 3; low_named = refl; high_named = refl; differ = inr (omega arith) }
rails Nand3 = record { low_at = 5; high_at = 4; low_name = codes "gnd"; high_name = codes "vdd"; low = refl; high = refl; low_port = 5; high_port = 4; low_named = refl; high_named = refl; differ = inr (omega arith) }
rails Inv = record { low_at = 3; high_at = 2; low_name = codes "gnd"; high_name = codes "vdd"; low = refl; high = refl; low_port = 3; high_port = 2; low_named = refl; high_named = refl; differ = inr (omega arith) }
rails Dff = record { low_at = 4; high_at = 3; low_name = codes "gnd"; high_name = codes "vdd"; low = refl; high = refl; low_port = 4; high_port = 3; low_named = refl; high_named = refl; differ = inr (omega arith) }
rails Delay = record { low_at = 3; high_at = 2; low_name = codes "gnd"; high_name = codes "vdd"; low = refl; high = refl; low_port = 3; high_port = 2; low_named = refl; high_named = refl; differ = inr (omega arith) }

-- rails of a cell that is at most two of them high are joined
rails_joined : (low high : Rect) (w h : ℤ) (width : ℤ) → low.x1 ≡ pos 0 → low.x2 ≡ width → high.x1 ≡ pos 0 → high.x2 ≡ width → low.y1 ≡ pos 0 → low.y2 ≡ w → high.y1 ≡ h -ℤ w → high.y2 ≡ h → h ≤ℤ (w +ℤ w) → pos 0 ≤ℤ h → AreJoined low high
rails_joined low high w h width a b c d e f g i le some =
    let wide_low = low.wide in
    let tall_low = low.tall in
    let tall_high = high.tall in
    by_lt_z w h
    (λ lt. joined_at low high (pos 0) w (record { left = omega (arith, ints, a); right = omega (arith, ints, a, b, wide_low) }) (record { left = omega (arith, ints, c); right = omega (arith, ints, c, d, a, b, wide_low) })
    (omega (arith, ints, e, f, tall_low)) (omega (arith, ints, f)) (omega (arith, ints, g, le)) (omega (arith, ints, i, lt)))
    (λ ge. joined_at low high (pos 0) h (record { left = omega (arith, ints, a); right = omega (arith, ints, a, b, wide_low) }) (record { left = omega (arith, ints, c); right = omega (arith, ints, c, d, a, b, wide_low) })
    (omega (arith, ints, e, some)) (omega (arith, ints, f, ge)) (omega (arith, ints, g, i, tall_high)) (omega (arith, ints, i)))

-- the kit's connections join the metals of its wires
kit_joins : (kit : Kit) (is : IsKit kit) → JoinsWires kit.tech.connects is.wire
kit_joins kit is =
    let wire = wire_there kit is in
    wires_joined kit.tech is.wire wire.four wire.three (subst (λ (w : Option Wire). IfSome w (λ wire. first_bad_index kit.tech wire ≡ None)) is.wired is.tech.allowed)

-- the shape of a rail, which a label of its pin binds
record IsRailOf (cell : CellDrawing) (lists : FlatLists) (name : List ℕ) (fit : Fit) : Type 0 where
  pub shape : Shape
  pub on : shape.layer ≡ slice_index cell.wire.metals 0
  pub lies : FitsCell fit cell.wire.width cell.size shape.rect
  pub binds : BindsForPin lists name shape

module _ (kit : Kit) (is : IsKit kit) (pins : HaveRightPins kit) (role : Role) where
  r : HasRails role
  r = rails role

  leaf : (leaf : Leaf) × (slice_get kit.leaves (role_number role) ≡ Some leaf)
  leaf = item_there kit.leaves (role_number role) (role_below kit is (role_number role) role refl)

  of : IsLeaf (source_of kit is.wire) (Common role) leaf.0
  of = in_kit kit role leaf.0 is leaf.1

  abbrev cell : CellDrawing
  cell = drawing_in (source_of kit is.wire) (size_of leaf.0) of.lists

  right : HasRightPins kit role
  right = pins (role_number role) role (role_there role)

  same_text : (a b : List ℕ) → ◌≡◌ {A = Option (List ℕ)} (Some a) (Some b) → a ≡ b
  same_text a b e = cc

  same_lists : of.lists ≡ right.lists
  same_lists =
      let same_cell = same_text of.cell right.cell (sym of.sized.flat.plays ∙ right.flat.plays) in
      one_pair kit.tech.layers kit.lib.structs right.cell of.lists right.lists (subst (λ (c : List ℕ). AreFlatLists kit.tech.layers kit.lib.structs c of.lists) same_cell of.sized.flat.flat) right.flat.flat

  rail_of : (place : ℕ) (name : List ℕ) (fit : Fit) → slice_get (role_demands role) place ≡ Some (draw name M1 fit) → IsRailOf cell right.lists name fit
  rail_of place name fit there =
      let lt = place_below (role_demands role) place (draw name M1 fit) there in
      let pin = item_there leaf.0.pins place (subst (λ (n : ℕ). place < n) (sym of.pins.sized) lt) in
      let p = (of.pins.each place (draw name M1 fit) pin.0 there pin.1).is in
      let b = p.bound in
      record {
        shape = record { layer = pin.0.layer; rect = pin.0.rect };
        on = p.has.0;
        lies = p.has.1;
        binds = record {
          label = b.label;
          listed = subst (λ (x : FlatLists). Contains x.labels b.label) same_lists (contained_at of.lists.labels p.place b.label b.there);
          of = b.of;
          binds = subst (λ (x : FlatLists). Binds x.shapes (label_anchor b.label) (record { layer = pin.0.layer; rect = pin.0.rect })) same_lists b.binds;
        };
      }

  low : IsRailOf cell right.lists r.low_name LowerRail
  low = rail_of r.low_at r.low_name LowerRail r.low

  high : IsRailOf cell right.lists r.high_name UpperRail
  high = rail_of r.high_at r.high_name UpperRail r.high

  touch : AreJoined low.shape.rect high.shape.rect → Touch kit.tech.connects low.shape high.shape
  touch joined = inl (record { one_layer = low.on ∙ sym high.on; conductor = subst (IsConductor kit.tech.connects) (sym low.on) (metal_conducts kit.tech.connects is.wire (kit_joins kit is) M1); joined = joined })

  turned : AreJoined low.shape.rect high.shape.rect → AreJoined high.shape.rect low.shape.rect
  turned j = record { p = j.p; q = j.q; differ = j.differ; p_in_a = j.p_in_b; p_in_b = j.p_in_a; q_in_a = j.q_in_b; q_in_b = j.q_in_a }

  touch_back : AreJoined low.shape.rect high.shape.rect → Touch kit.tech.connects high.shape low.shape
  touch_back joined = inl (record { one_layer = high.on ∙ sym low.on; conductor = subst (IsConductor kit.tech.connects) (sym high.on) (metal_conducts kit.tech.connects is.wire (kit_joins kit is) M1); joined = turned joined })

  -- the rails are on two nets
  not_joined : AreJoined low.shape.rect high.shape.rect → ⊥
  not_joined joined = elim r.differ [
    | inl lt ↦ (right.right r.high_port r.high_name r.high_named).apart r.low_port r.low_name lt r.low_named low.shape high.shape low.binds high.binds (linked_next (Contains right.lists.shapes) (Touch kit.tech.connects) low.shape high.shape high.binds.binds.listed (touch joined))
    | inr lt ↦ (right.right r.low_port r.low_name r.low_named).apart r.high_port r.high_name lt r.high_named high.shape low.shape high.binds low.binds (linked_next (Contains right.lists.shapes) (Touch kit.tech.connects) high.shape low.shape low.binds.binds.listed (touch_back joined))
  ]

  pub high_cell : (is.wire.width +ℤ is.wire.width) <ℤ pos (leaf_height kit role)
  high_cell =
      let h = (height_is kit is role leaf.0 leaf.1).is in
      by_lt_z (is.wire.width +ℤ is.wire.width) (pos (leaf_height kit role)) (λ lt. lt)
      (λ ge. absurd (not_joined (rails_joined low.shape.rect high.shape.rect is.wire.width leaf.0.height leaf.0.width low.lies.0.0 low.lies.0.1 high.lies.0.0 high.lies.0.1 low.lies.1 low.lies.2 high.lies.1 high.lies.2
      (subst (λ (z : ℤ). z ≤ℤ (is.wire.width +ℤ is.wire.width)) (sym h) ge) (subst (λ (z : ℤ). pos 0 ≤ℤ z) (sym h) (above (leaf_height kit role))))))
    where
      above : (n : ℕ) → pos 0 ≤ℤ pos n
      above n = omega (arith, ints)

pub cells_are_high : CellsAreHigh
cells_are_high kit is pins role = high_cell kit is pins role

pub kits_have_high_cells : KitsHaveHighCells
kits_have_high_cells kit plan is pins = record {
  logic = high_cell kit is pins Inv;
  write = λ written. high_cell kit is pins Write;
  sense = high_cell kit is pins Sense;
  column = high_cell kit is pins (column_role plan.col_bits);
  bit = high_cell kit is pins Bitcell;
  precharge = high_cell kit is pins Precharge;
}
