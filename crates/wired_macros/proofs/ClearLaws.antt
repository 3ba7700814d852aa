-- Leaf instances draw right of the macro's left edge and left of its supplies' trunks, on layers of wires.
use Rattle.std.proofs.Common.{◌≡◌, inl, inr, ℕ, ◌*◌, ◌<◌, ℤ, pos, ◌≤ℤ◌, ◌+ℤ◌, ◌*ℤ◌, ap, subst, arith}
use Rattle.std.specs.Int.{int_max}
use Rattle.std.proofs.lemmas.Int.{ints, clamps}
use Rattle.or_geom.specs.declared.shape.Shape.{Shape}
use Rattle.or_geom.specs.declared.place.Place.{Place}
use Rattle.cell_roles.specs.declared.role.Role.TheVariants.{Sense, Write}
use Rattle.tech_rules.specs.declared.tech.Tech.{Tech}
use Rattle.wire_drawing.specs.Drawing.{pitch}
use Rattle.cell_hierarchy.specs.Plain.{FlatLists}
use Rattle.sram_netlist.specs.Organization.{banks_of, words_per_row}
use Rattle.sram_netlist.specs.Instances.{LeafInstance, BitAt, NandAt, DriverAt, PrechargeAt, WriteAt, SenseAt, MuxAt, TieAt, LogicAt}
use Rattle.sram_netlist.specs.InstanceList.{logic_cells}
use Rattle.sram_netlist.specs.Membership.{HasLeafInstance}
use Rattle.sram_rows.proofs.PlainNames.{inputs_within}
use Rattle.macro_layout.specs.Places.{IsPlaceOf, bank_x, columns_x, column_x, drive_width, total_width}
use Rattle.macro_layout.specs.Wires.{trunk_x}
use Rattle.good_nets.specs.Parts.{IsShapeOf}
use Rattle.good_places.specs.Leaves.{zone_of}
use Rattle.leaf_shapes.specs.Outline.{IsWireLayer}
use Rattle.good_places.proofs.LaidLaws.{in_zone}
use Rattle.good_places.proofs.NumberLaws.{banks_before, times_low}
use Rattle.good_wires.proofs.ClearLaws.{zone_kind}
use Rattle.good_wires.proofs.LevelLaws.{sides}
use Rattle.kit_nets.specs.StatedParts.{Source, Standing, stated_parts}
use Rattle.supply_nets.specs.LaidMacro.{IsLaidMacro}
use Rattle.supply_nets.proofs.SpanLaws.{column_span, slice_span, logic_span}
use Rattle.wired_macros.specs.WiredMacro.{IsWiredMacro}
use Rattle.wired_macros.specs.Texts.{AreLeavesInside}

module _ (tech : Tech) (s : Source) (flat : FlatLists) (d : IsWiredMacro tech s flat) (inside : AreLeavesInside s) where
  abbrev k : IsLaidMacro tech s flat
  k = d.laid

  from_row : pitch s.wire ≤ℤ s.floorplan.row_x
  from_row = (sides s.plan s.kit s.wire s.tracks s.floorplan k.sizes k.floor).row

  over : (a b c : ℤ) → a ≤ℤ b → b ≤ℤ c → a ≤ℤ c
  over a b c one two = omega (arith, ints, one, two)

  from_columns : pitch s.wire ≤ℤ columns_x s.plan s.kit s.floorplan
  from_columns = by (pitch s.wire) s.floorplan.row_x (drive_width s.plan s.kit) from_row where
    by : (p row : ℤ) (d : ℕ) → p ≤ℤ row → p ≤ℤ (row +ℤ pos d)
    by p row d le = omega (arith, ints, le)

  in_bank : (b : ℕ) → pitch s.wire ≤ℤ bank_x s.floorplan b s.floorplan.row_x
  in_bank b = by (pitch s.wire) s.floorplan.row_x (pos b *ℤ s.floorplan.bank_width) from_row (low b) where
    low : (b : ℕ) → pos 0 ≤ℤ (pos b *ℤ s.floorplan.bank_width)
    low b = times_low b s.floorplan.bank_width (sides s.plan s.kit s.wire s.tracks s.floorplan k.sizes k.floor).wide

    by : (p row d : ℤ) → p ≤ℤ row → pos 0 ≤ℤ d → p ≤ℤ (row +ℤ d)
    by p row d le some = omega (arith, ints, le, some)

  zone_left : (leaf : LeafInstance) (place : Place) → HasLeafInstance s.plan leaf → IsPlaceOf s.plan s.kit s.floorplan leaf place → pitch s.wire ≤ℤ (zone_of s.plan s.kit s.floorplan leaf place).left
  zone_left (BitAt b r c) place has at = over (pitch s.wire) (columns_x s.plan s.kit s.floorplan) (bank_x s.floorplan b (column_x s.plan s.kit s.floorplan c)) from_columns (column_span s k.sizes k.floor b c has.0 has.1.1).left
  zone_left (NandAt b r) place has at = in_bank b
  zone_left (DriverAt b r) place has at = in_bank b
  zone_left (PrechargeAt b c) place has at = over (pitch s.wire) (columns_x s.plan s.kit s.floorplan) (bank_x s.floorplan b (column_x s.plan s.kit s.floorplan c)) from_columns (column_span s k.sizes k.floor b c has.0 has.1).left
  zone_left (WriteAt b i) place has at = over (pitch s.wire) (columns_x s.plan s.kit s.floorplan) (bank_x s.floorplan b (column_x s.plan s.kit s.floorplan (i * words_per_row s.plan))) from_columns (slice_span s k.sizes k.floor b i (s.kit.width Write) has.0 (inputs_within s.plan i has.1) k.fits.write).left
  zone_left (SenseAt b i) place has at = over (pitch s.wire) (columns_x s.plan s.kit s.floorplan) (bank_x s.floorplan b (column_x s.plan s.kit s.floorplan (i * words_per_row s.plan))) from_columns (slice_span s k.sizes k.floor b i (s.kit.width Sense) has.0 has.1 k.fits.sense).left
  zone_left (MuxAt b c) place has at = over (pitch s.wire) (columns_x s.plan s.kit s.floorplan) (bank_x s.floorplan b (column_x s.plan s.kit s.floorplan c)) from_columns (column_span s k.sizes k.floor b c has.0 has.1.0).left
  zone_left (TieAt b c) place has at = over (pitch s.wire) (columns_x s.plan s.kit s.floorplan) (bank_x s.floorplan b (column_x s.plan s.kit s.floorplan c)) from_columns (column_span s k.sizes k.floor b c has.0 has.1.0).left
  zone_left (LogicAt cell) place has at =
      let row = logic_span s k.sizes k.floor cell place at in
      let x = ap (λ (p : Place). p.at.x) row.at in
      by (pitch s.wire) s.floorplan.logic_x row.x place.at.x k.floor.logic_x row.span.left x
    where
      by : (p lx x at : ℤ) → lx ≡ p → lx ≤ℤ x → at ≡ x → p ≤ℤ at
      by p lx x at is le e = omega (arith, ints, is, le, e)

  zone_right : (leaf : LeafInstance) (place : Place) → HasLeafInstance s.plan leaf → IsPlaceOf s.plan s.kit s.floorplan leaf place → ((zone_of s.plan s.kit s.floorplan leaf place).right +ℤ s.wire.space) ≤ℤ trunk_x s.plan s.kit s.wire s.floorplan
  zone_right leaf place has at = elim (zone_kind s.plan s.kit s.wire s.tracks s.floorplan d.memory leaf place has at) [
    | inl bank ↦ of_bank bank.0 bank.1.below bank.1.right
    | inr (inl bank) ↦ of_bank bank.0 bank.1.below bank.1.right
    | inr (inr logic) ↦ logic.2
  ] where
    of_bank : (b : ℕ) → b < banks_of s.plan → (zone_of s.plan s.kit s.floorplan leaf place).right ≤ℤ bank_x s.floorplan b s.floorplan.bank_width → ((zone_of s.plan s.kit s.floorplan leaf place).right +ℤ s.wire.space) ≤ℤ trunk_x s.plan s.kit s.wire s.floorplan
    of_bank b lt le =
        by (zone_of s.plan s.kit s.floorplan leaf place).right s.floorplan.bank_width (pos b *ℤ s.floorplan.bank_width) (pos (banks_of s.plan) *ℤ s.floorplan.bank_width) (s.floorplan.logic_x +ℤ pos (total_width s.plan s.kit (logic_cells s.plan))) s.wire.space le
        (banks_before b (banks_of s.plan) s.floorplan.bank_width lt (sides s.plan s.kit s.wire s.tracks s.floorplan k.sizes k.floor).wide)
      where
        by : (z bank d all logic space : ℤ) → z ≤ℤ (bank +ℤ d) → (d +ℤ bank) ≤ℤ all → (z +ℤ space) ≤ℤ (int_max all logic +ℤ space)
        by z bank d all logic space a b = omega (arith, ints, clamps, a, b)

  pub record IsClear (u : Shape) : Type 0 where
    pub left : pitch s.wire ≤ℤ u.rect.x1
    pub right : (u.rect.x2 +ℤ s.wire.space) ≤ℤ trunk_x s.plan s.kit s.wire s.floorplan

  -- A shape of a leaf instance.
  pub leaf_clear : (i : Standing s) (inner u : Shape) → IsShapeOf tech.connects (stated_parts s) i inner u → IsWireLayer s.wire u.layer → IsClear u
  leaf_clear i inner u is on =
      let near = in_zone s.plan s.kit s.wire s.floorplan (pos 0) d.memory.laid i.leaf i.place inner u i.has i.stands (inside i.leaf inner i.has is.listed (subst (IsWireLayer s.wire) is.moved.layer on)) is.moved in
      let zone = zone_of s.plan s.kit s.floorplan i.leaf i.place in
      record { left = begins (pitch s.wire) zone.left u.rect.x1 (zone_left i.leaf i.place i.has i.stands) near.left; right = ends u.rect.x2 zone.right s.wire.space (trunk_x s.plan s.kit s.wire s.floorplan) (zone_right i.leaf i.place i.has i.stands) near.right }
    where
      begins : (p z x : ℤ) → p ≤ℤ z → z ≤ℤ (x +ℤ pos 0) → p ≤ℤ x
      begins p z x a b = omega (arith, ints, a, b)

      ends : (x z space t : ℤ) → (z +ℤ space) ≤ℤ t → x ≤ℤ (z +ℤ pos 0) → (x +ℤ space) ≤ℤ t
      ends x z space t a b = omega (arith, ints, a, b)
