-- The flat set of a macro is its layout, and so are the flat lists of a finished macro.
use Rattle.std.proofs.Common.{◌≡◌, inl, inr, ◌↔◌, ℕ, ◌<◌, ℤ, pos, ◌+ℤ◌, ◌*ℤ◌, List, [], ◌++◌, length, Some, refl, sym, ap, subst, ◌∙◌, arith}
use Rattle.std.proofs.lemmas.Int.{ints, clamps}
use Rattle.std.specs.Prelude.{Contains}
use Rattle.std.specs.List.{AllByRecursion}
use Rattle.or_geom.specs.declared.shape.Rect.{Rect}
use Rattle.or_geom.specs.declared.shape.Shape.{Shape}
use Rattle.or_geom.specs.Place.{placed, IsImage}
use Rattle.or_geom.proofs.ListLaws.{contains_none}
use Rattle.gds_library.specs.declared.library.Structure.{Structure}
use Rattle.tech_rules.specs.declared.tech.Layer.{Layer}
use Rattle.element_drawing.specs.PlainLabel.{PlainLabel}
use Rattle.element_drawing.specs.Paths.{IsRectOf}
use Rattle.cell_hierarchy.specs.FlatSet.{IsFlatShape, IsFlatLabel}
use Rattle.cell_builder.specs.declared.cell.PlacedLabel.{PlacedLabel}
use Rattle.cell_builder.specs.declared.cell.DrawnCell.{DrawnCell}
use Rattle.cell_builder.specs.Flat.{IsShapeTaken, IsLabelTaken, IsTakenOver, IsDrawn, IsOwnWire, IsOwnLabel, HasLayers}
use Rattle.cell_builder.specs.Libraries.{IsComplete}
use Rattle.cell_builder.proofs.FlatLaws.{cells_are_flat, labels_are_flat}
use Rattle.cell_builder.proofs.ComposeLaws.{at_both, both_at, label_at_both, both_label_at, at_as, label_at_as}
use Rattle.cell_builder.proofs.LibraryLaws.{leaves_are_kept, finished_cells_are_drawn}
use Rattle.sram_netlist.specs.Organization.{Organization}
use Rattle.sram_netlist.specs.Instances.{LeafInstance}
use Rattle.sram_netlist.specs.Membership.{HasLeafInstance}
use Rattle.macro_layout.specs.LayoutKit.{LayoutKit}
use Rattle.macro_layout.specs.Places.{upright, leaf_cell, leaf_item}
use Rattle.macro_layout.specs.Cells.{row_cell, array_cell, pre_cell, data_cell, bank_cell, logic_row_cell, macro_cell}
use Rattle.macro_layout.specs.Layout.{Drawing, IsWireOfBanks, InLayout, IsLayoutLabel, DrawsMacro, MacrosAreFlat, IsMacroOf, FlatListsAreLayout}
use Rattle.macro_layout.proofs.TakenLaws.{shape_opens, label_opens}
use Rattle.macro_layout.proofs.Parts.{each_row}
use Rattle.macro_layout.proofs.MacroLaws.{AreParts, IsOfOwn, leaves_of_macro, macro_of_own, macro_of_leaf}

-- wires of banks

image_box : (u v : ℤ) (r s : Rect) → IsImage (placed (upright u v)) r s → IsRectOf (r.x1 +ℤ u) (r.y1 +ℤ v) (r.x2 +ℤ u) (r.y2 +ℤ v) s
image_box u v r s image =
    let wide = r.wide in
    let tall = r.tall in
    record {
      x1 = image.x1 ∙ omega (arith, ints, clamps, wide);
      y1 = image.y1 ∙ omega (arith, ints, clamps, tall);
      x2 = image.x2 ∙ omega (arith, ints, clamps, wide);
      y2 = image.y2 ∙ omega (arith, ints, clamps, tall);
    }

box_image : (u v : ℤ) (r s : Rect) → IsRectOf (r.x1 +ℤ u) (r.y1 +ℤ v) (r.x2 +ℤ u) (r.y2 +ℤ v) s → IsImage (placed (upright u v)) r s
box_image u v r s box =
    let wide = r.wide in
    let tall = r.tall in
    record {
      x1 = box.x1 ∙ omega (arith, ints, clamps, wide);
      y1 = box.y1 ∙ omega (arith, ints, clamps, tall);
      x2 = box.x2 ∙ omega (arith, ints, clamps, wide);
      y2 = box.y2 ∙ omega (arith, ints, clamps, tall);
    }

wire_of_banks : (layers : List Layer) (plan : Organization) (n : List ℕ) (d : Drawing) (s : Shape) → IsOfOwn IsShapeTaken (IsOwnWire layers d.bank_wires) plan d.floorplan n s → IsWireOfBanks layers plan d s
wire_of_banks layers plan n d s o =
    let w = o.taken.has in
    record {
      bank = o.bank;
      below = o.below;
      wire = record {
        wire = w.wire;
        among = w.among;
        layer = w.layer;
        on = w.on;
        first = w.first ∙ ap (λ (k : ℕ). Some k) (sym o.taken.moved.layer);
        box = image_box (pos o.bank *ℤ d.floorplan.bank_width) d.floorplan.write_y w.wire.rect s.rect
            (subst (λ (r : Rect). IsImage (placed (upright (pos o.bank *ℤ d.floorplan.bank_width) d.floorplan.write_y)) r s.rect) w.rect o.taken.moved.image);
      };
    }

own_of_banks : (layers : List Layer) (plan : Organization) (n : List ℕ) (d : Drawing) (s : Shape) → IsWireOfBanks layers plan d s → IsOfOwn IsShapeTaken (IsOwnWire layers d.bank_wires) plan d.floorplan n s
own_of_banks layers plan n d s b =
    let w = b.wire in
    record {
      bank = b.bank;
      below = b.below;
      taken = record {
        inner = record { layer = s.layer; rect = w.wire.rect };
        has = record { wire = w.wire; among = w.among; layer = w.layer; on = w.on; first = w.first; rect = refl };
        moved = record { layer = refl; image = box_image (pos b.bank *ℤ d.floorplan.bank_width) d.floorplan.write_y w.wire.rect s.rect w.box };
      };
    }

-- cells without wires and labels

no_wires : {layers : List Layer} {s : Shape} (w : IsOwnWire layers [] s) → ⊥
no_wires w = contains_none w.wire w.among

no_labels : {layers : List Layer} {label : PlainLabel} (o : IsOwnLabel layers [] label) → ⊥
no_labels o = contains_none o.text o.among

bare_layers : (layers : List Layer) (cell : DrawnCell) → cell.wires ≡ [] → cell.labels ≡ [] → HasLayers layers cell
bare_layers layers cell no_wire no_label = record {
  wires = subst (λ (ws : List Shape). AllByRecursion (λ (w : Shape). w.layer < length layers) ws) (sym no_wire) tt;
  labels = subst (λ (ls : List PlacedLabel). AllByRecursion (λ (l : PlacedLabel). l.layer < length layers) ls) (sym no_label) tt;
}

bare_shapes : (layers : List Layer) (structs : List Structure) (cell : DrawnCell) → IsDrawn layers structs cell → cell.wires ≡ [] → cell.labels ≡ []
    → (s : Shape) → IsFlatShape layers structs cell.name s ↔ IsTakenOver IsShapeTaken (IsFlatShape layers structs) cell.instances s
bare_shapes layers structs cell is no_wire no_label s =
    let both = cells_are_flat layers structs cell is (bare_layers layers cell no_wire no_label) s in
    (λ flat. elim (both.0 flat) [ inl w ↦ absurd (no_wires (subst (λ (ws : List Shape). IsOwnWire layers ws s) no_wire w)) | inr t ↦ t ], λ t. both.1 (inr t))

bare_labels : (layers : List Layer) (structs : List Structure) (cell : DrawnCell) → IsDrawn layers structs cell → cell.wires ≡ [] → cell.labels ≡ []
    → (label : PlainLabel) → IsFlatLabel layers structs cell.name label ↔ IsTakenOver IsLabelTaken (IsFlatLabel layers structs) cell.instances label
bare_labels layers structs cell is no_wire no_label label =
    let both = labels_are_flat layers structs cell is (bare_layers layers cell no_wire no_label) label in
    (λ flat. elim (both.0 flat) [ inl o ↦ absurd (no_labels (subst (λ (ls : List PlacedLabel). IsOwnLabel layers ls label) no_label o)) | inr t ↦ t ], λ t. both.1 (inr t))

-- the macro

shape_parts : (layers : List Layer) (structs : List Structure) (plan : Organization) (kit : LayoutKit) (n : List ℕ) (d : Drawing) → DrawsMacro layers structs plan kit n d
    → AreParts IsShapeTaken (IsFlatShape layers structs) (IsOwnWire layers d.bank_wires) plan kit d.bits d.floorplan n d.bank_wires
shape_parts layers structs plan kit n d draws = record {
  buildable = draws.buildable;
  bare = record {
    row = λ r lt. bare_shapes layers structs (row_cell plan kit d.bits n r) (each_row (IsDrawn layers structs) plan kit d.bits n draws.row r lt) refl refl;
    array = bare_shapes layers structs (array_cell plan kit d.bits n) draws.array refl refl;
    pre = bare_shapes layers structs (pre_cell plan kit n) draws.pre refl refl;
    data_ = bare_shapes layers structs (data_cell plan kit d.floorplan n) draws.data_ refl refl;
  };
  logic = bare_shapes layers structs (logic_row_cell plan kit n) draws.logic refl refl;
  bank = cells_are_flat layers structs (bank_cell plan kit d.floorplan n d.bank_wires) draws.bank draws.bank_on;
}

label_parts : (layers : List Layer) (structs : List Structure) (plan : Organization) (kit : LayoutKit) (n : List ℕ) (d : Drawing) → DrawsMacro layers structs plan kit n d
    → AreParts IsLabelTaken (IsFlatLabel layers structs) (IsOwnLabel layers []) plan kit d.bits d.floorplan n d.bank_wires
label_parts layers structs plan kit n d draws = record {
  buildable = draws.buildable;
  bare = record {
    row = λ r lt. bare_labels layers structs (row_cell plan kit d.bits n r) (each_row (IsDrawn layers structs) plan kit d.bits n draws.row r lt) refl refl;
    array = bare_labels layers structs (array_cell plan kit d.bits n) draws.array refl refl;
    pre = bare_labels layers structs (pre_cell plan kit n) draws.pre refl refl;
    data_ = bare_labels layers structs (data_cell plan kit d.floorplan n) draws.data_ refl refl;
  };
  logic = bare_labels layers structs (logic_row_cell plan kit n) draws.logic refl refl;
  bank = labels_are_flat layers structs (bank_cell plan kit d.floorplan n d.bank_wires) draws.bank draws.bank_on;
}

pub macros_are_flat : MacrosAreFlat
macros_are_flat layers structs plan kit n d draws = record { shapes = shapes; labels = labels }
  where
    shapes : (s : Shape) → IsFlatShape layers structs n s ↔ InLayout layers (IsFlatShape layers structs) plan kit d s
    shapes s =
        let Flat = IsFlatShape layers structs in
        let Own = IsOwnWire layers d.bank_wires in
        let parts = shape_parts layers structs plan kit n d draws in
        let flat = cells_are_flat layers structs (macro_cell plan d.floorplan n d.wires d.labels) draws.macro draws.macro_on s in (
          λ f. elim (flat.0 f) [
            | inl w ↦ inl w
            | inr t ↦ elim (leaves_of_macro IsShapeTaken Flat Own plan kit d.bits d.floorplan n d.bank_wires d.wires d.labels shape_opens at_both parts s t) [
              | inl own ↦ inr (inl (wire_of_banks layers plan n d s own))
              | inr l ↦ inr (inr l)
            ]
          ],
          λ in_layout. flat.1 (elim in_layout [
            | inl w ↦ inl w
            | inr (inl w) ↦ inr (macro_of_own IsShapeTaken Flat Own plan kit d.bits d.floorplan n d.bank_wires d.wires d.labels shape_opens parts s (own_of_banks layers plan n d s w))
            | inr (inr l) ↦ inr (macro_of_leaf IsShapeTaken Flat Own plan kit d.bits d.floorplan n d.bank_wires d.wires d.labels shape_opens both_at parts s l)
          ]),
        )

    labels : (label : PlainLabel) → IsFlatLabel layers structs n label ↔ IsLayoutLabel layers (IsFlatLabel layers structs) plan kit d label
    labels label =
        let Flat = IsFlatLabel layers structs in
        let Own = IsOwnLabel layers [] in
        let parts = label_parts layers structs plan kit n d draws in
        let flat = labels_are_flat layers structs (macro_cell plan d.floorplan n d.wires d.labels) draws.macro draws.macro_on label in (
          λ f. elim (flat.0 f) [
            | inl own ↦ inl own
            | inr t ↦ elim (leaves_of_macro IsLabelTaken Flat Own plan kit d.bits d.floorplan n d.bank_wires d.wires d.labels label_opens label_at_both parts label t) [
              | inl own ↦ absurd (no_labels own.taken.has)
              | inr l ↦ inr l
            ]
          ],
          λ in_layout. flat.1 (elim in_layout [
            | inl own ↦ inl own
            | inr l ↦ inr (macro_of_leaf IsLabelTaken Flat Own plan kit d.bits d.floorplan n d.bank_wires d.wires d.labels label_opens both_label_at parts label l)
          ]),
        )

-- the finished macro

draws_macro : (layers : List Layer) (kit_structs : List Structure) (cells : List DrawnCell) (structs : List Structure) (plan : Organization) (kit : LayoutKit) (n : List ℕ) (d : Drawing) → IsMacroOf layers kit_structs cells structs plan kit n d → DrawsMacro layers structs plan kit n d
draws_macro layers kit_structs cells structs plan kit n d m =
    let drawn : (cell : DrawnCell) → Contains cells cell → IsDrawn layers structs cell = finished_cells_are_drawn layers kit_structs cells structs m.made m.differ in
    record {
      buildable = m.buildable;
      row = λ r lt. drawn _ (m.has.row r lt);
      array = drawn _ m.has.array;
      pre = drawn _ m.has.pre;
      data_ = drawn _ m.has.data_;
      bank = drawn _ m.has.bank;
      bank_on = m.bank_on;
      logic = drawn _ m.has.logic;
      macro = drawn _ m.has.macro;
      macro_on = m.macro_on;
    }

-- what a leaf's cell is, flat, in the library and in the kit
record IsAlike (layers : List Layer) (structs kit_structs : List Structure) (cell : List ℕ) : Type 0 where
  shapes : (s : Shape) → IsFlatShape layers structs cell s ↔ IsFlatShape layers kit_structs cell s
  labels : (label : PlainLabel) → IsFlatLabel layers structs cell label ↔ IsFlatLabel layers kit_structs cell label

alike : (layers : List Layer) (structs kit_structs more : List Structure) (cell : List ℕ) → structs ≡ kit_structs ++ more → IsComplete kit_structs cell → IsAlike layers structs kit_structs cell
alike layers structs kit_structs more cell parts whole =
    let kept = leaves_are_kept layers kit_structs more cell whole in
    subst (λ (ss : List Structure). IsAlike layers ss kit_structs cell) (sym parts) (record { shapes = kept.shapes; labels = kept.labels })

shapes_as : (layers : List Layer) (structs others : List Structure) (plan : Organization) (kit : LayoutKit) (d : Drawing) (s : Shape)
    → ((leaf : LeafInstance) → HasLeafInstance plan leaf → (t : Shape) → IsFlatShape layers structs (leaf_cell plan kit d.bits leaf) t → IsFlatShape layers others (leaf_cell plan kit d.bits leaf) t)
    → InLayout layers (IsFlatShape layers structs) plan kit d s → InLayout layers (IsFlatShape layers others) plan kit d s
shapes_as layers structs others plan kit d s f (inl w) = inl w
shapes_as layers structs others plan kit d s f (inr (inl w)) = inr (inl w)
shapes_as layers structs others plan kit d s f (inr (inr l)) = inr (inr (record {
  leaf = l.leaf;
  has = l.has;
  place = l.place;
  stands = l.stands;
  taken = at_as (IsFlatShape layers structs (leaf_cell plan kit d.bits l.leaf)) (IsFlatShape layers others (leaf_cell plan kit d.bits l.leaf)) (leaf_item plan kit d.bits l.leaf l.place) s (f l.leaf l.has) l.taken;
}))

labels_as : (layers : List Layer) (structs others : List Structure) (plan : Organization) (kit : LayoutKit) (d : Drawing) (label : PlainLabel)
    → ((leaf : LeafInstance) → HasLeafInstance plan leaf → (t : PlainLabel) → IsFlatLabel layers structs (leaf_cell plan kit d.bits leaf) t → IsFlatLabel layers others (leaf_cell plan kit d.bits leaf) t)
    → IsLayoutLabel layers (IsFlatLabel layers structs) plan kit d label → IsLayoutLabel layers (IsFlatLabel layers others) plan kit d label
labels_as layers structs others plan kit d label f (inl own) = inl own
labels_as layers structs others plan kit d label f (inr l) = inr (record {
  leaf = l.leaf;
  has = l.has;
  place = l.place;
  stands = l.stands;
  taken = label_at_as (IsFlatLabel layers structs (leaf_cell plan kit d.bits l.leaf)) (IsFlatLabel layers others (leaf_cell plan kit d.bits l.leaf)) (leaf_item plan kit d.bits l.leaf l.place) label (f l.leaf l.has) l.taken;
})

pub flat_lists_are_layout : FlatListsAreLayout
flat_lists_are_layout layers kit_structs cells structs plan kit n d m lists are =
    let flat = macros_are_flat layers structs plan kit n d (draws_macro layers kit_structs cells structs plan kit n d m) in
    let same : (leaf : LeafInstance) → HasLeafInstance plan leaf → IsAlike layers structs kit_structs (leaf_cell plan kit d.bits leaf) = λ leaf has. alike layers structs kit_structs m.made.made (leaf_cell plan kit d.bits leaf) m.made.parts (m.complete leaf has) in
    record {
      shapes = λ s. (
        λ c. shapes_as layers structs kit_structs plan kit d s (λ leaf has t h. ((same leaf has).shapes t).0 h) ((flat.shapes s).0 ((are.shapes_exact s).0 c)),
        λ l. (are.shapes_exact s).1 ((flat.shapes s).1 (shapes_as layers kit_structs structs plan kit d s (λ leaf has t h. ((same leaf has).shapes t).1 h) l)),
      );
      labels = λ label. (
        λ c. labels_as layers structs kit_structs plan kit d label (λ leaf has t h. ((same leaf has).labels t).0 h) ((flat.labels label).0 ((are.labels_exact label).0 c)),
        λ l. (are.labels_exact label).1 ((flat.labels label).1 (labels_as layers kit_structs structs plan kit d label (λ leaf has t h. ((same leaf has).labels t).1 h) l)),
      );
    }
