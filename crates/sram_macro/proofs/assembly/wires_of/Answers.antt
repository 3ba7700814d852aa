-- By the laws of bounds.
use Rattle.std.proofs.Common.{◌<◌, Contains, refl, sym, subst, ◌∙◌, arith, length}
use Rattle.std.specs.List.{AllByRecursion}
use Rattle.std.proofs.lemmas.Option.{same_Some}
use Rattle.tech_rules.specs.declared.tech.Wire.{Wire}
use Rattle.cell_builder.specs.declared.cell.PlacedLabel.{PlacedLabel}
use Rattle.cell_builder.specs.Writable.{IsWritableText}
use Rattle.sram_plan.specs.PlanNumbers.{organization}
use Rattle.floorplan.specs.LayoutOfKit.{layout_kit}
use Rattle.floorplan.specs.FloorplanNumbers.{floorplan_of}
use Rattle.or_geom.specs.declared.shape.Shape.{Shape}
use Rattle.macro_layout.specs.Floorplan.{IsFloorplan}
use Rattle.bank_layout.specs.Near.{IsDrawableWire}
use Rattle.sram_macro.specs.Extents.{AreExtents}
use Rattle.sram_macro.specs.Layout.{IsMainRouted}
use Rattle.sram_macro.proofs.KitFacts.{small_kit}
use Rattle.sram_macro.proofs.LabelFacts.{labels_are_writable, labels_have_layers}
use Rattle.sram_macro.proofs.LayoutLaws.{seven_layers}
use Rattle.sram_macro.proofs.AssemblyLaws.{bank_on_layers, bank_writable, main_shapes_near, top_near}
use Rattle.sram_macro.proofs.assembly.wires_of.Goals as goal

pub returns-clause-are : goal.returns-clause-are
returns-clause-are c =
    let plan = organization c.args.plan.now in
    let kit = layout_kit c.args.kit.now in
    let laid = c.requires.layout.is in
    let same = same_Some laid.wire c.args.wire.now (sym laid.wired ∙ c.requires.wired) in
    let ends = subst (λ (w : Wire). AreExtents plan kit w (floorplan_of c.args.layout.floorplan) c.args.layout.ends) same laid.ends in
    record {
      bank = refl;
      top_rises = c.in_order-top.ensures.rises;
      top = λ s. (let same = c.in_order-top.ensures.same s in let drawn = c.in_ok-drawn.ensures kit laid.sides_of ends s in (λ h. drawn.0 (same.0 h), λ h. same.1 (drawn.1 h)));
      labels = c.in_ok-labels.ensures;
    }

pub returns-clause-layers : goal.returns-clause-layers
returns-clause-layers c =
    let plan = organization c.args.plan.now in
    let kit = layout_kit c.args.kit.now in
    let layers = c.args.kit.now.tech.layers in
    let wire = c.args.wire.now in
    let laid = c.requires.layout.is in
    let same = same_Some laid.wire wire (sym laid.wired ∙ c.requires.wired) in
    let bank = subst (λ (w : Wire). (s : Shape) → Contains c.args.layout.bank.items s → IsDrawableWire w s) same laid.bank in
    let fl = floorplan_of c.args.layout.floorplan in
    let main = subst (λ (w : Wire). IsMainRouted plan kit w c.args.layout.main) same laid.main in
    let stands = subst (λ (w : Wire). IsFloorplan plan kit w (record { main = c.args.layout.main.tracks; column = c.requires.layout.column.tracks }) fl) same laid.stands in
    let ends = subst (λ (w : Wire). AreExtents plan kit w fl c.args.layout.ends) same laid.ends in
    let small = small_kit c.args.kit.now c.requires.kit in
    let few = c.requires.layout.of.few in
    let near = c.floorplans_are_near.ensures plan kit wire (record { main = c.args.layout.main.tracks; column = c.requires.layout.column.tracks }) fl c.requires.plan.plan small (seven_layers layers wire c.requires.wire) (record { main = main.few; column = omega (arith, few) }) stands in
    let tops = top_near c.near_shapes_are_listed.ensures.greater c.supply_wires_are_near.ensures.supplies c.near_shapes_are_listed.ensures.listed layers plan kit wire fl c.in_order-top.result.items c.args.layout.main.shapes c.requires.wire c.requires.plan.plan small near
    (main_shapes_near c.routed_shapes_are_near.ensures layers plan kit wire c.args.layout.main c.requires.wire main) (λ s there. (c.in_ok-drawn.ensures kit laid.sides_of ends s).0 ((c.in_order-top.ensures.same s).0 there)) in
    record {
      bank = bank_on_layers layers wire c.args.layout.bank.items c.requires.wire bank;
      top = c.near_shapes_are_listed.ensures.layers layers wire 1107296256 c.in_order-top.result.items c.requires.wire tops;
      labels = subst (AllByRecursion (λ (l : PlacedLabel). l.layer < length layers)) (sym c.in_ok-labels.ensures) (labels_have_layers layers wire c.args.layout.ends c.args.signals.now c.requires.wire);
    }

pub returns-clause-writable : goal.returns-clause-writable
returns-clause-writable c bits texts =
    let plan = organization c.args.plan.now in
    let kit = layout_kit c.args.kit.now in
    let layers = c.args.kit.now.tech.layers in
    let wire = c.args.wire.now in
    let laid = c.requires.layout.is in
    let same = same_Some laid.wire wire (sym laid.wired ∙ c.requires.wired) in
    let bank = subst (λ (w : Wire). (s : Shape) → Contains c.args.layout.bank.items s → IsDrawableWire w s) same laid.bank in
    let fl = floorplan_of c.args.layout.floorplan in
    let main = subst (λ (w : Wire). IsMainRouted plan kit w c.args.layout.main) same laid.main in
    let stands = subst (λ (w : Wire). IsFloorplan plan kit w (record { main = c.args.layout.main.tracks; column = c.requires.layout.column.tracks }) fl) same laid.stands in
    let ends = subst (λ (w : Wire). AreExtents plan kit w fl c.args.layout.ends) same laid.ends in
    let small = small_kit c.args.kit.now c.requires.kit in
    let few = c.requires.layout.of.few in
    let near = c.floorplans_are_near.ensures plan kit wire (record { main = c.args.layout.main.tracks; column = c.requires.layout.column.tracks }) fl c.requires.plan.plan small (seven_layers layers wire c.requires.wire) (record { main = main.few; column = omega (arith, few) }) stands in
    let tops = top_near c.near_shapes_are_listed.ensures.greater c.supply_wires_are_near.ensures.supplies c.near_shapes_are_listed.ensures.listed layers plan kit wire fl c.in_order-top.result.items c.args.layout.main.shapes c.requires.wire c.requires.plan.plan small near
    (main_shapes_near c.routed_shapes_are_near.ensures layers plan kit wire c.args.layout.main c.requires.wire main) (λ s there. (c.in_ok-drawn.ensures kit laid.sides_of ends s).0 ((c.in_order-top.ensures.same s).0 there)) in
    record {
      bits = texts;
      floorplan = near;
      bank_wires = bank_writable wire c.args.layout.bank.items bank;
      wires = c.near_wires_are_writable.ensures wire 1107296256 c.in_order-top.result.items (omega arith) tops;
      labels = subst (AllByRecursion IsWritableText) (sym c.in_ok-labels.ensures) (labels_are_writable wire c.args.layout.ends c.args.signals.now laid.near_ends c.requires.signals);
    }
