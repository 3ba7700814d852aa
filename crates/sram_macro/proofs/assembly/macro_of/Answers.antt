-- The macro.
use Rattle.std.proofs.Common.{◌<◌, ℕ, List, length, refl, ap, sym, subst, ◌∙◌}
use Rattle.std.specs.List.{AllByRecursion}
use Rattle.tech_rules.specs.declared.tech.Layer.{Layer}
use Rattle.sram_plan.specs.View.{IsView}
use Rattle.sram_plan.specs.PlanNumbers.{organization}
use Rattle.floorplan.specs.LayoutOfKit.{layout_kit}
use Rattle.std.proofs.lemmas.Option.{same_Some}
use Rattle.tech_rules.specs.declared.tech.Wire.{Wire}
use Rattle.macro_layout.specs.Floorplan.{IsFloorplan}
use Rattle.floorplan.specs.FloorplanNumbers.{floorplan_of}
use Rattle.sram_macro.specs.View.{macro_view}
use Rattle.sram_macro.specs.Macro.{AreWiresOf, macro_bits}
use Rattle.sram_plan.specs.declared.view.SignalPin.{SignalPin}
use Rattle.port_lists.specs.Held.{held_of}
use Rattle.sram_macro.proofs.HeldFacts.{kit_bits, leaves_for}
use Rattle.sram_macro.proofs.LabelFacts.{view_is, layers_listed}
use Rattle.sram_macro.proofs.AssemblyLaws.{space_before}
use Rattle.sram_macro.proofs.assembly.macro_of.Goals as goal

pub macro_view-requires-clause-layers : goal.macro_view-requires-clause-layers
macro_view-requires-clause-layers c =
    subst (λ (layers : List Layer). AllByRecursion (λ (index : ℕ). index < length layers) c.wire_of-wire.result.now.metals) (sym c.as_slice-layers.ensures)
    (layers_listed c.args.kit.now.tech.layers c.wire_of-wire.result.now.metals c.wire_of-wire.ensures.wire.metals)

pub written_library-requires-clause-drawing : goal.written_library-requires-clause-drawing
written_library-requires-clause-drawing c =
    let held = held_of c.args.contents in
    let bits = kit_bits c.args.kit.now c.requires.kit (organization c.args.plan.now) held c.requires.contents.cells in
    c.in_ok-wires.ensures.writable (macro_bits c.args.kit.now c.args.plan.now held) bits.names

pub returns : goal.returns
returns c =
    let plan = organization c.args.plan.now in
    let kit = layout_kit c.args.kit.now in
    let layers = c.args.kit.now.tech.layers in
    let wire = c.wire_of-wire.result.now in
    let laid = c.requires.layout.is in
    let fl = floorplan_of c.args.layout.floorplan in
    let same = same_Some laid.wire wire (sym laid.wired ∙ c.wire_of-wire.ensures.is) in
    let stands = subst (λ (w : Wire). IsFloorplan plan kit w (record { main = c.args.layout.main.tracks; column = c.requires.layout.column.tracks }) fl) same laid.stands in
    let before = space_before plan kit wire _ fl c.args.layout.ends.power_x stands c.wire_of-wire.ensures.wire.sizes.width.from laid.power.logic in
    let view = view_is layers c.args.name.now wire c.args.layout.ends c.in_ok-signals.signals.items c.wire_of-wire.ensures.wire laid.near_ends before c.in_ok-signals.ensures.writable in
    let are = c.in_ok-signals.ensures.are in
    let shown = c.in_ok-macro_view.ensures ∙ (λ i. macro_view (c.as_slice-layers.ensures i) c.args.name.now wire c.args.layout.ends c.in_ok-signals.signals.items) in
    record {
      free = c.requires.free;
      wide = c.requires.wide;
      layout = c.args.layout;
      laid = c.requires.layout;
      drawn = record {
        wire = wire;
        wired = c.wire_of-wire.ensures.is;
        wires = c.in_ok-wires.wires;
        are = subst (λ (pins : List SignalPin). AreWiresOf plan kit wire c.args.layout pins c.in_ok-wires.wires) (c.deref.ensures.value ∙ are) c.in_ok-wires.ensures.are;
        layers = c.in_ok-wires.ensures.layers;
        library = c.in_ok-lib.ensures.library;
        view = shown ∙ ap (λ (pins : List SignalPin). macro_view layers c.args.name.now wire c.args.layout.ends pins) are;
        tracks = refl;
      };
      named = c.in_ok-lib.ensures.named;
      writable = c.in_ok-lib.ensures.writable;
      deck = c.in_ok-macro_deck.ensures;
      leaves = leaves_for c.args.kit.now plan (held_of c.args.contents) c.args.name.now c.requires.kit c.requires.contents.cells c.requires.free;
      good_view = subst IsView (sym shown) view;
    }
