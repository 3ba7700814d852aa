-- The wires of a macro's cells are those that are stated.
use Rattle.std.proofs.Common.{◌≡◌, ◌∙◌, ◌↔◌, inl, inr, ℕ, List, Contains, sym, subst}
use Rattle.std.proofs.lemmas.Option.{same_Some}
use Rattle.or_geom.specs.declared.shape.Shape.{Shape}
use Rattle.tech_rules.specs.declared.tech.Wire.{Wire}
use Rattle.sram_netlist.specs.Organization.{Organization}
use Rattle.sram_plan.specs.declared.numbers.Plan.{Plan}
use Rattle.sram_plan.specs.PlanNumbers.{organization}
use Rattle.port_lists.specs.Held.Held.{Stored}
use Rattle.leaf_tables.specs.declared.kit.Kit.{Kit}
use Rattle.leaf_tables.specs.Kits.{IsKit}
use Rattle.macro_layout.specs.LayoutKit.{LayoutKit}
use Rattle.macro_layout.specs.Floorplan.{Tracks}
use Rattle.macro_layout.specs.Wires.{IsWireInMacro}
use Rattle.macro_layout.specs.Stated.{IsWireOfCell}
use Rattle.macro_layout.specs.Layout.{Drawing}
use Rattle.macro_layout.proofs.MovedLaws.{main_channels_are_drawn}
use Rattle.floorplan.specs.LayoutOfKit.{layout_kit}
use Rattle.floorplan.specs.FloorplanNumbers.{floorplan_of}
use Rattle.sram_macro.specs.declared.assembly.Macro.{Macro}
use Rattle.sram_macro.specs.Macro.{AreWiresOf, layout_pins, IsMacro}
use Rattle.sram_macro.proofs.MainChannelLaws.{main_wires}
use Rattle.sram_macro.proofs.StatedLaws.{tracks_of, drawing_of}
use Rattle.view_cover.proofs.KitLaws.{same_wire}

-- the wires of the macro's cell, and of a bank's
pub record AreDrawnWires (plan : Organization) (kit : LayoutKit) (wire : Wire) (tracks : Tracks) (d : Drawing) : Type 0 where
  pub top : (s : Shape) → Contains d.wires s ↔ IsWireInMacro plan kit wire tracks d.floorplan s
  pub bank : (s : Shape) → Contains d.bank_wires s ↔ IsWireOfCell plan kit wire tracks d.floorplan s

pub drawn_wires : (kit : Kit) (plan : Plan) (name : List ℕ) (m : Macro) (is : IsKit kit) (made : IsMacro kit plan Stored name m) → AreDrawnWires (organization plan) (layout_kit kit) is.wire (tracks_of made.layout made.laid.column) (drawing_of kit plan Stored name m made)
drawn_wires kit plan name m is made =
    let org = organization plan in
    let lk = layout_kit kit in
    let layout = made.layout in
    let laid = made.laid.is in
    let tracks = tracks_of layout made.laid.column in
    let f = floorplan_of layout.floorplan in
    let wires = made.drawn.wires in
    let one : made.drawn.wire ≡ laid.wire = same_Some made.drawn.wire laid.wire (sym made.drawn.wired ∙ laid.wired) in
    let are = subst (λ (w : Wire). AreWiresOf org lk w layout (layout_pins org w layout) wires) one made.drawn.are in
    subst (λ (w : Wire). AreDrawnWires org lk w tracks (drawing_of kit plan Stored name m made)) (sym (same_wire kit laid.wire is laid.wired)) (record {
      top = λ s.
          let main = main_wires main_channels_are_drawn org lk laid.wire tracks f layout.main laid.main laid.stands s in (
            λ there. elim ((are.top s).0 there) [ inl m ↦ inl (main.0 m) | inr supply ↦ inr supply ],
            λ stated. (are.top s).1 (elim stated [ inl m ↦ inl (main.1 m) | inr supply ↦ inr supply ]),
          );
      bank = λ s. subst (λ (l : List Shape). Contains l s ↔ IsWireOfCell org lk laid.wire tracks f s) (sym are.bank) (laid.bank_wires layout.main.tracks s);
    })
