-- A drawing is as stated by each of two kits that differ at most in pins that aren't demanded.
use Rattle.or_geom.specs.declared.shape.Shape.{Shape}
use Rattle.tech_rules.specs.declared.tech.Wire.{Wire}
use Rattle.sram_netlist.specs.Organization.{Organization, IsBuildable}
use Rattle.macro_layout.specs.LayoutKit.{LayoutKit}
use Rattle.macro_layout.specs.Floorplan.{Tracks, IsFloorplan}
use Rattle.macro_layout.specs.Layout.{Drawing}
use Rattle.macro_layout.specs.Stated.{IsWireOfCell, IsDrawnAs}
use Rattle.asked_pins.specs.Layouts.{PinShapes, AreAlikeWhereDemanded, with_pins, AreSameLayouts}
use Rattle.asked_pins.proofs.SameLaws.{alike_back, demanded_alone}

module _ (plan : Organization) (kit : LayoutKit) (wire : Wire) (tracks : Tracks) (d : Drawing) (built : IsBuildable plan) where
  abbrev by : PinShapes → LayoutKit
  by a = with_pins kit a

  same : (a b : PinShapes) → AreAlikeWhereDemanded a b → AreSameLayouts plan (by a) (by b) wire tracks d.floorplan
  same a b alike = demanded_alone plan kit a b wire tracks d.floorplan built alike

  floorplan_alike : (a b : PinShapes) → IsFloorplan plan (by a) wire tracks d.floorplan → IsFloorplan plan (by b) wire tracks d.floorplan
  floorplan_alike a b is = record {
    logic_x = is.logic_x;
    row_x = is.row_x;
    write_y = is.write_y;
    sense_y = is.sense_y;
    column_y = is.column_y;
    array_y = is.array_y;
    precharge_y = is.precharge_y;
    bank_width = is.bank_width;
  }

  cell_alike : (a b : PinShapes) (s : Shape) → AreAlikeWhereDemanded a b → IsWireOfCell plan (by a) wire tracks d.floorplan s
      → IsWireOfCell plan (by b) wire tracks d.floorplan s
  cell_alike a b s alike w = record { inner = w.inner; is = ((same a b alike).bank w.inner).0 w.is; shifted = w.shifted }

  each_alike : (a b : PinShapes) → AreAlikeWhereDemanded a b → IsDrawnAs plan (by a) wire tracks d → IsDrawnAs plan (by b) wire tracks d
  each_alike a b alike drawn = record {
    floorplan = floorplan_alike a b drawn.floorplan;
    wires = λ s. ((λ listed. ((same a b alike).macro s).0 ((drawn.wires s).0 listed)), (λ w. (drawn.wires s).1 (((same a b alike).macro s).1 w)));
    bank_wires = λ s. ((λ listed. cell_alike a b s alike ((drawn.bank_wires s).0 listed)), (λ w. (drawn.bank_wires s).1 (cell_alike b a s (alike_back a b alike) w)));
    labels = λ l. ((λ listed. ((same a b alike).labels l).0 ((drawn.labels l).0 listed)), (λ w. (drawn.labels l).1 (((same a b alike).labels l).1 w)));
  }

pub drawn_alike : (plan : Organization) (kit : LayoutKit) (a b : PinShapes) (wire : Wire) (tracks : Tracks) (d : Drawing) → IsBuildable plan
    → AreAlikeWhereDemanded a b → IsDrawnAs plan (with_pins kit a) wire tracks d → IsDrawnAs plan (with_pins kit b) wire tracks d
drawn_alike plan kit a b wire tracks d built alike drawn = each_alike plan kit wire tracks d built a b alike drawn
